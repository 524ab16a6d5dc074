-- Layers on their way: what is written of a layer, with what is left to write, is the whole layer.
use Rattle.std.specs.Prelude.{ℕ, ◌+◌, ◌-◌, ◌≤◌, ◌≡◌, Bool, true, List, length, get_or, take, drop}
use Rattle.std.proofs.lemmas.List.Edits.{sets}
use Rattle.chunk.specs.Words.{rises_from}
use Rattle.chunk.specs.Contents.{start_of}
use Rattle.laws.specs.Picked.{count_kept, count_up, nodes, item_of, end_of}
use Rattle.retain.specs.Layers.{pick_at, nodes_out, leaves_out}

-- what is left to say of the lists from i on
abbrev pub nodes_from : {B : Type 0} → (ℕ → Bool) → List ℕ → List ℕ → (ℕ → ℕ → B) → ℕ → ℕ → ℕ → List B
nodes_from m items ends g start total i = nodes m g start total (drop i items) (drop i ends)

-- items and ends: so many are written once the lists before i are looked at, whose items end at `start`, `total` of them staying
pub record Writing (m : ℕ → Bool) (items ends : List ℕ) (n : ℕ) (out : List ℕ) (start total at i : ℕ) : Type 0 where
  pub here : start ≡ start_of ends i
  pub rise : rises_from start (drop i ends) ≡ true
  pub under : total ≤ start
  pub place : at + length (nodes_from m items ends item_of start total i) ≡ n
  pub room : length out ≡ n + n
  pub whole : sets (sets out at (nodes_from m items ends item_of start total i)) (n + at) (nodes_from m items ends end_of start total i) ≡ nodes_out m items ends

-- what is left to write of the times from i on
abbrev pub pick_from : (ℕ → Bool) → List ℕ → (ℕ → ℕ) → ℕ → List ℕ
pick_from m times f i = pick_at m f i (length times - i)

-- times and their diffs: so many are written once those before i are looked at; the ends of their diffs come last
pub record Leaving (m : ℕ → Bool) (times diff_ends diffs : List ℕ) (n : ℕ) (out : List ℕ) (at i : ℕ) : Type 0 where
  pub place : at + count_kept m i (length times - i) ≡ n
  pub room : length out ≡ n + (n + n)
  pub whole : sets (sets (sets out at (pick_from m times (λ (t : ℕ). get_or times t 0) i)) (n + n + at) (pick_from m times (λ (t : ℕ). get_or diffs (start_of diff_ends t) 0) i)) n (count_up 0 n)
      ≡ leaves_out m times diff_ends diffs

-- values with their ends, and behind them the times of those that are looked at
pub record Woven (m : ℕ → Bool) (vals time_ends times diff_ends diffs : List ℕ) (v t : ℕ) (out : List ℕ) (start total at i : ℕ) : Type 0 where
  pub size : length out ≡ (v + v) + (t + (t + t))
  pub values : Writing m vals time_ends v (take (v + v) out) start total at i
  pub leaves : Leaving m times diff_ends diffs t (drop (v + v) out) total start
