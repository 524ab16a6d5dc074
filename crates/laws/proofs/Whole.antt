-- The whole chunk as it is, and the empty one.
use Prim.Native.Nat.{ℕ, ◌≤◌}
use mathlib.Core.Path.{◌≡◌, sym, ◌∙◌, ap}
use mathlib.Core.Bool.{true}
use mathlib.Core.List.{List}
use native.Mathlib.Omega.{arith}
use lib.ListN.{length, take}
use lib.Seq.{length-take-le, sets}
use Rattle.chunk.specs.declared.Contents.{Contents}
use Rattle.chunk.specs.Entry.{Entry, keep}
use Rattle.chunk.specs.Bodies.{chunk_of, lasts_of, ends_of, diff_ends_from}
use Rattle.chunk.specs.Words.{well_formed, entries, over, size}
use Rattle.chunk.specs.Contents.{with_table, Placed}
use Rattle.laws.proofs.Lists.{no_length}
use Rattle.laws.proofs.OneChunk.{front_is_chunk}
use Rattle.laws.proofs.Parts.{table_front}
use Rattle.laws.proofs.Stores.{sets_front}

-- the front of the words is the chunk of their entries
pub as_it_is : (w : List ℕ) → well_formed w ≡ true → (out : List ℕ) (n : ℕ) → n ≡ size w → size w ≤ length w → size w ≤ length out → sets out 0 (take n w) ≡ over (chunk_of (entries w)) out
as_it_is w formed out n e a b =
    let l : length (take n w) ≡ n = length-take-le n w (omega arith) in
    sets_front (take n w) out (omega arith) ∙ ap (λ (j : ℕ). over (take j w) out) e ∙ ap (λ (c : List ℕ). over c out) (front_is_chunk w formed).front

-- the empty table is the chunk of none
pub of_none : (es : List Entry) (out : List ℕ) → length es ≡ 0 → 4 ≤ length out → with_table 0 0 0 0 out ≡ over (chunk_of es) out
unfolding chunk_of lasts_of keep ends_of diff_ends_from
of_none es out h b = table_front 0 0 0 0 out b ∙ ap (λ (fs : List Entry). over (chunk_of fs) out) (sym (no_length es h))

-- the front is as long as it says
pub front_length : (found : Contents) (w : List ℕ) → Placed found w → length (take found.size w) ≡ found.size
front_length found w p = length-take-le found.size w (omega (arith, p.sized, p.within))
