-- The core of filter and extract (document 01: "Times without a diff go, then values and keys left without children"):
-- what is written of each layer once times are filtered. Which times are filtered out is a test on their index.
use Rattle.std.specs.Prelude.{ℕ, zero, suc, ◌<◌, ◌≤◌, ◌≡◌, Bool, true, cond, List, [], ◌∷◌, ◌++◌, ltb, length, get_or}
use Rattle.chunk.specs.Words.{limit}
use Rattle.chunk.specs.Contents.{start_of, table_of}
use Rattle.laws.specs.Picked.{count_kept, count_up, nodes, item_of, end_of, list_kept, Over}

-- a test as a number
unfoldable pub bit : Bool → ℕ
bit b = cond b 1 0

-- what f says at each of the n indices from i on that pass
unfoldable pub pick_at : (ℕ → Bool) → (ℕ → ℕ) → ℕ → ℕ → List ℕ
pick_at m f i zero = []
pick_at m f i (suc n) = cond (m i) (f i ∷ pick_at m f (suc i) n) (pick_at m f (suc i) n)

-- a layer's items that have a list left, and after them the ends of those lists
abbrev pub nodes_out : (ℕ → Bool) → List ℕ → List ℕ → List ℕ
nodes_out m items ends = nodes m item_of 0 0 items ends ++ nodes m end_of 0 0 items ends

-- how many lists have an item that passes, and how many items of theirs do
pub record ListsLeft (m : ℕ → Bool) (ends : List ℕ) (l n : ℕ) : Type 0 where
  pub lists : l ≡ count_kept (list_kept m ends) 0 (length ends)
  pub items : n ≡ count_kept m 0 (start_of ends (length ends))

-- whether time i has a diff
abbrev pub has_diff : List ℕ → ℕ → Bool
has_diff diff_ends i = ltb (start_of diff_ends i) (get_or diff_ends i 0)

-- the times that stay, then the ends of their lists, one diff each, then the diffs
abbrev pub leaves_out : (ℕ → Bool) → List ℕ → List ℕ → List ℕ → List ℕ
leaves_out m times diff_ends diffs =
    let n : ℕ = length times in
    pick_at m (λ (t : ℕ). get_or times t 0) 0 n
    ++ (count_up 0 (count_kept m 0 n) ++ pick_at m (λ (t : ℕ). get_or diffs (start_of diff_ends t) 0) 0 n)

-- a list that has an item starts below the count of items
abbrev pub EndsWithin : List ℕ → ℕ → Type 0
EndsWithin ends n = (i : ℕ) → has_diff ends i ≡ true → start_of ends i < n

-- each end is the one before it or one more
abbrev pub EndsStep : List ℕ → Type 0
EndsStep ends = (i : ℕ) → i < length ends → (start_of ends i ≤ get_or ends i 0) × (get_or ends i 0 ≤ suc (start_of ends i))

-- each time has a diff
abbrev pub AllDiffs : List ℕ → List ℕ → Type 0
AllDiffs times diff_ends = (i : ℕ) → i < length times → has_diff diff_ends i ≡ true

-- seven bodies that belong together: lists below the keys and below the values, and diff ends that step, within the diffs
pub record Bodies (keys val_ends vals time_ends times diff_ends diffs : List ℕ) : Type 0 where
  pub over_vals : Over keys val_ends (length vals)
  pub over_times : Over vals time_ends (length times)
  pub time_rows : length diff_ends ≡ length times
  pub diffs_within : EndsWithin diff_ends (length diffs)
  pub diffs_step : EndsStep diff_ends

-- what is left of each layer, within the limit
pub record Left (m : ℕ → Bool) (keys val_ends vals time_ends times : List ℕ) (k v t : ℕ) : Type 0 where
  pub keys_left : k ≡ length (nodes (list_kept m time_ends) item_of 0 0 keys val_ends)
  pub vals_left : v ≡ length (nodes m item_of 0 0 vals time_ends)
  pub times_left : t ≡ count_kept m 0 (length times)
  pub few_keys : k ≤ limit
  pub few_vals : v ≤ limit
  pub few_times : t ≤ limit

-- the words of what stays of seven bodies: the keys and their ends, the values and theirs, the times, theirs and the diffs
abbrev pub bodies_out : (ℕ → Bool) → List ℕ → List ℕ → List ℕ → List ℕ → List ℕ → List ℕ → List ℕ → List ℕ
bodies_out m keys val_ends vals time_ends times diff_ends diffs =
    nodes_out (list_kept m time_ends) keys val_ends ++ (nodes_out m vals time_ends ++ leaves_out m times diff_ends diffs)

-- the table of so many, and these behind it
abbrev pub layers_out : (ℕ → Bool) → List ℕ → List ℕ → List ℕ → List ℕ → List ℕ → List ℕ → List ℕ → ℕ → ℕ → ℕ → List ℕ
layers_out m keys val_ends vals time_ends times diff_ends diffs k v t = table_of k v t t ++ bodies_out m keys val_ends vals time_ends times diff_ends diffs
