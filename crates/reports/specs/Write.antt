-- What reports name, and when the reports of one layer lie under those of the layer above (document 01, "Merge"; "each layer is written into
-- its own part of the output"): the layers are written from them, runs of one input as ranges.
use Rattle.std.specs.Prelude.{ℕ, zero, suc, ◌+◌, ◌-◌, ◌^◌, ◌%◌, ◌<◌, ◌≤◌, Bool, true, cond, ◌≡◌, List, [], ◌∷◌, ◌++◌, ltb, length, get_or, take, drop}
use Rattle.chunk.specs.Entry.{Entry}
use Rattle.chunk.specs.Sums.{plus}
use Rattle.chunk.specs.Words.{limit, rises}
use Rattle.chunk.specs.Contents.{start_of}
use Rattle.meld.specs.Copy.{shifted_all}
use Rattle.reports.specs.Survey.{Report, this, that, both}
use Rattle.reports.specs.Scratch.{placed}
use Rattle.reports.specs.Theorems.{summed}

-- the items that a report names: a run of one input, or the shared item
abbrev pub named {ℓ} : {A : Type ℓ} → List A → List A → Report → List A
named a b (this l h) = take (h - l) (drop l a)
named a b (that l h) = take (h - l) (drop l b)
named a b (both i j) = take 1 (drop i a)

-- the items that several name, one after another
unfoldable pub items_by {ℓ} : {A : Type ℓ} → List A → List A → List Report → List A
items_by a b [] = []
items_by a b (r ∷ rs) = named a b r ++ items_by a b rs

-- two entries at one position as one
abbrev pub added_to : List Entry → List Entry → List Entry
added_to (x ∷ xs) (y ∷ ys) = summed x y ∷ []
added_to (x ∷ xs) [] = x ∷ []
added_to [] ys = []

-- the entries that a report of times names: a shared one with the sum of both diffs
abbrev pub entries_of : List Entry → List Entry → Report → List Entry
entries_of a b (this l h) = take (h - l) (drop l a)
entries_of a b (that l h) = take (h - l) (drop l b)
entries_of a b (both i j) = added_to (take 1 (drop i a)) (take 1 (drop j b))

-- the entries that the reports of the times name
unfoldable pub entries_by : List Entry → List Entry → List Report → List Entry
entries_by a b [] = []
entries_by a b (r ∷ rs) = entries_of a b r ++ entries_by a b rs

-- the items from x to y are those of the lists from l to h, of which the first may start late and the last end early, but none is empty
pub record Run (ends : List ℕ) (l h x y : ℕ) : Type 0 where
  pub some : l < h
  pub there : h ≤ length ends
  pub from : start_of ends l ≤ x
  pub reached : x < get_or ends l 0
  pub left : start_of ends (h - 1) < y
  pub to : y ≤ get_or ends (h - 1) 0
  pub full : x < y

-- reports that name, in order, items of a range of each input
abbrev pub Inside : ℕ → ℕ → ℕ → ℕ → List Report → Type 0
Inside low0 high0 low1 high1 [] = Unit {0}
Inside low0 high0 low1 high1 (this x y ∷ rs) = (low0 ≤ x) × (x < y) × (y ≤ high0) × Inside y high0 low1 high1 rs
Inside low0 high0 low1 high1 (that x y ∷ rs) = (low1 ≤ x) × (x < y) × (y ≤ high1) × Inside low0 high0 y high1 rs
Inside low0 high0 low1 high1 (both i j ∷ rs) =
    (low0 ≤ i) × (i < high0) × (low1 ≤ j) × (j < high1) × Inside (suc i) high0 (suc j) high1 rs

-- some reports that name items of list i of the first and of list j of the second
pub record Shared (ends0 ends1 : List ℕ) (i j : ℕ) (g : List Report) : Type 0 where
  pub there0 : i < length ends0
  pub there1 : j < length ends1
  pub some : 0 < length g
  pub inside : Inside (start_of ends0 i) (get_or ends0 i 0) (start_of ends1 j) (get_or ends1 j 0) g

-- reports of items that lie, in order, under reports of their lists
pub data Under (ends0 ends1 : List ℕ) : List Report → List Report → Type 0 where
  ended : Under ends0 ends1 [] []
  first : {l h x y : ℕ} {ls is : List Report} → Run ends0 l h x y → Under ends0 ends1 ls is
      → Under ends0 ends1 (this l h ∷ ls) (this x y ∷ is)
  second : {l h x y : ℕ} {ls is : List Report} → Run ends1 l h x y → Under ends0 ends1 ls is
      → Under ends0 ends1 (that l h ∷ ls) (that x y ∷ is)
  shared : {i j : ℕ} {ls is js : List Report} (g : List Report) → Shared ends0 ends1 i j g
      → js ≡ g ++ is → Under ends0 ends1 ls is → Under ends0 ends1 (both i j ∷ ls) js

-- words from one place to another, and a place of the output for them
pub record Room (from to at words out : ℕ) : Type 0 where
  pub ordered : from ≤ to
  pub within : to ≤ words
  pub fits : at + (to - from) ≤ out

-- how many items a report names
abbrev pub width : Report → ℕ
width (this l h) = h - l
width (that l h) = h - l
width (both i j) = 1

-- how many items several name
unfoldable pub widths : List Report → ℕ
widths [] = 0
widths (r ∷ rs) = width r + widths rs

-- the range that a report names is there, in inputs of so many items
abbrev pub Serves : ℕ → ℕ → Report → Type 0
Serves n m (this l h) = (l ≤ h) × (h ≤ n)
Serves n m (that l h) = (l ≤ h) × (h ≤ m)
Serves n m (both i j) = (i < n) × (j < m)

-- so are the ranges of several
abbrev pub AllServe : ℕ → ℕ → List Report → Type 0
AllServe n m [] = Unit {0}
AllServe n m (r ∷ rs) = Serves n m r × AllServe n m rs

-- the range that a report names is there, and so is the room for its items
pub record RunRoom (n m : ℕ) (r : Report) (at room : ℕ) : Type 0 where
  pub serves : Serves n m r
  pub fits : at + width r ≤ room

-- the same of several reports
pub record RunsRoom (n m : ℕ) (rs : List Report) (at room : ℕ) : Type 0 where
  pub serves : AllServe n m rs
  pub fits : at + widths rs ≤ room

-- ---- the ends of the lists that reports name

-- a report starts short of the ends of two lists
abbrev pub starts_in : ℕ → ℕ → Report → Bool
starts_in end0 end1 (this l h) = ltb l end0
starts_in end0 end1 (that l h) = ltb l end1
starts_in end0 end1 (both i j) = ltb i end0

-- the reports from the front that do
unfoldable pub inside_from : ℕ → ℕ → List Report → List Report
inside_from end0 end1 [] = []
inside_from end0 end1 (r ∷ rs) = cond (starts_in end0 end1 r) (r ∷ inside_from end0 end1 rs) []

-- how many reports of items lie under a report of lists: one for a run of lists, those of the two lists for a shared one
unfoldable pub group_size : List ℕ → List ℕ → Report → List Report → ℕ
unfolding inside_from
group_size ends0 ends1 (this l h) is = 1
group_size ends0 ends1 (that l h) is = 1
group_size ends0 ends1 (both i j) is = length (inside_from (get_or ends0 i 0) (get_or ends1 j 0) is)

-- where a report's range starts
abbrev pub low_of : Report → ℕ
low_of (this l h) = l
low_of (that l h) = l
low_of (both i j) = i

-- the start of the first
abbrev pub first_low : List Report → ℕ
first_low [] = 0
first_low (r ∷ rs) = low_of r

-- what is added to an end, in 64 bits, so that the item at `x` is counted as the one after `base` others
abbrev pub wrapped : ℕ → ℕ → ℕ
wrapped base x = (base + (2 ^ 64 - x)) % 2 ^ 64

-- ends that follow one another, where they rise: the last is as far above the first as it stands past it
pub record InRow (ends : List ℕ) : Type 0 where
  pub some : 0 < length ends
  pub last : get_or ends (length ends - 1) 0 ≡ get_or ends 0 0 + (length ends - 1)

-- the ends of the lists of one report: those before the last list shifted by a constant, and the last one where its items end
unfoldable pub list_ends : List ℕ → List ℕ → Report → ℕ → ℕ → ℕ → List ℕ
list_ends ends0 ends1 (this l h) x base next = shifted_all (wrapped base x) (take (h - 1 - l) (drop l ends0)) ++ (next ∷ [])
list_ends ends0 ends1 (that l h) x base next = shifted_all (wrapped base x) (take (h - 1 - l) (drop l ends1)) ++ (next ∷ [])
list_ends ends0 ends1 (both i j) x base next = next ∷ []

-- the ends of the lists of several
unfoldable pub ends_by : List ℕ → List ℕ → ℕ → List Report → List Report → List ℕ
unfolding group_size widths list_ends
ends_by ends0 ends1 base [] is = []
ends_by ends0 ends1 base (r ∷ rs) is =
    list_ends ends0 ends1 r (first_low is) base (base + widths (take (group_size ends0 ends1 r is) is))
    ++ ends_by ends0 ends1 (base + widths (take (group_size ends0 ends1 r is) is)) rs (drop (group_size ends0 ends1 r is) is)

-- each report of lists has its lists there, and reports of items under it
abbrev pub Found : List ℕ → List ℕ → List Report → List Report → Type 0
Found ends0 ends1 [] is = Unit {0}
Found ends0 ends1 (r ∷ rs) is =
    Serves (length ends0) (length ends1) r × (1 ≤ width r) × (1 ≤ group_size ends0 ends1 r is) × (group_size ends0 ends1 r is ≤ length is)
    × Found ends0 ends1 rs (drop (group_size ends0 ends1 r is) is)

-- a range that goes up
abbrev pub Rising : Report → Type 0
Rising (this l h) = l ≤ h
Rising (that l h) = l ≤ h
Rising (both i j) = Unit {0}

-- so does every one of several
abbrev pub Upward : List Report → Type 0
Upward [] = Unit {0}
Upward (r ∷ rs) = Rising r × Upward rs

-- ranges that go up, few items in all
pub record Counting (rs : List Report) (base : ℕ) : Type 0 where
  pub upward : Upward rs
  pub small : base + widths rs ≤ limit

-- a report of lists that are there, and room for its ends
pub record ListRoom (ends0 ends1 : List ℕ) (r : Report) (base next at room : ℕ) : Type 0 where
  pub serves : Serves (length ends0) (length ends1) r
  pub rise0 : rises ends0 ≡ true
  pub rise1 : rises ends1 ≡ true
  pub some : 1 ≤ width r
  pub fits : at + width r ≤ room
  pub small : next ≤ limit
  pub grows : base ≤ next

-- reports of lists, those of their items, and room for the ends
pub record EndsRoom (ends0 ends1 : List ℕ) (ls is : List Report) (base at room : ℕ) : Type 0 where
  pub rise0 : rises ends0 ≡ true
  pub rise1 : rises ends1 ≡ true
  pub found : Found ends0 ends1 ls is
  pub counting : Counting is base
  pub fits : at + widths ls ≤ room

-- ---- diffs

-- a sum as a diff list: 0 is the empty one
abbrev pub diff_list : ℕ → List ℕ
diff_list zero = []
diff_list (suc n) = suc n ∷ []

-- the diffs of one report of times, of inputs with one diff for each time: a shared time has the sum in 64 bits, or none where that is 0
abbrev pub diff_of : List ℕ → List ℕ → Report → List ℕ
diff_of a b (this l h) = named a b (this l h)
diff_of a b (that l h) = named a b (that l h)
diff_of a b (both i j) = diff_list (plus (get_or a i 0) (get_or b j 0))

-- the diffs of several
unfoldable pub diffs_by : List ℕ → List ℕ → List Report → List ℕ
diffs_by a b [] = []
diffs_by a b (r ∷ rs) = diff_of a b r ++ diffs_by a b rs

-- the diff ends of several, `base` diffs standing before them
unfoldable pub diff_ends_by : List ℕ → List ℕ → List ℕ → List ℕ → ℕ → List Report → List ℕ
unfolding list_ends
diff_ends_by ends0 ends1 a b base [] = []
diff_ends_by ends0 ends1 a b base (r ∷ rs) =
    list_ends ends0 ends1 r (low_of r) base (base + length (diff_of a b r)) ++ diff_ends_by ends0 ends1 a b (base + length (diff_of a b r)) rs

-- every report names something
abbrev pub AllSome : List Report → Type 0
AllSome [] = Unit {0}
AllSome (r ∷ rs) = (1 ≤ width r) × AllSome rs

-- reports of times with an end for each diff of both inputs, few diffs in all, and room for the ends
pub record DiffsRoom (ends0 ends1 a b : List ℕ) (rs : List Report) (base at room : ℕ) : Type 0 where
  pub runs : RunsRoom (length a) (length b) rs at room
  pub some : AllSome rs
  pub long0 : length ends0 ≡ length a
  pub long1 : length ends1 ≡ length b
  pub rise0 : rises ends0 ≡ true
  pub rise1 : rises ends1 ≡ true
  pub small : base + widths rs ≤ limit

-- a layer in its two places: the ends of the lists that `ls` name, and the items that `is` name
abbrev pub layer_by : List ℕ → List ℕ → List ℕ → List ℕ → List Report → List Report → ℕ → ℕ → List ℕ → List ℕ
layer_by ends0 items0 ends1 items1 ls is ends_at items_at out =
    placed items_at (items_by items0 items1 is) (placed ends_at (ends_by ends0 ends1 0 ls is) out)
