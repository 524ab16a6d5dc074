-- Document 01's refusal numbers, each "given exactly when" its row's condition holds and no row before it in that call's order does.
use Rattle.std.specs.Prelude.{ℕ, suc, ◌<◌, ◌≤◌, ◌+◌, ◌*◌, ◌-◌, ◌/◌, ◌%◌, ◌^◌, ◌≡◌, ◌↔◌, ◌⊎◌, true, false, List, [], ◌∷◌, ◌++◌, length, take, get_or, pos, negsuc, ◌+ℤ◌}
use Rattle.std.specs.Int.Signed.{mag, lt_z}
use Rattle.chunk.specs.Entry.{Entry, change, before, same}
use Rattle.chunk.specs.Words.{entries, size, nk, nv, nt, limit, well_formed, settled}
use Rattle.sort.specs.Sort.{updates}
use Rattle.reports.specs.Merge.{Place, place_at, last_of, Survives, nobody, the_first, the_second, merge_out}
use Rattle.retain.specs.Frontier.{most, ordered}
use Rattle.retain.specs.Extract.{frontier_of}
use Rattle.whole.specs.Whole.{survives}

-- a row of the table: its number, and when it is given
pub record Row : Type 1 where
  pub number : ℕ
  pub holds : Type 0

-- a row
abbrev pub row : ℕ → Type 0 → Row
row n p = record { number = n; holds = p }

-- a number is given: a row with it holds, and none before that row does
abbrev pub Given : ℕ → List Row → Type 0
Given n [] = ⊥
Given n (r ∷ rs) = ((r.number ≡ n) × r.holds) ⊎ ((r.holds → ⊥) × Given n rs)

-- no row holds
abbrev pub NoneHolds : List Row → Type 0
NoneHolds [] = Unit {0}
NoneHolds (r ∷ rs) = (r.holds → ⊥) × NoneHolds rs

-- an answer goes by these rows: each number exactly when it is given, 0 exactly when none is
pub record GoesBy (rows : List Row) (answer : ℕ) : Type 0 where
  pub refused : (n : ℕ) → (n ≡ 0 → ⊥) → (answer ≡ n) ↔ Given n rows
  pub accepted : (answer ≡ 0) ↔ NoneHolds rows

-- ---- the rows of the table

-- 1: update words not a multiple of 4
abbrev pub ragged : List ℕ → Row
ragged us = row 1 (length us % 4 ≡ 0 → ⊥)

-- 2: form, over 1,048,576 updates
abbrev pub many_updates : List ℕ → Row
many_updates us = row 2 (limit < length us / 4)

-- 2: merge, meld, the two nt add to more than that
abbrev pub many_times : List ℕ → List ℕ → Row
many_times a b = row 2 (limit < nt a + nt b)

-- the entry at a place
abbrev pub nth : List Entry → ℕ → Entry
nth es i = get_or es i (record { key = 0; val = 0; time = 0; diff = 0 })

-- some update stands before the one that it follows
pub record Falls (es : List Entry) : Type 0 where
  pub i : ℕ
  pub there : suc i < length es
  pub falls : before (nth es (suc i)) (nth es i) ≡ true

-- 3: a position falls
abbrev pub falling : List ℕ → Row
falling us = row 3 (Falls (updates us))

-- some update's diff is below −2^40, or above 2^40
pub record Outside (es : List Entry) : Type 0 where
  pub i : ℕ
  pub there : i < length es
  pub outside : (lt_z (change (nth es i).diff) (negsuc (2 ^ 40 - 1)) ≡ true) ⊎ (lt_z (pos (2 ^ 40)) (change (nth es i).diff) ≡ true)

-- 4: an update's diff is outside −2^40 to 2^40
abbrev pub out_of_range : List ℕ → Row
out_of_range us = row 4 (Outside (updates us))

-- 5: chunk not well formed
abbrev pub not_formed : List ℕ → Row
not_formed w = row 5 (well_formed w ≡ false)

-- 6: well formed, not settled
abbrev pub not_settled : List ℕ → Row
not_settled w = row 6 ((well_formed w ≡ true) × (settled w ≡ false))

-- 7: the empty chunk
abbrev pub is_empty : List ℕ → Row
is_empty w = row 7 (nt w ≡ 0)

-- a time index below nt, with its own value and key
pub record OwnPlace (w : List ℕ) (p : Place) : Type 0 where
  pub below : p.t < nt w
  pub val : p.v ≡ (place_at (entries w) p.t).v
  pub key : p.k ≡ (place_at (entries w) p.t).k

-- 8: cursor isn't that
abbrev pub bad_cursor : Place → List ℕ → Row
bad_cursor p w = row 8 (OwnPlace w p → ⊥)

-- 9: frontier over 128 corners or out of order
abbrev pub bad_frontier : ℕ → List ℕ → Row
bad_frontier count corners = row 9 ((most < count) ⊎ (ordered (take count corners) ≡ false))

-- 10: the finished kept frontier has over 128 corners
abbrev pub many_corners : ℕ → List ℕ → List ℕ → Row
many_corners count corners w = row 10 (most < length (frontier_of (take count corners) (entries w)))

-- both have entries, and the second's first is not past the first's last
pub record Behind (a b : List Entry) : Type 0 where
  pub some_first : 0 < length a
  pub some-second : 0 < length b
  pub behind : before (last_of a) (nth b 0) ≡ false

-- 11: b's first isn't past a's last
abbrev pub not_past : List ℕ → List ℕ → Row
not_past a b = row 11 (Behind (entries a) (entries b))

-- 12: merge, scratch below 3 × (nk + nv + nt of both) words
abbrev pub short_scratch : List ℕ → List ℕ → List ℕ → Row
short_scratch a b scratch = row 12 (length scratch < 3 * (nk a + nv a + nt a + (nk b + nv b + nt b)))

-- 12: survey, fewer report records than nk of both
abbrev pub few_reports : List ℕ → List ℕ → ℕ → Row
few_reports a b lent = row 12 (lent < nk a + nk b)

-- 13: an output is short of the room asked
abbrev pub short_out : ℕ → List ℕ → Row
short_out asked out = row 13 (length out < asked)

-- one of each at one position, whose sum is 2^63 or more, or below −2^63: `mag z` is n both for n and for −(n + 1)
pub record Overflow (a b : List Entry) : Type 0 where
  pub i : ℕ
  pub j : ℕ
  pub there_first : i < length a
  pub there_second : j < length b
  pub shared : same (nth a i) (nth b j) ≡ true
  pub outside : 2 ^ 63 ≤ mag (change (nth a i).diff +ℤ change (nth b j).diff)

-- 14: a sum of two diffs is outside signed 64 bits
abbrev pub overflowing : List ℕ → List ℕ → Row
overflowing a b = row 14 (Overflow (entries a) (entries b))

-- ---- each call's order

-- form 1, 2, 3, 4, 13; room 4 + 7 × updates
abbrev pub form_rows : List ℕ → List ℕ → List Row
form_rows us out = ragged us ∷ many_updates us ∷ falling us ∷ out_of_range us ∷ short_out (4 + 7 * (length us / 4)) out ∷ []

-- the unsorted entry has no 3
abbrev pub unsorted_rows : List ℕ → List ℕ → List Row
unsorted_rows us out = ragged us ∷ many_updates us ∷ out_of_range us ∷ short_out (4 + 7 * (length us / 4)) out ∷ []

-- merge 5, 6, 7 for the first, the same for the second, then 2, 12, 13, 14
abbrev pub merge_rows : List ℕ → List ℕ → List ℕ → List ℕ → List Row
merge_rows a b scratch out =
    not_formed a ∷ not_settled a ∷ is_empty a
    ∷ not_formed b ∷ not_settled b ∷ is_empty b
    ∷ many_times a b ∷ short_scratch a b scratch ∷ short_out (size a + size b - 4) out ∷ overflowing a b ∷ []

-- the room that the survivor's suffix asks: the size of the input that survives, and none where nobody does
abbrev pub rest_room : Survives → List ℕ → List ℕ → ℕ
rest_room nobody a b = 0
rest_room (the_first p) a b = size a
rest_room (the_second p) a b = size b

-- past an accepted merge: 13 for the filter of what it wrote, 13 for the survivor's suffix
abbrev pub later_rows : List ℕ → List ℕ → List ℕ → List ℕ → List ℕ → List ℕ → List Row
later_rows a b scratch out clean rest = short_out (size (merge_out a b scratch out)) clean ∷ short_out (rest_room (survives a b) a b) rest ∷ []

-- merge with its filter and the survivor's suffix: the merge's, then these
abbrev pub whole_rows : List ℕ → List ℕ → List ℕ → List ℕ → List ℕ → List ℕ → List Row
whole_rows a b scratch out clean rest = merge_rows a b scratch out ++ later_rows a b scratch out clean rest

-- survey 5, 6, 7 for each, then 12
abbrev pub survey_rows : List ℕ → List ℕ → ℕ → List Row
survey_rows a b lent =
    not_formed a ∷ not_settled a ∷ is_empty a
    ∷ not_formed b ∷ not_settled b ∷ is_empty b
    ∷ few_reports a b lent ∷ []

-- filter 5, 13
abbrev pub filter_rows : List ℕ → List ℕ → List Row
filter_rows w out = not_formed w ∷ short_out (size w) out ∷ []

-- suffix 5, 6, 7, 8, 13
abbrev pub suffix_rows : Place → List ℕ → List ℕ → List Row
suffix_rows p w out = not_formed w ∷ not_settled w ∷ is_empty w ∷ bad_cursor p w ∷ short_out (size w) out ∷ []

-- split 5, 6, 13, for either output
abbrev pub split_rows : List ℕ → List ℕ → List ℕ → List Row
split_rows w one two = not_formed w ∷ not_settled w ∷ short_out (size w) one ∷ short_out (size w) two ∷ []

-- extract 9, 5, 6, 13 for either output, 10
abbrev pub extract_rows : ℕ → List ℕ → List ℕ → List ℕ → List ℕ → List Row
extract_rows count corners w kept shipped =
    bad_frontier count corners ∷ not_formed w ∷ not_settled w
    ∷ short_out (size w) kept ∷ short_out (size w) shipped ∷ many_corners count corners w ∷ []

-- meld 5, 6, then 5, 6, then 2, 11, 13
abbrev pub meld_rows : List ℕ → List ℕ → List ℕ → List Row
meld_rows a b out =
    not_formed a ∷ not_settled a ∷ not_formed b ∷ not_settled b
    ∷ many_times a b ∷ not_past a b ∷ short_out (size a + size b - 4) out ∷ []

-- check, and the start of a walk: 5
abbrev pub check_rows : List ℕ → List Row
check_rows w = not_formed w ∷ []
