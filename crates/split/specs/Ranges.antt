-- A split of a settled chunk (document 01: "First n records, and the rest"): a range of the records is a range of each layer.
use Rattle.std.specs.Prelude.{ℕ, suc, ◌-◌, ◌<◌, ◌≤◌, min, Bool, ◌&&◌, List, ◌++◌, map, leb, ltb, length, get_or}
use Rattle.chunk.specs.declared.Range.{Range}
use Rattle.chunk.specs.Words.{nt, size, key_body, val_end_body, val_body, time_end_body, time_body, diff_body}
use Rattle.chunk.specs.Contents.{table_of}
use Rattle.laws.specs.Picked.{count_up, part}

-- whether an index is within a range
abbrev pub within : ℕ → ℕ → ℕ → Bool
within lo hi k = leb lo k && ltb k hi

-- the lists before place n end at or below a number, and those from it on above it
pub record EndsParted (ends : List ℕ) (number n : ℕ) : Type 0 where
  pub within : n ≤ length ends
  pub early : (k : ℕ) → k < n → get_or ends k 0 ≤ number
  pub late : (k : ℕ) → n ≤ k → k < length ends → number < get_or ends k 0

-- the lists that have an item of a range: those before end at or below its start, and of the others only the last ends at or above its end
pub record Span (ends : List ℕ) (items lists : Range) : Type 0 where
  pub filled : items.lower < items.upper
  pub some : lists.lower < lists.upper
  pub within : lists.upper ≤ length ends
  pub early : (k : ℕ) → k < lists.lower → get_or ends k 0 ≤ items.lower
  pub above : (k : ℕ) → lists.lower ≤ k → k < length ends → items.lower < get_or ends k 0
  pub below : (k : ℕ) → suc k < lists.upper → get_or ends k 0 < items.upper
  pub late : (k : ℕ) → lists.upper ≤ suc k → k < length ends → items.upper ≤ get_or ends k 0

-- ends counted from the start of a range, and no further than its end
abbrev pub cut_ends : Range → List ℕ → List ℕ
cut_ends r ends = map (λ (e : ℕ). min e r.upper - r.lower) ends

-- a layer's items that have a list left, and after them the ends of those lists
abbrev pub range_out : List ℕ → List ℕ → Range → Range → List ℕ
range_out items ends below here = part here.lower here.upper items ++ cut_ends below (part here.lower here.upper ends)

-- a range of each layer of a chunk, and room for the whole chunk
pub record Ranged (w : List ℕ) (ks vs ts : Range) (room : ℕ) : Type 0 where
  pub keys_in : Span (val_end_body w) vs ks
  pub vals_in : Span (time_end_body w) ts vs
  pub times_in : ts.upper ≤ nt w
  pub fits : size w ≤ room

-- the words of a range of a chunk's bodies: the table, the keys and their ends, the values and theirs, the times, theirs and the diffs
abbrev pub ranges_out : List ℕ → Range → Range → Range → List ℕ
ranges_out w ks vs ts =
    let n : ℕ = ts.upper - ts.lower in
    table_of (ks.upper - ks.lower) (vs.upper - vs.lower) n n
    ++ (range_out (key_body w) (val_end_body w) vs ks ++ (range_out (val_body w) (time_end_body w) ts vs
    ++ (part ts.lower ts.upper (time_body w) ++ (count_up 0 n ++ part ts.lower ts.upper (diff_body w)))))
