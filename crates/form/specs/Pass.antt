-- The two passes of `form` over updates that do not fall (document 01, "Form"): "Diffs with equal (key, value, time) are added, zero sums
-- dropped, and the settled chunk written". The first pass counts what the second writes, entry by entry.
use Rattle.std.specs.Prelude.{◌≡◌, ℕ, ◌+◌, ◌-◌, ◌*◌, ◌/◌, ◌%◌, ◌≤◌, min, Bool, cond, not, ◌||◌, List, [], ◌∷◌, length, set, ◌==◌, nat_lt, slice_set, Result, Ok, Err}
use Rattle.chunk.specs.declared.Contents.{Contents}
use Rattle.chunk.specs.declared.Refusal.{Refusal}
use Rattle.chunk.specs.Answer.{number_of}
use Rattle.chunk.specs.Contents.{layout_of}
use Rattle.chunk.specs.Entry.{Entry, same, stands, every}
use Rattle.chunk.specs.Refusal.{first, refuse}
use Rattle.chunk.specs.Sums.{plus, with_diff}
use Rattle.chunk.specs.Words.{limit}
use Rattle.sort.specs.Sort.{entry_of}
use Rattle.sort.specs.declared.Update.{Update}
use Rattle.form.specs.declared.Counts.{Counts}
use Rattle.form.specs.declared.Consolidating.{Consolidating}
use Rattle.form.specs.declared.Sizes.{Sizes}
use Rattle.form.specs.Form.{formed, falls, in_range}

-- an entry, as an update in the code
abbrev pub update_of : Entry → Update
update_of e = record { key = e.key; val = e.val; time = e.time; diff = e.diff }

-- before the first update: no change at the least position
abbrev pub no_update : Update
no_update = record { key = 0; val = 0; time = 0; diff = 0 }

-- nothing written
abbrev pub no_counts : Counts
no_counts = record { nk = 0; nv = 0; nt = 0; last = no_update }

-- an entry opens a list of values if it is the first, or its key is not the last one's
abbrev pub opens_key : Counts → Entry → Bool
opens_key c e = c.nt == 0 || not (c.last.key == e.key)

-- it opens a list of times if it opens one of values, or its value is not the last one's
abbrev pub opens_val : Counts → Entry → Bool
opens_val c e = opens_key c e || not (c.last.val == e.val)

-- the counts with one entry more
abbrev pub counted : Counts → Entry → Counts
counted c e =
    record {
      nk = cond (opens_key c e) (c.nk + 1) c.nk;
      nv = cond (opens_val c e) (c.nv + 1) c.nv;
      nt = c.nt + 1;
      last = update_of e;
    }

-- with all of these
unfoldable pub count_from : Counts → List Entry → Counts
count_from c [] = c
count_from c (e ∷ es) = count_from (counted c e) es

-- the last entry counted, stored into the seven bodies: its key, value, time and diff, and the ends of the lists that it stands in
abbrev pub stored : Contents → Counts → List ℕ → List ℕ
stored p c out =
    let k : ℕ = c.nk - 1 in
    let v : ℕ = c.nv - 1 in
    let t : ℕ = c.nt - 1 in
    let a : List ℕ = set out (p.keys_at + k) c.last.key in
    let b : List ℕ = set a (p.val_ends_at + k) c.nv in
    let d : List ℕ = set b (p.vals_at + v) c.last.val in
    let e : List ℕ = set d (p.time_ends_at + v) c.nt in
    let f : List ℕ = set e (p.times_at + t) c.last.time in
    let g : List ℕ = set f (p.diff_ends_at + t) c.nt in
    slice_set g (p.diffs_at + t) c.last.diff

-- all of these stored, one after the other
unfoldable pub write_from : Contents → Counts → List Entry → List ℕ → List ℕ
write_from p c [] out = out
write_from p c (e ∷ es) out = write_from p (counted c e) es (stored p (counted c e) out)

-- an entry is counted if it stands
abbrev pub pushed : Counts → Entry → Counts
pushed c e = cond (stands e) (counted c e) c

-- and stored
abbrev pub pushed_out : Contents → Counts → Entry → List ℕ → List ℕ
pushed_out p c e out = cond (stands e) (stored p (counted c e) out) out

-- the pending entry with an update at its position added
abbrev pub joined : Entry → Entry → Entry
joined a b = with_diff a (plus a.diff b.diff)

-- an update at another position ends what is pending, which is counted then
abbrev pub next_counts : Counts → Entry → Entry → Counts
next_counts c a b = cond (same a b) c (pushed c a)

-- and is pending after it
abbrev pub next_pending : Entry → Entry → Entry
next_pending a b = cond (same a b) (joined a b) b

-- what was pending is stored then
abbrev pub next_out : Contents → Counts → Entry → Entry → List ℕ → List ℕ
next_out p c a b out = cond (same a b) out (pushed_out p c a out)

-- what a pass has after one update more
pub record Taken (s : Consolidating) (u : Update) (r : Consolidating) : Type 0 where
  pub counts : r.counts ≡ next_counts s.counts (entry_of s.pending) (entry_of u)
  pub pending : entry_of r.pending ≡ next_pending (entry_of s.pending) (entry_of u)

-- and what is stored then
pub record Stored (p : Contents) (s : Consolidating) (u : Update) (out : List ℕ) (r : Consolidating) (after : List ℕ) : Type 0 where
  pub taken : Taken s u r
  pub stores : after ≡ next_out p s.counts (entry_of s.pending) (entry_of u) out

-- an entry counted and stored, if it stands
pub record Pushed (p : Contents) (c : Counts) (u : Update) (out : List ℕ) (r : Counts) (after : List ℕ) : Type 0 where
  pub counts : r ≡ pushed c (entry_of u)
  pub stores : after ≡ pushed_out p c (entry_of u) out

-- counts of at most n each, of which those of keys and of values are not 0 if there is an entry
pub record Counting (n : ℕ) (c : Counts) : Type 0 where
  pub keys : c.nk ≤ n
  pub vals : c.nv ≤ n
  pub times : c.nt ≤ n
  pub keyed : min 1 c.nt ≤ c.nk
  pub valued : min 1 c.nt ≤ c.nv

-- the output holds each body up to these counts
pub record Roomy (p : Contents) (c : Counts) (out : List ℕ) : Type 0 where
  pub keys : p.keys_at + c.nk ≤ length out
  pub val_ends : p.val_ends_at + c.nk ≤ length out
  pub vals : p.vals_at + c.nv ≤ length out
  pub time_ends : p.time_ends_at + c.nv ≤ length out
  pub times : p.times_at + c.nt ≤ length out
  pub diff_ends : p.diff_ends_at + c.nt ≤ length out
  pub diffs : p.diffs_at + c.nt ≤ length out

-- an entry was counted, so each count is at least one
pub record Some (c : Counts) : Type 0 where
  pub key : 1 ≤ c.nk
  pub val : 1 ≤ c.nv
  pub time : 1 ≤ c.nt

-- the refusals that the count of words shows
unfoldable pub count_number : ℕ → ℕ
unfolding first
count_number n = first (refuse 1 (not (n % 4 == 0)) ∷ refuse 2 (nat_lt limit (n / 4)) ∷ [])

-- how many updates that many words are, or the refusal
abbrev pub Counted : ℕ → Result ℕ Refusal → Type 0
Counted n (Ok k) = (count_number n ≡ 0) × (k ≡ n / 4)
Counted n (Err e) = number_of e ≡ count_number n

-- the number of a survey: 3 where a position falls, else 4 where a diff is out of range
unfoldable pub survey_number : List Entry → ℕ
unfolding first falls every
survey_number es = first (refuse 3 (falls es) ∷ refuse 4 (not (every in_range es)) ∷ [])

-- the counts of all that is formed
abbrev pub final_counts : List Entry → Counts
final_counts es = count_from no_counts (formed es)

-- how many keys, values and times are counted
abbrev pub sizes_of : Counts → Sizes
sizes_of c = record { nk = c.nk; nv = c.nv; nt = c.nt }

-- what the first pass finds: the sizes of what is formed, or the refusal
abbrev pub Surveyed : List Entry → Result Sizes Refusal → Type 0
Surveyed es (Ok s) = (survey_number es ≡ 0) × (s ≡ sizes_of (final_counts es))
Surveyed es (Err e) = number_of e ≡ survey_number es

-- the places are those of what is formed, in an output that holds it
pub record Placed (es : List Entry) (p : Contents) (out : List ℕ) : Type 0 where
  pub laid : p ≡ layout_of (final_counts es).nk (final_counts es).nv (final_counts es).nt (final_counts es).nt
  pub room : p.size ≤ length out

-- updates that a chunk can hold, and an output that holds the room asked for them
pub record Accepts (es : List Entry) (out : List ℕ) : Type 0 where
  pub few : length es ≤ limit
  pub room : 4 + 7 * length es ≤ length out
