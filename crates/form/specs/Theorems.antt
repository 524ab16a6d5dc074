-- What forming does to updates (document 01, "Form" and "Refusal numbers"): "Diffs with equal (key, value, time) are added, zero sums
-- dropped, and the settled chunk written", and "Since form's diffs are bounded, its sums never overflow". Each statement is a type here, and
-- a theorem under the same words in `proofs/Formed.antt`, of lists, and `proofs/Says.antt`, of the calls.
use Rattle.std.specs.Prelude.{◌≡◌, ℕ, ◌%◌, ◌≤◌, true, false, List, length}
use Rattle.chunk.specs.Entry.{Entry, rising, stands, every}
use Rattle.chunk.specs.Words.{limit, well_formed, settled, entries}
use Rattle.chunk.specs.Sums.{total}
use Rattle.laws.specs.OneChunk.{fits}
use Rattle.sort.specs.Sort.{updates, sort}
use Rattle.sort.specs.Heap.{Perm}
use Rattle.form.specs.Form.{formed, falls, in_range, form_number, form_out, unsorted_number, unsorted_out, unsorted_updates}

-- updates that never fall form strictly rising positions
abbrev pub FormedRises : Type 0
FormedRises = (es : List Entry) → falls es ≡ false → rising (formed es) ≡ true

-- no zero sum is left
abbrev pub FormedStands : Type 0
FormedStands = (es : List Entry) → every stands (formed es) ≡ true

-- forming never makes more of them
abbrev pub FormedLength : Type 0
FormedLength = (es : List Entry) → length (formed es) ≤ length es

-- what is formed says, at each position, the whole-number sum of the updates there: no sum overflows
abbrev pub FormedTotal : Type 0
FormedTotal =
    (k v t : ℕ) (es : List Entry) → every in_range es ≡ true → length es ≤ limit
    → total k v t (formed es) ≡ total k v t es

-- diffs that are machine words stay so
abbrev pub FormedFits : Type 0
FormedFits = (es : List Entry) → every fits es ≡ true → every fits (formed es) ≡ true

-- updates in any order form the same list
abbrev pub FormPermuted : Type 0
FormPermuted = (es fs : List Entry) → Perm es fs → every fits es ≡ true → formed (sort es) ≡ formed (sort fs)

-- ---- the calls

-- a slice with a settled chunk at its front that says, at each position, the whole-number sum of the updates there
pub record SaysSums (us w : List ℕ) : Type 0 where
  pub formed : well_formed w ≡ true
  pub settles : settled w ≡ true
  pub sums : (k v t : ℕ) → total k v t (entries w) ≡ total k v t (updates us)

-- where `form` is accepted, that is what it leaves in `out`
abbrev pub FormSays : Type 0
FormSays = (us out : List ℕ) → form_number us out ≡ 0 → SaysSums us (form_out us out)

-- and so does `form_unsorted`
abbrev pub UnsortedSays : Type 0
UnsortedSays = (us out : List ℕ) → unsorted_number us out ≡ 0 → SaysSums us (unsorted_out us out)

-- two calls that answer the same, write the same, and where they are accepted leave the same updates
pub record Alike (us vs out : List ℕ) : Type 0 where
  pub number : unsorted_number us out ≡ unsorted_number vs out
  pub written : unsorted_out us out ≡ unsorted_out vs out
  pub left : unsorted_number us out ≡ 0 → unsorted_updates us out ≡ unsorted_updates vs out

-- updates in any order get the same answer, the same chunk and the same order
abbrev pub UnsortedPermuted : Type 0
UnsortedPermuted =
    (us vs out : List ℕ) → length us % 4 ≡ 0 → length vs % 4 ≡ 0 → Perm (updates us) (updates vs) → every fits (updates us) ≡ true
    → Alike us vs out
