-- Demand 3: no change is lost or made up, whatever calls are made. What is held, what forms took in, and what each call does to the two.
-- A chunk that is held is a lent slice with the chunk at its front.
use Rattle.std.specs.Prelude.{ℕ, zero, suc, Bool, true, false, not, cond, ◌&&◌, ◌≡◌, List, [], ◌∷◌, ◌++◌, ltb, eqb, length, take, drop, get_or, ℤ, pos, ◌+ℤ◌}
use Rattle.chunk.specs.Entry.{Entry, rising, stands, every}
use Rattle.chunk.specs.Bodies.{chunk_of}
use Rattle.chunk.specs.Words.{entries, size, nt, well_formed, settled}
use Rattle.chunk.specs.Sums.{total}
use Rattle.laws.specs.OneChunk.{is_word, fits}
use Rattle.sort.specs.Sort.{updates}
use Rattle.form.specs.Form.{form_number, form_out, unsorted_number, unsorted_out}
use Rattle.reports.specs.Merge.{Survives, nobody, the_first, the_second}
use Rattle.split.specs.Cut.{split_number, split_first, split_rest}
use Rattle.retain.specs.Extract.{extract_number, kept_out, shipped_out}
use Rattle.meld.specs.Meld.{meld_number, meld_out}
use Rattle.whole.specs.Whole.{survives, whole_number, clean_out, left_out}

-- the slices that hold a chunk, and every update that an accepted form took in
pub record State : Type 0 where
  pub held : List (List ℕ)
  pub taken : List Entry

-- the calls, with the slices that they are lent; i and j are places among the held chunks
pub data Call : Type 0 where
  form : (us out : List ℕ) → Call
  form_unsorted : (us out : List ℕ) → Call
  split : (i n : ℕ) (one two : List ℕ) → Call
  extract : (i count : ℕ) (corners kept shipped : List ℕ) → Call
  meld : (i j : ℕ) (out : List ℕ) → Call
  merge : (i j : ℕ) (scratch out clean rest : List ℕ) → Call

-- nothing held
abbrev pub start : State
start = record { held = []; taken = [] }

-- the held chunk at a place
abbrev pub at : State → ℕ → List ℕ
at s i = get_or s.held i []

-- the held chunks without the one at i
abbrev pub without : ℕ → List (List ℕ) → List (List ℕ)
without i l = take i l ++ drop (suc i) l

-- without the two at i and j, which differ
abbrev pub without_two : ℕ → ℕ → List (List ℕ) → List (List ℕ)
without_two i j l = cond (ltb i j) (without i (without j l)) (without j (without i l))

-- there is a held chunk at i
abbrev pub holds : State → ℕ → Bool
holds s i = ltb i (length s.held)

-- at two different places
abbrev pub holds_two : State → ℕ → ℕ → Bool
holds_two s i j = holds s i && (holds s j && not (eqb i j))

-- accepted, the call does this; refused, nothing
abbrev pub accepted : ℕ → State → State → State
accepted zero new s = new
accepted (suc n) new s = s

-- some held chunks left, and new ones after them
abbrev pub swap : State → List (List ℕ) → List (List ℕ) → State
swap s left new = record { held = left ++ new; taken = s.taken }

-- the survivor's suffix is held where somebody survives
abbrev pub rest_held : Survives → List ℕ → List (List ℕ)
rest_held nobody rest = []
rest_held (the_first p) rest = rest ∷ []
rest_held (the_second p) rest = rest ∷ []

-- merge with its zero filter and the survivor's suffix, one call, refused if any of them is
unfoldable pub merged_state : State → ℕ → ℕ → List ℕ → List ℕ → List ℕ → List ℕ → State
merged_state s i j scratch out clean rest =
    let a : List ℕ = at s i in
    let b : List ℕ = at s j in
    accepted (whole_number a b scratch out clean rest)
    (swap s (without_two i j s.held) (clean_out a b scratch out clean ∷ rest_held (survives a b) (left_out a b scratch out clean rest))) s

-- what a call does; one that names what is not held, or one chunk twice, is no call of demand 3
unfoldable pub after : State → Call → State
unfolding merged_state
after s (form us out) =
    accepted (form_number us out) (record { held = s.held ++ (form_out us out ∷ []); taken = s.taken ++ updates us }) s
after s (form_unsorted us out) =
    accepted (unsorted_number us out) (record { held = s.held ++ (unsorted_out us out ∷ []); taken = s.taken ++ updates us }) s
after s (split i n one two) =
    cond (holds s i)
    (accepted (split_number (at s i) one two)
    (swap s (without i s.held) (split_first (at s i) n one two ∷ split_rest (at s i) n one two ∷ [])) s) s
after s (extract i count corners kept shipped) =
    cond (holds s i)
    (accepted (extract_number count corners (at s i) kept shipped)
    (swap s (without i s.held) (kept_out count corners (at s i) kept shipped ∷ shipped_out count corners (at s i) kept shipped ∷ [])) s) s
after s (meld i j out) =
    cond (holds_two s i j)
    (accepted (meld_number (at s i) (at s j) out) (swap s (without_two i j s.held) (meld_out (at s i) (at s j) out ∷ [])) s) s
after s (merge i j scratch out clean rest) = cond (holds_two s i j) (merged_state s i j scratch out clean rest) s

-- one call after another
unfoldable pub run : State → List Call → State
unfolding after
run s [] = s
run s (c ∷ cs) = run (after s c) cs

-- the held changes at a truck, fault and time, as a whole number
unfoldable pub held_total : ℕ → ℕ → ℕ → List (List ℕ) → ℤ
unfolding total entries
held_total k v t [] = pos 0
held_total k v t (w ∷ ws) = total k v t (entries w) +ℤ held_total k v t ws

-- how many of the held chunks have an entry
unfoldable pub standing : List (List ℕ) → ℕ
standing [] = 0
standing (w ∷ ws) = cond (eqb (nt w) 0) (standing ws) (suc (standing ws))

-- the updates of a form are machine words, as every slice that a program lends is
abbrev pub call_fits : Call → Bool
call_fits (form us out) = every is_word us
call_fits (form_unsorted us out) = every is_word us
call_fits (split i n one two) = true
call_fits (extract i count corners kept shipped) = true
call_fits (meld i j out) = true
call_fits (merge i j scratch out clean rest) = true

-- positions strictly rising, each with a change that is not 0 and is a machine word, and these changes add up to a sum
pub record Settles (sum : ℕ → ℕ → ℕ → ℤ) (es : List Entry) : Type 0 where
  pub rises : rising es ≡ true
  pub stand : every stands es ≡ true
  pub fit : every fits es ≡ true
  pub sums : (k v t : ℕ) → total k v t es ≡ sum k v t

-- the one settled chunk of a sum: entries that settle it, no others do, and the slice has their chunk at its front
pub record ChunkOfSum (sum : ℕ → ℕ → ℕ → ℤ) (w : List ℕ) : Type 0 where
  pub es : List Entry
  pub settles : Settles sum es
  pub only : (fs : List Entry) → Settles sum fs → fs ≡ es
  pub words : take (size w) w ≡ chunk_of es

-- THE LEDGER. After any calls every held chunk is well formed and settled; the held changes add up to what accepted forms took in;
-- and where just one held chunk is non-empty, its words are the one settled chunk of that sum
pub record Kept (s : State) : Type 0 where
  pub formed : every well_formed s.held ≡ true
  pub settles : every settled s.held ≡ true
  pub sum : (k v t : ℕ) → held_total k v t s.held ≡ total k v t s.taken
  pub one : standing s.held ≡ 1 → (i : ℕ) → eqb (nt (at s i)) 0 ≡ false → ChunkOfSum (λ k v t. total k v t s.taken) (at s i)

-- whatever calls are made, in whatever order, the refused ones included; as `cs` is any list, this holds after each call of a longer one
abbrev pub Ledger : Type 0
Ledger = (cs : List Call) → every call_fits cs ≡ true → Kept (run start cs)
