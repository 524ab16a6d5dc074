-- The ledger is about the code: what a call does to the held chunks is said by any outcome that the public function's promise allows, by its
-- answer and by the slices lent to write to, as they stand afterwards. Each statement is a type here, and a theorem of proofs/Outcomes.antt.
use Rattle.std.specs.Prelude.{ℕ, ◌≡◌, true, List, [], ◌∷◌, ◌++◌, Result}
use Rattle.chunk.specs.declared.Refusal.{Refusal}
use Rattle.chunk.specs.Answer.{answer_number}
use Rattle.sort.specs.Sort.{updates}
use Rattle.form.specs.Form.{FormAnswers, UnsortedAnswers}
use Rattle.split.specs.Cut.{Split}
use Rattle.retain.specs.declared.Extracted.{Extracted}
use Rattle.retain.specs.Answer.{Extraction}
use Rattle.meld.specs.Meld.{Melded}
use Rattle.merge.specs.Outcome.{Joined}
use Rattle.whole.specs.Whole.{survives_of, WholeAnswers}
use Rattle.ledger.specs.Settles.{One, Two, Three}
use Rattle.ledger.specs.Ledger.{State, form, form_unsorted, split, extract, meld, merge, at, without, without_two, holds, holds_two, accepted, swap, rest_held, after}

-- form: its output is held and its updates are taken
abbrev pub FormStep : Type 0
FormStep =
    (s : State) (us out : List ℕ) (o : One ℕ) → FormAnswers us out o.0 o.1
    → after s (form us out) ≡ accepted o.0 (record { held = s.held ++ (o.1 ∷ []); taken = s.taken ++ updates us }) s

-- form_unsorted: so are its
abbrev pub UnsortedStep : Type 0
UnsortedStep =
    (s : State) (us out : List ℕ) (o : Two ℕ) → UnsortedAnswers us out o.0 o.1 o.2
    → after s (form_unsorted us out) ≡ accepted o.0 (record { held = s.held ++ (o.2 ∷ []); taken = s.taken ++ updates us }) s

-- split_at: both outputs are held, for the chunk
abbrev pub SplitStep : Type 0
SplitStep =
    (s : State) (i n : ℕ) (one two : List ℕ) → holds s i ≡ true → (o : Two ℕ) → Split o.0 o.1 o.2 (at s i) n one two
    → after s (split i n one two) ≡ accepted o.0 (swap s (without i s.held) (o.1 ∷ o.2 ∷ [])) s

-- extract: both outputs are held, for the chunk
abbrev pub ExtractStep : Type 0
ExtractStep =
    (s : State) (i count : ℕ) (corners kept shipped : List ℕ) → holds s i ≡ true → (o : Two (Result Extracted Refusal))
    → Extraction o.0 o.1 o.2 count corners (at s i) kept shipped
    → after s (extract i count corners kept shipped) ≡ accepted (answer_number o.0) (swap s (without i s.held) (o.1 ∷ o.2 ∷ [])) s

-- meld: its output is held, for both chunks
abbrev pub MeldStep : Type 0
MeldStep =
    (s : State) (i j : ℕ) (out : List ℕ) → holds_two s i j ≡ true → (o : One ℕ) → Melded (at s i) (at s j) out o.0 o.1
    → after s (meld i j out) ≡ accepted o.0 (swap s (without_two i j s.held) (o.1 ∷ [])) s

-- merge_whole: its filtered output is held for both chunks, and the survivor's suffix where the answer names a survivor
abbrev pub MergeStep : Type 0
MergeStep =
    (s : State) (i j : ℕ) (scratch out clean rest : List ℕ) → holds_two s i j ≡ true → (o : Three Joined) (used : List ℕ)
    → WholeAnswers (at s i) (at s j) scratch out clean rest o.0 o.1 o.2 o.3 used
    → after s (merge i j scratch out clean rest)
    ≡ accepted o.0.number (swap s (without_two i j s.held) (o.2 ∷ rest_held (survives_of o.0.survivor) o.3)) s
