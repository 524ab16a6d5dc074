-- What the promises allow is what the ledger's steps use.
use Prim.Native.Nat.{ℕ, zero, suc}
use mathlib.Core.Path.{◌≡◌, refl, sym, ap, ◌∙◌}
use mathlib.Core.List.{List, ◌∷◌}
use Rattle.reports.specs.Merge.{Survives}
use Rattle.merge.specs.Outcome.{answer_by}
use Rattle.whole.specs.Whole.{survives_of, survives, whole_number, clean_out, left_out}
use Rattle.whole.proofs.Parts.{told}
use Rattle.ledger.specs.Ledger.{State, at, without_two, accepted, swap, rest_held, merged_state, after}
use Rattle.ledger.specs.Outcomes.{FormStep, UnsortedStep, SplitStep, ExtractStep, MeldStep, MergeStep}

pub form_step : FormStep
unfolding after
form_step s us out o h = rw (h.number, h.written)

pub unsorted_step : UnsortedStep
unfolding after
unsorted_step s us out o h = rw (h.number, h.written)

pub split_step : SplitStep
unfolding after
split_step s i n one two there o h = rw (there, h.number, h.first, h.rest)

pub extract_step : ExtractStep
unfolding after
extract_step s i count corners kept shipped there o h = rw (there, h.number, h.keeps, h.ships)

pub meld_step : MeldStep
unfolding after
meld_step s i j out there o h = rw (there, h.number, h.output)

-- a merge's answer has its number, and where it is 0 its survivor
by_answer : (n : ℕ) (who : Survives) (f : Survives → State) (s : State)
    → accepted (answer_by n who).number (f (survives_of (answer_by n who).survivor)) s ≡ accepted n (f who) s
by_answer zero who f s = ap f (told who)
by_answer (suc n) who f s = refl

pub merge_step : MergeStep
unfolding after merged_state
merge_step s i j scratch out clean rest there o used h =
    let a : List ℕ = at s i in
    let b : List ℕ = at s j in
    let held : Survives → State = λ (who : Survives). swap s (without_two i j s.held) (clean_out a b scratch out clean ∷ rest_held who (left_out a b scratch out clean rest)) in
    rw there (sym (by_answer (whole_number a b scratch out clean rest) (survives a b) held s)
    ∙ (λ x. accepted (sym h.answers x).number (swap s (without_two i j s.held) (sym h.filters x ∷ rest_held (survives_of (sym h.answers x).survivor) (sym h.leaves x))) s))
