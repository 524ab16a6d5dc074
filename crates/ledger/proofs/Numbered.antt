-- A refusal is known by its number, so an answer is known by its number and what it says.
use mathlib.Core.Path.{◌≡◌, sym, ap, ◌∙◌}
use native.Mathlib.Omega.{arith}
use Rattle.std.specs.Prelude.{Result, Ok, Err, IfOk}
use Rattle.chunk.specs.declared.Refusal.{Refusal}
use Rattle.chunk.specs.Answer.{number_of, answer_number}
use Rattle.chunk.proofs.Refusals.{number_above}
use Rattle.survey.specs.Reports.{refusal_of}
use Rattle.survey.proofs.Plans.{refusal_is}

pub one_number : (r q : Refusal) → number_of r ≡ number_of q → r ≡ q
one_number r q e = sym (refusal_is r) ∙ ap refusal_of e ∙ refusal_is q

-- no refusal has the number of an acceptance
pub none_of : (r : Refusal) → 0 ≡ number_of r → ⊥
none_of r e = let h = number_above r in omega arith

-- two answers with one number that say the same where they are no refusal
pub one_answer : {A : Type 0} (o q : Result A Refusal) (v : A) → answer_number o ≡ answer_number q → IfOk o (λ x. x ≡ v) → IfOk q (λ x. x ≡ v) → o ≡ q
one_answer (Ok x) (Ok y) v e h k = ap Ok (h ∙ sym k)
one_answer (Ok x) (Err r) v e h k = absurd (none_of r e)
one_answer (Err r) (Ok y) v e h k = absurd (none_of r (sym e))
one_answer (Err r) (Err s) v e h k = ap Err (one_number r s e)
