-- An answer in words: stores at the front are the words over what was there, and a number comes with a slice as the definitions say.
use Prim.Native.Nat.{ℕ, zero, suc, ◌≤◌}
use mathlib.Core.Path.{◌≡◌, refl, sym, ◌∙◌, ap}
use mathlib.Core.Bool.{Bool, cond}
use mathlib.Core.List.{List, [], ◌∷◌}
use native.Mathlib.Omega.{arith}
use lib.ListN.{length, set}
use borrow.Author.Tests.{le-ltb}
use Rattle.chunk.specs.Words.{over}
use Rattle.host.specs.Answers.{number_in, laid_by, Answers}

-- one store
pub stored1 : (l : List ℕ) (a : ℕ) → 1 ≤ length l → set l 0 a ≡ over (a ∷ []) l
stored1 (x ∷ l) a h = refl
stored1 [] a h = absurd (omega arith)

-- a number that isn't 0 leaves the slice
pub kept_by : (n : ℕ) (new l : List ℕ) → (n ≡ 0 → ⊥) → l ≡ laid_by n new l
kept_by zero new l h = absurd (h refl)
kept_by (suc n) new l h = refl

module _ (room n : ℕ) (new l : List ℕ) where
  module _ (h : room ≤ length l) where
    pub with_room : n ≡ number_in room n l
    with_room = sym (ap (λ (t : Bool). cond t 13 n) (le-ltb (length l) room h))

    -- the call refuses
    pub answers_refused : (r : ℕ) → r ≡ n → (r ≡ 0 → ⊥) → Answers (number_in room n l) (laid_by (number_in room n l) new l) r l
    answers_refused r e bad =
        record {
          returned = e ∙ with_room;
          laid = kept_by n new l (λ (z : n ≡ 0). bad (e ∙ z)) ∙ ap (λ (m : ℕ). laid_by m new l) with_room;
        }

    -- the call accepts
    pub answers_laid : (after : List ℕ) → 0 ≡ n → after ≡ over new l → Answers (number_in room n l) (laid_by (number_in room n l) new l) 0 after
    answers_laid after e a =
        record { returned = e ∙ with_room; laid = a ∙ ap (λ (m : ℕ). laid_by m new l) (e ∙ with_room) }
