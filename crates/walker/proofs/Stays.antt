-- Where no record is given, a lent walker stays as it was (document 01, "Walk": then says done and stays; answers 5, walker unchanged).
use mathlib.Core.Path.{◌≡◌, refl}
use Rattle.std.specs.Prelude.{Some, None, Ok, Err}
use native.Mathlib.Omega.{arith}
use Rattle.chunk.specs.Answer.{answer_number}
use Rattle.walk.specs.declared.Walker.{Walker}
use Rattle.walk.specs.Answer.{Started, Stepped}
use Rattle.walker.specs.Lent.{Taken, taken_of, walker_after, begun_of, walker_from}

-- on 5
pub refused_stays : (w : Walker) (s : Stepped) → answer_number (taken_of s) ≡ 5 → walker_after w s ≡ w
refused_stays w (Ok (Some (e, p))) h = absurd (omega arith)
refused_stays w (Ok None) h = refl
refused_stays w (Err r) h = refl

-- on done
pub done_stays : (w : Walker) (s : Stepped) → ◌≡◌ {A = Taken} (taken_of s) (Ok None) → walker_after w s ≡ w
done_stays w (Ok (Some (e, p))) h = cc
done_stays w (Ok None) h = refl
done_stays w (Err r) h = refl

-- a start that is refused
pub start_stays : (w : Walker) (s : Started) → (answer_number (begun_of s) ≡ 0 → ⊥) → walker_from w s ≡ w
start_stays w (Ok p) h = absurd (h refl)
start_stays w (Err r) h = refl
