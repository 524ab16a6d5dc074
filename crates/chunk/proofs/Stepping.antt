-- Diff ends that step, and diffs that stand, read side by side.
use Prim.Native.Nat.{ℕ, suc, ◌<◌, ◌≤◌, ◌+◌, ◌-◌}
use mathlib.Core.Path.{◌≡◌, refl, ◌∙◌, ap}
use mathlib.Core.Bool.{Bool, true, false, not, ◌&&◌, ◌||◌}
use mathlib.Core.List.{List}
use native.Mathlib.Omega.{arith}
use native.Mathlib.Numerals.{add-one}
use lib.ListN.{length, take, drop, get_or, length-drop, drop_of_length-le}
use lib.Seq.{drop-cons, take_all}
use lib.Dec.{eqb}
use Rattle.chunk.specs.Entry.{every}
use Rattle.chunk.specs.Words.{ends_step}
use Rattle.chunk.specs.Beside.{standing}
use Rattle.chunk.proofs.Tests.{and-false, and-true, and_joins}
use Rattle.chunk.proofs.Rowing.{stood}

-- the words from a place to the last
pub to_last : (n : ℕ) (l : List ℕ) → take (length l - n) (drop n l) ≡ drop n l
to_last n l = take_all (length l - n) (drop n l) (simp length-drop (omega arith))

-- an end is the previous one or one more
abbrev pub near : ℕ → ℕ → Bool
near low e = eqb e low || eqb e (suc low)

turn : (ends : List ℕ) (low i top : ℕ) → i < length ends → ends_step low (drop i ends) top ≡ (near low (get_or ends i 0) && ends_step (get_or ends i 0) (drop (i + 1) ends) top)
unfolding ends_step
turn ends low i top h = rw (add-one, drop-cons ends i 0)

-- one end more
pub stepped_more : (good : Bool) (ends : List ℕ) (low i top : ℕ) → i < length ends
    → (good && ends_step low (drop i ends) top) ≡ ((good && near low (get_or ends i 0)) && ends_step (get_or ends i 0) (drop (i + 1) ends) top)
stepped_more good ends low i top h =
    ap (λ (b : Bool). good && b) (turn ends low i top h) ∙ and_joins good (near low (get_or ends i 0)) (ends_step (get_or ends i 0) (drop (i + 1) ends) top)

-- two tests more beside two
sorted : (g s d e f : Bool) → (g && ((s && e) && (d && f))) ≡ ((g && (s && d)) && (e && f))
sorted false s d e f = refl
sorted true false d e f = refl
sorted true true true e f = refl
sorted true true false e f = and-false e

-- one end and one diff more
pub changed_more : (good : Bool) (ends diffs : List ℕ) (low i top : ℕ) → i < length ends → i < length diffs
    → (good && (ends_step low (drop i ends) top && standing (drop i diffs)))
    ≡ ((good && (near low (get_or ends i 0) && not (eqb (get_or diffs i 0) 0))) && (ends_step (get_or ends i 0) (drop (i + 1) ends) top && standing (drop (i + 1) diffs)))
changed_more good ends diffs low i top h k =
    ap (λ (b : Bool). good && (b && standing (drop i diffs))) (turn ends low i top h)
    ∙ ap (λ (b : Bool). good && ((near low (get_or ends i 0) && ends_step (get_or ends i 0) (drop (i + 1) ends) top) && b)) (stood diffs i k)
    ∙ sorted good (near low (get_or ends i 0)) (not (eqb (get_or diffs i 0) 0)) (ends_step (get_or ends i 0) (drop (i + 1) ends) top) (standing (drop (i + 1) diffs))

-- no diff is left
pub changed_end : (good : Bool) (ends diffs : List ℕ) (low i top : ℕ) → length diffs ≤ i
    → (good && (ends_step low (drop i ends) top && standing (drop i diffs))) ≡ (good && ends_step low (drop i ends) top)
unfolding every
changed_end good ends diffs low i top h = simp (drop_of_length-le diffs h, and-true)
