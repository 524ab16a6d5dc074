-- Ends that rise: each list starts below its end, and the last end is the count of the items.
use Prim.Native.Nat.{ℕ, zero, suc, ◌<◌, ◌≤◌}
use mathlib.Core.Path.{◌≡◌, refl, ap}
use mathlib.Core.Bool.{true}
use mathlib.Core.List.{List, [], ◌∷◌}
use native.Mathlib.Omega.{arith}
use lib.Dec.{ltb, leb}
use lib.ListN.{length, get_or}
use borrow.Author.Tests.{ltb-true, eqb-true, leb-true, leb-false}
use Rattle.chunk.specs.Words.{ends_rise, rises_from}
use Rattle.chunk.specs.Contents.{start_of}
use Rattle.laws.proofs.Tests.{by_test, and_left, and_right, and_both}

-- a list that is there ends above its start
pub start_below : (low : ℕ) (ends : List ℕ) (i : ℕ) → rises_from low ends ≡ true → i < length ends → get_or (low ∷ ends) i 0 < get_or ends i 0
unfolding rises_from
start_below low [] i r h = absurd (omega arith)
start_below low (e ∷ ends) zero r h = ltb-true _ _ (and_left _ _ r)
start_below low (e ∷ ends) (suc i) r h = start_below e ends i (and_right (ltb low e) _ r) (omega arith)

pub start_as : (ends : List ℕ) (i : ℕ) → start_of ends i ≡ get_or (0 ∷ ends) i 0
start_as ends zero = refl
start_as ends (suc i) = refl

-- a later list ends no lower
pub ends_up : (ends : List ℕ) (i j : ℕ) → rises_from 0 ends ≡ true → i ≤ j → j < length ends → get_or ends i 0 ≤ get_or ends j 0
ends_up ends i zero r h l = let e : i ≡ 0 = omega arith in let q : get_or ends i 0 ≡ get_or ends 0 0 = ap (λ (x : ℕ). get_or ends x 0) e in omega arith
ends_up ends i (suc j) r h l =
    by_test (leb i j)
    (λ k. let a : get_or ends i 0 ≤ get_or ends j 0 = ends_up ends i j r (leb-true _ _ k) (omega arith) in
    let b : get_or ends j 0 < get_or ends (suc j) 0 = start_below 0 ends (suc j) r l in omega arith)
    (λ k. let b : j < i = leb-false _ _ k in let e : i ≡ suc j = omega arith in let q : get_or ends i 0 ≡ get_or ends (suc j) 0 = ap (λ (x : ℕ). get_or ends x 0) e in omega arith)

-- ends that rise to the last one rise
pub rise_rises : (low : ℕ) (ends : List ℕ) (top : ℕ) → ends_rise low ends top ≡ true → rises_from low ends ≡ true
unfolding ends_rise rises_from
rise_rises low [] top h = refl
rise_rises low (e ∷ ends) top h = and_both (ltb low e) _ (and_left _ _ h) (rise_rises e ends top (and_right (ltb low e) _ h))

-- and end with it
last_end : (low : ℕ) (ends : List ℕ) (top : ℕ) → ends_rise low ends top ≡ true → get_or (low ∷ ends) (length ends) 0 ≡ top
unfolding ends_rise
last_end low [] top h = eqb-true _ _ h
last_end low (e ∷ ends) top h = last_end e ends top (and_right (ltb low e) _ h)

pub rise_last : (ends : List ℕ) (top : ℕ) → ends_rise 0 ends top ≡ true → start_of ends (length ends) ≡ top
rise_last [] top h = last_end 0 [] top h
rise_last (e ∷ ends) top h = last_end 0 (e ∷ ends) top h
