-- The reports of two ranges: how many there are, and those where nothing is left of one.
use Prim.Native.Nat.{ℕ, zero, suc, ◌+◌, ◌-◌, ◌<◌, ◌≤◌}
use mathlib.Core.Path.{◌≡◌, ap}
use mathlib.Core.List.{List, [], ◌∷◌}
use native.Mathlib.Omega.{arith}
use lib.Dec.{ltb, eqb}
use lib.ListN.{length, drop, length-drop}
use borrow.Author.Tests.{lt-ltb, ltb-false, eqb-false}
use Rattle.laws.proofs.Tests.{by_test}
use Rattle.reports.specs.Survey.{this, that, below, rest_of, reports_from}
use Rattle.reports.specs.Gallop.{between}
use Rattle.reports.specs.Scratch.{pair_of}
use Rattle.reports.proofs.Galloping.{between_cons, between_none, length-between}

-- at most as many reports as items
pub reports_count : (n i j : ℕ) (xs ys : List ℕ) → length (reports_from n i j xs ys) ≤ length xs + length ys
unfolding reports_from rest_of below
reports_count zero i j xs ys = omega arith
reports_count (suc n) i j [] [] = omega arith
reports_count (suc n) i j [] (y ∷ ys) = omega arith
reports_count (suc n) i j (x ∷ xs) [] = omega arith
reports_count (suc n) i j (x ∷ xs) (y ∷ ys) =
    by_test (eqb x y)
    (λ e. rw e (omega (arith, reports_count n (suc i) (suc j) xs ys)))
    (λ e. by_test (ltb x y)
    (λ f. rw (e, f) (omega (arith, reports_count n (i + suc (below y xs)) j (drop (below y xs) xs) (y ∷ ys), length-drop (below y xs) xs)))
    (λ f. rw (e, f, lt-ltb y x (omega (arith, ltb-false x y f, eqb-false x y e))) (omega (arith, reports_count n i (j + suc (below x ys)) (x ∷ xs) (drop (below x ys) ys), length-drop (below x ys) ys))))

-- ---- the reports of two ranges, one by one

module _ (items0 : List ℕ) (lower0 upper0 : ℕ) (items1 : List ℕ) (lower1 upper1 : ℕ) where
  pub pair_count : upper0 ≤ length items0 → upper1 ≤ length items1 → length (pair_of items0 lower0 upper0 items1 lower1 upper1) ≤ upper0 - lower0 + (upper1 - lower1)
  unfolding pair_of
  pair_count h k =
      omega (
        arith,
        reports_count (upper0 - lower0 + (upper1 - lower1)) lower0 lower1 (between lower0 upper0 items0) (between lower1 upper1 items1),
        length-between lower0 upper0 items0 h,
        length-between lower1 upper1 items1 k,
      )

  -- nothing is left of either
  pub pair_none : upper0 ≤ lower0 → upper1 ≤ lower1 → pair_of items0 lower0 upper0 items1 lower1 upper1 ≡ []
  unfolding pair_of reports_from
  pair_none h k = let e : upper0 - lower0 + (upper1 - lower1) ≡ 0 = omega arith in rw e

  -- the first alone is left
  pub pair_this : lower0 < upper0 → upper0 ≤ length items0 → upper1 ≤ lower1 → pair_of items0 lower0 upper0 items1 lower1 upper1 ≡ this lower0 upper0 ∷ []
  unfolding pair_of reports_from rest_of
  pair_this h w k =
      let e : upper0 - lower0 + (upper1 - lower1) ≡ suc (upper0 - lower0 + (upper1 - lower1) - 1) = omega arith in
      rw (e, between_none lower1 upper1 items1 k, between_cons lower0 upper0 items0 h w) (ap (λ (n : ℕ). this lower0 n ∷ []) (omega (arith, length-between (lower0 + 1) upper0 items0 w)))

  -- the second alone is left
  pub pair_that : upper0 ≤ lower0 → lower1 < upper1 → upper1 ≤ length items1 → pair_of items0 lower0 upper0 items1 lower1 upper1 ≡ that lower1 upper1 ∷ []
  unfolding pair_of reports_from rest_of
  pair_that k h w =
      let e : upper0 - lower0 + (upper1 - lower1) ≡ suc (upper0 - lower0 + (upper1 - lower1) - 1) = omega arith in
      rw (e, between_none lower0 upper0 items0 k, between_cons lower1 upper1 items1 h w) (ap (λ (n : ℕ). that lower1 n ∷ []) (omega (arith, length-between (lower1 + 1) upper1 items1 w)))
