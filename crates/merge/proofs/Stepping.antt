-- One report of a survey: which it is, where both inputs stand past it, and the reports that follow it.
use Rattle.std.proofs.Common.{◌≡◌, ℕ, zero, suc, ◌+◌, ◌-◌, ◌<◌, ◌≤◌, true, false, eqb, ltb, List, [], ◌∷◌, length, get_or, drop, sym, refl, ap, ◌∙◌, add-one, arith, length-drop, ltb-false, ltb-true, le-ltb, lt-ltb, eq-eqb, ne_eqb, eqb-true}
use borrow.Author.Tests.{eqb-false}
use Rattle.laws.proofs.Tests.{by_test}
use Rattle.reports.specs.Survey.{Report, this, that, both, below, rest_of, reports_from}
use Rattle.reports.specs.Gallop.{between, run_end}
use Rattle.reports.specs.Scratch.{placed, words_of, step_report, pair_of}
use Rattle.merge.specs.Spots.{spot_after}
use Rattle.merge.specs.declared.Spot.{Spot}
use Rattle.reports.proofs.Galloping.{between_cons, between-past, run_on, run_within, length-between}

module _ (items0 : List ℕ) (lower0 upper0 : ℕ) (items1 : List ℕ) (lower1 upper1 : ℕ) where
  pub step_both : get_or items0 lower0 0 ≡ get_or items1 lower1 0 → step_report items0 lower0 upper0 items1 lower1 upper1 ≡ both lower0 lower1
  unfolding step_report
  step_both h = rw (eq-eqb (get_or items0 lower0 0) (get_or items1 lower1 0) h)

  pub step_this : get_or items0 lower0 0 < get_or items1 lower1 0 → step_report items0 lower0 upper0 items1 lower1 upper1 ≡ this lower0 (run_end items0 lower0 upper0 (get_or items1 lower1 0))
  unfolding step_report
  step_this h = rw (ne_eqb (get_or items0 lower0 0) (get_or items1 lower1 0) (omega arith), lt-ltb (get_or items0 lower0 0) (get_or items1 lower1 0) h)

  pub step_that : get_or items1 lower1 0 < get_or items0 lower0 0 → step_report items0 lower0 upper0 items1 lower1 upper1 ≡ that lower1 (run_end items1 lower1 upper1 (get_or items0 lower0 0))
  unfolding step_report
  step_that h = rw (ne_eqb (get_or items0 lower0 0) (get_or items1 lower1 0) (omega arith), le-ltb (get_or items0 lower0 0) (get_or items1 lower1 0) (omega arith))

  -- what a step answers, and what it leaves in scratch
  abbrev pub Stepped : Spot → ℕ → List ℕ → List ℕ → Type 0
  Stepped spot at s s' =
      (spot ≡ spot_after (step_report items0 lower0 upper0 items1 lower1 upper1) lower0 lower1)
      × (s' ≡ placed at (words_of (step_report items0 lower0 upper0 items1 lower1 upper1)) s)

  pub stepped_both : (at : ℕ) (s s' : List ℕ) → get_or items0 lower0 0 ≡ get_or items1 lower1 0 → s' ≡ placed at (2 ∷ lower0 ∷ lower1 ∷ []) s
      → Stepped (record { lower0 = lower0 + 1; lower1 = lower1 + 1 }) at s s'
  stepped_both at s s' h p = (rw (step_both h) refl, rw (step_both h) p)

  pub stepped_this : (at : ℕ) (s s' : List ℕ) (end : ℕ) → lower0 < upper0 → upper0 ≤ length items0 → get_or items0 lower0 0 < get_or items1 lower1 0
      → end ≡ run_end items0 (lower0 + 1) upper0 (get_or items1 lower1 0) → s' ≡ placed at (0 ∷ lower0 ∷ end ∷ []) s
      → Stepped (record { lower0 = end; lower1 = lower1 }) at s s'
  stepped_this at s s' end l w h e p =
      let f : end ≡ run_end items0 lower0 upper0 (get_or items1 lower1 0) = e ∙ run_on items0 lower0 upper0 (get_or items1 lower1 0) l w h in
      (rw (step_this h, ← f) refl, rw (step_this h, ← f) p)

  pub stepped_that : (at : ℕ) (s s' : List ℕ) (end : ℕ) → lower1 < upper1 → upper1 ≤ length items1 → (get_or items0 lower0 0 ≡ get_or items1 lower1 0 → ⊥)
      → get_or items1 lower1 0 ≤ get_or items0 lower0 0
      → end ≡ run_end items1 (lower1 + 1) upper1 (get_or items0 lower0 0) → s' ≡ placed at (1 ∷ lower1 ∷ end ∷ []) s
      → Stepped (record { lower0 = lower0; lower1 = end }) at s s'
  stepped_that at s s' end l w n m e p =
      let h : get_or items1 lower1 0 < get_or items0 lower0 0 = omega arith in
      let f : end ≡ run_end items1 lower1 upper1 (get_or items0 lower0 0) = e ∙ run_on items1 lower1 upper1 (get_or items0 lower0 0) l w h in
      (rw (step_that h, ← f) refl, rw (step_that h, ← f) p)

-- ---- the reports that follow

-- a bound on the number of reports that is large enough does not matter
fuel : (n m i j : ℕ) (xs ys : List ℕ) → length xs + length ys ≤ n → length xs + length ys ≤ m → reports_from n i j xs ys ≡ reports_from m i j xs ys
unfolding reports_from rest_of below
fuel zero zero i j xs ys h k = refl
fuel zero (suc m) i j [] [] h k = refl
fuel zero (suc m) i j [] (y ∷ ys) h k = absurd (omega arith)
fuel zero (suc m) i j (x ∷ xs) ys h k = absurd (omega arith)
fuel (suc n) zero i j [] [] h k = refl
fuel (suc n) zero i j [] (y ∷ ys) h k = absurd (omega arith)
fuel (suc n) zero i j (x ∷ xs) ys h k = absurd (omega arith)
fuel (suc n) (suc m) i j [] ys h k = refl
fuel (suc n) (suc m) i j (x ∷ xs) [] h k = refl
fuel (suc n) (suc m) i j (x ∷ xs) (y ∷ ys) h k =
    by_test (eqb x y)
    (λ e. rw e (ap (λ (l : List Report). both i j ∷ l) (fuel n m (suc i) (suc j) xs ys (omega arith) (omega arith))))
    (λ e. by_test (ltb x y)
    (λ f. rw (e, f) (ap (λ (l : List Report). this i (i + suc (below y xs)) ∷ l)
    (fuel n m (i + suc (below y xs)) j (drop (below y xs) xs) (y ∷ ys) (omega (arith, length-drop (below y xs) xs)) (omega (arith, length-drop (below y xs) xs)))))
    (λ f. rw (e, f, lt-ltb y x (omega (arith, ltb-false x y f, eqb-false x y e))) (ap (λ (l : List Report). that j (j + suc (below x ys)) ∷ l)
    (fuel n m i (j + suc (below x ys)) (x ∷ xs) (drop (below x ys) ys) (omega (arith, length-drop (below x ys) ys)) (omega (arith, length-drop (below x ys) ys))))))

-- both are left: the report of their heads, and then those past it
module _ (items0 : List ℕ) (lower0 upper0 : ℕ) (items1 : List ℕ) (lower1 upper1 : ℕ) where
  abbrev X : ℕ
  X = get_or items0 lower0 0

  abbrev Y : ℕ
  Y = get_or items1 lower1 0

  -- where both stand past the heads
  abbrev pub Past : Spot
  Past = spot_after (step_report items0 lower0 upper0 items1 lower1 upper1) lower0 lower1

  pub pair_step : lower0 < upper0 → upper0 ≤ length items0 → lower1 < upper1 → upper1 ≤ length items1
      → pair_of items0 lower0 upper0 items1 lower1 upper1
      ≡ step_report items0 lower0 upper0 items1 lower1 upper1 ∷ pair_of items0 Past.lower0 upper0 items1 Past.lower1 upper1
  unfolding pair_of reports_from rest_of below run_end
  pair_step h w k v = by_test (eqb X Y) equal (λ n. by_test (ltb X Y) (under n) (over n))
    where
      n : ℕ
      n = upper0 - lower0 + (upper1 - lower1) - 1

      e : upper0 - lower0 + (upper1 - lower1) ≡ suc n
      e = omega arith

      xs : List ℕ
      xs = between (lower0 + 1) upper0 items0

      ys : List ℕ
      ys = between (lower1 + 1) upper1 items1

      lx : length xs ≡ upper0 - (lower0 + 1)
      lx = length-between (lower0 + 1) upper0 items0 w

      ly : length ys ≡ upper1 - (lower1 + 1)
      ly = length-between (lower1 + 1) upper1 items1 v

      bx : between lower0 upper0 items0 ≡ X ∷ xs
      bx = between_cons lower0 upper0 items0 h w

      by : between lower1 upper1 items1 ≡ Y ∷ ys
      by = between_cons lower1 upper1 items1 k v

      Goal : Type 0
      Goal = pair_of items0 lower0 upper0 items1 lower1 upper1
          ≡ step_report items0 lower0 upper0 items1 lower1 upper1 ∷ pair_of items0 Past.lower0 upper0 items1 Past.lower1 upper1

      equal : eqb X Y ≡ true → Goal
      equal t =
          rw (step_both items0 lower0 upper0 items1 lower1 upper1 (eqb-true X Y t), e, bx, by, t, ← (add-one lower0), ← (add-one lower1))
          (ap (λ (l : List Report). both lower0 lower1 ∷ l) (fuel n (upper0 - (lower0 + 1) + (upper1 - (lower1 + 1))) (lower0 + 1) (lower1 + 1) xs ys (omega (arith, lx, ly)) (omega (arith, lx, ly))))

      under : eqb X Y ≡ false → ltb X Y ≡ true → Goal
      under t u =
          let r : run_end items0 lower0 upper0 Y ≡ lower0 + suc (below Y xs) = rw (bx, u) in
          let in0 : lower0 + suc (below Y xs) ≤ upper0 = rw r at (run_within items0 lower0 upper0 Y (omega arith) w) in
          let rest : between (lower0 + suc (below Y xs)) upper0 items0 ≡ drop (below Y xs) xs =
          sym (between-past lower0 upper0 (suc (below Y xs)) items0 in0) ∙ ap (drop (suc (below Y xs))) bx in
          rw (step_this items0 lower0 upper0 items1 lower1 upper1 (ltb-true X Y u), r, e, bx, by, t, u, rest)
          (ap (λ (l : List Report). this lower0 (lower0 + suc (below Y xs)) ∷ l)
          (fuel n (upper0 - (lower0 + suc (below Y xs)) + (upper1 - lower1)) (lower0 + suc (below Y xs)) lower1 (drop (below Y xs) xs) (Y ∷ ys)
          (omega (arith, lx, ly, length-drop (below Y xs) xs)) (omega (arith, lx, ly, length-drop (below Y xs) xs))))

      over : eqb X Y ≡ false → ltb X Y ≡ false → Goal
      over t u =
          let o : ltb Y X ≡ true = lt-ltb Y X (omega (arith, ltb-false X Y u, eqb-false X Y t)) in
          let r : run_end items1 lower1 upper1 X ≡ lower1 + suc (below X ys) = rw (by, o) in
          let in1 : lower1 + suc (below X ys) ≤ upper1 = rw r at (run_within items1 lower1 upper1 X (omega arith) v) in
          let rest : between (lower1 + suc (below X ys)) upper1 items1 ≡ drop (below X ys) ys =
          sym (between-past lower1 upper1 (suc (below X ys)) items1 in1) ∙ ap (drop (suc (below X ys))) by in
          rw (step_that items0 lower0 upper0 items1 lower1 upper1 (ltb-true Y X o), r, e, bx, by, t, u, o, rest)
          (ap (λ (l : List Report). that lower1 (lower1 + suc (below X ys)) ∷ l)
          (fuel n (upper0 - lower0 + (upper1 - (lower1 + suc (below X ys)))) lower0 (lower1 + suc (below X ys)) (X ∷ xs) (drop (below X ys) ys)
          (omega (arith, lx, ly, length-drop (below X ys) ys)) (omega (arith, lx, ly, length-drop (below X ys) ys))))
