-- Doubling and halving steps, and where the items below a target end in a rising list.
use Prim.Native.Nat.{ℕ, zero, suc, ◌+◌, ◌-◌, ◌*◌, ◌/◌, ◌<◌, ◌≤◌, ◌^◌}
use mathlib.Core.Path.{◌≡◌, refl, sym, ◌∙◌, ap}
use mathlib.Core.Bool.{true, false}
use mathlib.Core.List.{List, [], ◌∷◌}
use native.Mathlib.Omega.{arith}
use native.Mathlib.Nat.{pow-suc}
use lib.Dec.{ltb}
use lib.Pow.{pow_pos}
use lib.ListN.{length, get_or, take, drop, length-take, length-drop}
use lib.Seq.{drop-drop, get_or-take, get_or-drop, drop-cons}
use native.Mathlib.Numerals.{add-one}
use borrow.Author.Tests.{lt-ltb, le-ltb, ltb-true, ltb-false}
use Rattle.laws.proofs.Tests.{by_test, and_left, and_right, and_both, true-not-false}
use Rattle.chunk.specs.Words.{rises, rises_from}
use Rattle.chunk.proofs.Parting.{drop-take}
use Rattle.reports.specs.Survey.{below}
use Rattle.reports.specs.Gallop.{between, below_at, Doubled, settled, Reached, Rises, run_end}

pub below_at-true : (items : List ℕ) (upper target at : ℕ) → at < upper → get_or items at 0 < target → below_at items upper target at ≡ true
unfolding below_at
below_at-true items upper target at h k = rw (lt-ltb at upper, lt-ltb (get_or items at 0) target)

pub at-short : (items : List ℕ) (upper target at : ℕ) → below_at items upper target at ≡ true → at < upper
unfolding below_at
at-short items upper target at h = ltb-true _ _ (and_left _ _ h)

pub at_under : (items : List ℕ) (upper target at : ℕ) → below_at items upper target at ≡ true → get_or items at 0 < target
unfolding below_at
at_under items upper target at h = ltb-true _ _ (and_right (ltb at upper) _ h)

pub doubled_one : Doubled 1
doubled_one = record { times = 0; is = refl }

pub doubled_more : (s : ℕ) → Doubled s → Doubled (s * 2)
doubled_more s d = record { times = suc d.times; is = rw (pow-suc, ← d.is) }

pub doubled_pos : (s : ℕ) → Doubled s → 0 < s
doubled_pos s d = rw d.is (pow_pos d.times)

-- where the halving steps stand: none is left and the next item is past the run, or the item two steps on is
pub data Halving (items : List ℕ) (upper target lower step : ℕ) : Type 0 where
  done : step ≡ 0 → below_at items upper target (lower + 1) ≡ false → Halving items upper target lower step
  going : Doubled step → below_at items upper target (lower + step * 2) ≡ false → Halving items upper target lower step

pub halve : (items : List ℕ) (upper target lower s : ℕ) → Doubled s → below_at items upper target (lower + s) ≡ false → Halving items upper target lower (s / 2)
halve items upper target lower s d h = go d.times d.is
  where
    go : (k : ℕ) → s ≡ 2 ^ k → Halving items upper target lower (s / 2)
    go zero e = done (rw e) (rw e at h)
    go (suc j) e =
        let f : s ≡ 2 ^ j * 2 = e ∙ pow-suc 2 j in
        let g : s / 2 ≡ 2 ^ j = omega arith in
        going (record { times = j; is = g }) (rw (g, ← f) h)

-- no step is left
pub halved_out : (items : List ℕ) (upper target lower step : ℕ) → step ≤ 0 → Halving items upper target lower step → below_at items upper target (lower + 1) ≡ false
halved_out items upper target lower step z (done e h) = h
halved_out items upper target lower step z (going d h) = absurd (omega (arith, doubled_pos step d))

-- a halving step keeps what the steps stand by
pub record Stood (items : List ℕ) (from upper target lower step : ℕ) : Type 0 where
  pub onward : from ≤ lower
  pub under : below_at items upper target lower ≡ true
  pub small : step ≤ upper
  pub halving : Halving items upper target lower step

pub settle_stood : (items : List ℕ) (from upper target lower step : ℕ) → 0 < step → Stood items from upper target lower step → Stood items from upper target (settled items lower step upper target) (step / 2)
unfolding settled
settle_stood items from upper target lower step p s = go s.halving
  where
    go : Halving items upper target lower step → Stood items from upper target (settled items lower step upper target) (step / 2)
    go (done e h) = absurd (omega arith)
    go (going d h) =
        by_test (below_at items upper target (lower + step))
        (λ t. rw t (record { onward = omega (arith, s.onward); under = t; small = omega (arith, s.small); halving = halve items upper target (lower + step) step d (ap (below_at items upper target) sum ∙ h) }))
        (λ t. rw t (record { onward = s.onward; under = s.under; small = omega (arith, s.small); halving = halve items upper target lower step d t }))
      where
        sum : lower + step + step ≡ lower + step * 2
        sum = omega arith

-- ---- rising lists

rises-below : (x a : ℕ) (l : List ℕ) → rises_from a l ≡ true → x ≤ a → below x l ≡ 0
unfolding rises_from below
rises-below x a [] h k = refl
rises-below x a (b ∷ l) h k = let m : a < b = ltb-true _ _ (and_left (ltb a b) _ h) in rw (le-ltb b x (omega arith))

-- what a list rises from is below each of its items
pub rises_over : (a : ℕ) (l : List ℕ) (i : ℕ) → rises_from a l ≡ true → i < length l → a < get_or l i 0
unfolding rises_from
rises_over a [] i h k = absurd (omega arith)
rises_over a (b ∷ l) zero h k = ltb-true _ _ (and_left (ltb a b) _ h)
rises_over a (b ∷ l) (suc i) h k =
    let m : a < b = ltb-true _ _ (and_left (ltb a b) _ h) in
    omega (arith, rises_over b l i (and_right (ltb a b) _ h) (omega arith))

-- the run ends where an item below the target is followed by none
pub below_ends : (x : ℕ) (l : List ℕ) (i : ℕ) → rises l ≡ true → i < length l → get_or l i 0 < x → (suc i < length l → x ≤ get_or l (suc i) 0) → below x l ≡ suc i
unfolding rises rises_from below
below_ends x [] i h k u n = absurd (omega arith)
below_ends x (a ∷ []) zero h k u n = rw (lt-ltb a x u)
below_ends x (a ∷ []) (suc i) h k u n = absurd (omega arith)
below_ends x (a ∷ b ∷ l) zero h k u n = rw (lt-ltb a x u, le-ltb b x (n (omega arith)))
below_ends x (a ∷ b ∷ l) (suc i) h k u n =
    let ih : below x (b ∷ l) ≡ suc i = below_ends x (b ∷ l) i (and_right (ltb a b) _ h) (omega arith) u (λ m. n (omega arith)) in
    let under : a < x = omega (arith, rises_over a (b ∷ l) i h (omega arith)) in
    rw (lt-ltb a x under, ih)

pub length-between : (from upper : ℕ) (items : List ℕ) → upper ≤ length items → length (between from upper items) ≡ upper - from
length-between from upper items h = simp (length-take, length-drop) (omega arith)

pub get_d_between : (from upper : ℕ) (items : List ℕ) (i : ℕ) → i < upper - from → get_or (between from upper items) i 0 ≡ get_or items (from + i) 0
get_d_between from upper items i h = rw (get_or-take, get_or-drop)

-- where a gallop has reached, the run ends one further
pub reached_end : (items : List ℕ) (from lower upper target r : ℕ) → from ≤ lower → Rises items from upper → Reached items lower upper target r → r + 1 ≡ run_end items from upper target
unfolding below_at run_end
reached_end items from lower upper target r g s e =
    let short : r < upper = at-short items upper target r e.under in
    let on : from ≤ r = omega (arith, e.onward) in
    let len : length (between from upper items) ≡ upper - from = length-between from upper items s.within in
    let b : below target (between from upper items) ≡ suc (r - from) =
    below_ends target (between from upper items) (r - from) s.rise (omega arith)
    (rw (get_d_between from upper items (r - from) (omega arith), spot r on) (at_under items upper target r e.under))
    (λ m. rw (get_d_between from upper items (suc (r - from)) (omega arith), next r on) (past (omega arith))) in
    rw b (omega arith)
  where
    spot : (r : ℕ) → from ≤ r → from + (r - from) ≡ r
    spot r h = omega arith

    next : (r : ℕ) → from ≤ r → from + suc (r - from) ≡ r + 1
    next r h = omega arith

    past : r + 1 < upper → target ≤ get_or items (r + 1) 0
    past h =
        by_test (ltb (get_or items (r + 1) 0) target)
        (λ t. absurd (true-not-false (sym (and_both (ltb (r + 1) upper) _ (lt-ltb _ _ h) t) ∙ e.short)))
        (λ t. ltb-false _ _ t)

-- an empty range, and one whose first item is not below the target, has no run
pub no_run : (items : List ℕ) (from upper target : ℕ) → from ≤ upper → upper ≤ length items → (from < upper → target ≤ get_or items from 0) → from ≡ run_end items from upper target
unfolding below run_end
no_run items from upper target o w h = none (between from upper items) refl
  where
    none : (l : List ℕ) → between from upper items ≡ l → from ≡ run_end items from upper target
    none [] e = rw e (omega arith)
    none (a ∷ l) e =
        let len : length (between from upper items) ≡ suc (length l) = ap length e in
        let size : length (between from upper items) ≡ upper - from = length-between from upper items w in
        let here : get_or items (from + 0) 0 ≡ a = sym (get_d_between from upper items 0 (omega arith)) ∙ ap (λ (x : List ℕ). get_or x 0 0) e in
        let low : target ≤ a = omega (arith, h (omega arith), ap (λ (x : ℕ). get_or items x 0) (native.Mathlib.Nat.add-zero from)) in
        rw (e, le-ltb a target low) (omega arith)

-- ---- one item on

pub between_cons : (from upper : ℕ) (items : List ℕ) → from < upper → upper ≤ length items → between from upper items ≡ get_or items from 0 ∷ between (from + 1) upper items
between_cons from upper items h k =
    let e : upper - from ≡ suc (upper - (from + 1)) = omega arith in
    rw (e, add-one, drop-cons items from 0 (omega arith))

pub rises-on : (items : List ℕ) (from upper : ℕ) → from < upper → Rises items from upper → Rises items (from + 1) upper
unfolding rises rises_from
rises-on items from upper h r = record { ordered = omega arith; within = r.within; rise = tail (between (from + 1) upper items) (rw (between_cons from upper items h r.within) at r.rise) }
  where
    tail : (l : List ℕ) → rises_from (get_or items from 0) l ≡ true → rises l ≡ true
    tail [] p = refl
    tail (a ∷ l) p = and_right (ltb (get_or items from 0) a) _ p

pub run_on : (items : List ℕ) (from upper target : ℕ) → from < upper → upper ≤ length items → get_or items from 0 < target → run_end items (from + 1) upper target ≡ run_end items from upper target
unfolding run_end below
run_on items from upper target h k u = rw (between_cons from upper items h k, lt-ltb (get_or items from 0) target u) (omega arith)

pub run_long : (items : List ℕ) (from upper target : ℕ) → from < upper → upper ≤ length items → get_or items from 0 < target → from < run_end items from upper target
unfolding run_end below
run_long items from upper target h k u = rw (between_cons from upper items h k, lt-ltb (get_or items from 0) target u) (omega arith)

below_length : (x : ℕ) (l : List ℕ) → below x l ≤ length l
unfolding below
below_length x [] = omega arith
below_length x (a ∷ l) =
    let ih : below x l ≤ length l = below_length x l in
    by_test (ltb a x) (λ h. rw h (omega arith)) (λ h. rw h (omega arith))

pub run_within : (items : List ℕ) (from upper target : ℕ) → from ≤ upper → upper ≤ length items → run_end items from upper target ≤ upper
unfolding run_end
run_within items from upper target h k = omega (arith, below_length target (between from upper items), length-between from upper items k)

-- any number of items on
pub rises_further : (items : List ℕ) (from upper k : ℕ) → from + k ≤ upper → Rises items from upper → Rises items (from + k) upper
rises_further items from upper zero h r = rw (native.Mathlib.Nat.add-zero from) r
rises_further items from upper (suc k) h r =
    let on : Rises items (from + k + 1) upper = rises-on items (from + k) upper (omega arith) (rises_further items from upper k (omega arith) r) in
    rw (same k) on
  where
    same : (k : ℕ) → from + suc k ≡ from + k + 1
    same k = omega arith

pub rises-past : (items : List ℕ) (from upper to : ℕ) → from ≤ to → to ≤ upper → Rises items from upper → Rises items to upper
rises-past items from upper to h k r = let e : from + (to - from) ≡ to = omega arith in rw e at (rises_further items from upper (to - from) (omega arith) r)

pub between_none : (from upper : ℕ) (items : List ℕ) → upper ≤ from → between from upper items ≡ []
between_none from upper items h = let e : upper - from ≡ 0 = omega arith in rw e

-- the items past some of a range are those that are left of it
pub between-past : (from upper k : ℕ) (items : List ℕ) → from + k ≤ upper → drop k (between from upper items) ≡ between (from + k) upper items
between-past from upper k items h =
    let e : upper - from ≡ k + (upper - (from + k)) = omega arith in
    rw e (drop-take k (upper - (from + k)) (drop from items) ∙ ap (take (upper - (from + k))) (drop-drop k from items))
