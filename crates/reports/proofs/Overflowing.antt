-- Whether a sum overflows, by the shared items that woven reports name: no other two items are at one position.
use Prim.Native.Nat.{ℕ, zero, suc, ◌-◌, ◌<◌}
use mathlib.Core.Path.{◌≡◌, refl, sym, ◌∙◌, ap}
use mathlib.Core.Bool.{Bool, true, false, not, ◌||◌}
use mathlib.Core.List.{List, [], ◌∷◌}
use native.Mathlib.Omega.{arith}
use lib.ListN.{length, get_or, take, drop, drop_of_length-le, get_or-map}
use lib.Seq.{drop-cons}
use Rattle.laws.proofs.Tests.{by_test, and_left, and_right, and_both, true-not-false}
use Rattle.laws.proofs.Lists.{every_imp}
use Rattle.laws.proofs.Order.{before_trans, before-not-same, same_sym, same-before, rising_tail, rising_all}
use Rattle.chunk.specs.Entry.{Entry, before, same, rising, every, stands}
use Rattle.chunk.specs.Bodies.{diffs}
use Rattle.chunk.specs.Sums.{sum_fits}
use Rattle.reports.specs.Survey.{Report, this, that, both}
use Rattle.reports.specs.Merge.{overflows_at, overflows}
use Rattle.reports.proofs.WriteEntries.{diffs_all}
use Rattle.reports.specs.Tail.{only_this, only_that, trimmed, overflows_by}
use Rattle.reports.specs.Woven.{no_entry, ahead, Woven}
use Rattle.reports.proofs.Trimming.{ending, by_ending, trimmed-none, trimmed-some}
use Rattle.reports.proofs.Joining.{past_run}

-- ---- rising lists

rising-drop : (n : ℕ) (es : List Entry) → rising es ≡ true → rising (drop n es) ≡ true
unfolding rising
rising-drop zero es h = h
rising-drop (suc n) [] h = h
rising-drop (suc n) (e ∷ es) h = rising-drop n es (rising_tail e es h)

-- before the head is before all
ahead_all : (x : Entry) (ys : List Entry) → rising ys ≡ true → ahead before ys x ≡ true → every (before x) ys ≡ true
unfolding every rising
ahead_all x [] h a = refl
ahead_all x (y ∷ ys) h a = and_both (before x y) _ a (every_imp (before y) (before x) (λ z b. before_trans x y z a b) ys (rising_all y ys h))

not_same : (x y : Entry) → before x y ≡ true → same y x ≡ false
not_same x y h =
    by_test (same y x) (λ s. absurd (true-not-false (sym (same_sym y x s) ∙ before-not-same x y h))) (λ s. s)

-- ---- what overflows

-- an item before all of a list overflows with none of it
none-at : (x : Entry) (ys : List Entry) → every (before x) ys ≡ true → overflows_at x ys ≡ false
unfolding every overflows_at
none-at x [] h = refl
none-at x (y ∷ ys) h = rw (before-not-same x y (and_left (before x y) _ h)) (none-at x ys (and_right (before x y) _ h))

-- nor does any of the list with it
none_of : (y : Entry) (xs ys : List Entry) → every (before y) xs ≡ true → overflows xs (y ∷ ys) ≡ overflows xs ys
unfolding every overflows overflows_at
none_of y [] ys h = refl
none_of y (x ∷ xs) ys h =
    rw (not_same y x (and_left (before y x) _ h)) (ap (λ (b : Bool). overflows_at x ys || b) (none_of y xs ys (and_right (before y x) _ h)))

-- a run of the first before all of the second
pass_first : (n : ℕ) (xs ys : List Entry) → rising ys ≡ true → every (ahead before ys) (take n xs) ≡ true → overflows xs ys ≡ overflows (drop n xs) ys
unfolding every overflows
pass_first zero xs ys r h = refl
pass_first (suc n) [] ys r h = refl
pass_first (suc n) (x ∷ xs) ys r h =
    rw (none-at x ys (ahead_all x ys r (and_left (ahead before ys x) _ h))) (pass_first n xs ys r (and_right (ahead before ys x) _ h))

-- a run of the second before all of the first
pass_second : (n : ℕ) (xs ys : List Entry) → rising xs ≡ true → every (ahead before xs) (take n ys) ≡ true → overflows xs ys ≡ overflows xs (drop n ys)
unfolding every
pass_second zero xs ys r h = refl
pass_second (suc n) xs [] r h = refl
pass_second (suc n) xs (y ∷ ys) r h =
    none_of y xs ys (ahead_all y xs r (and_left (ahead before xs y) _ h)) ∙ pass_second n xs ys r (and_right (ahead before xs y) _ h)

-- two heads at one position
pass_both : (x : Entry) (xs : List Entry) (y : Entry) (ys : List Entry) → rising (x ∷ xs) ≡ true → rising (y ∷ ys) ≡ true → same x y ≡ true
    → overflows (x ∷ xs) (y ∷ ys) ≡ (not (sum_fits x.diff y.diff) || overflows xs ys)
unfolding overflows overflows_at rising
pass_both x xs y ys h k s =
    let a : every (before x) ys ≡ true = every_imp (before y) (before x) (λ z b. same-before x y z s ∙ b) ys (rising_all y ys k) in
    let b : every (before y) xs ≡ true = every_imp (before x) (before y) (λ z b. sym (same-before x y z s) ∙ b) xs (rising_all x xs h) in
    rw (s, none-at x ys a, none_of y xs ys b) (or-none (not (sum_fits x.diff y.diff)) (overflows xs ys))
  where
    or-none : (a b : Bool) → ((a || false) || b) ≡ (a || b)
    or-none true b = refl
    or-none false b = refl

-- ---- along the reports

module _ (es fs : List Entry) (h : rising es ≡ true) (k : rising fs ≡ true) (s : every stands es ≡ true) (t : every stands fs ≡ true) where
  abbrev Agrees : ℕ → ℕ → List Report → Type 0
  Agrees i j rs = overflows (drop i es) (drop j fs) ≡ overflows_by (diffs es) (diffs fs) rs

  diff-at : (gs : List Entry) (i : ℕ) → every stands gs ≡ true → (get_or gs i no_entry).diff ≡ get_or (diffs gs) i 0
  diff-at gs i u = sym (get_or-map (λ (e : Entry). e.diff) gs i no_entry) ∙ ap (λ (d : List ℕ). get_or d i 0) (sym (diffs_all gs u))

  both_step : (i j : ℕ) → i < length es → j < length fs → same (get_or es i no_entry) (get_or fs j no_entry) ≡ true
      → overflows (drop i es) (drop j fs) ≡ (not (sum_fits (get_or (diffs es) i 0) (get_or (diffs fs) j 0)) || overflows (drop (suc i) es) (drop (suc j) fs))
  both_step i j m n q =
      let x : drop i es ≡ get_or es i no_entry ∷ drop (suc i) es = drop-cons es i no_entry m in
      let y : drop j fs ≡ get_or fs j no_entry ∷ drop (suc j) fs = drop-cons fs j no_entry n in
      (λ z. overflows (x z) (y z))
      ∙ pass_both (get_or es i no_entry) (drop (suc i) es) (get_or fs j no_entry) (drop (suc j) fs) (rw x at (rising-drop i es h)) (rw y at (rising-drop j fs k)) q
      ∙ (λ z. not (sum_fits (diff-at es i s z) (diff-at fs j t z)) || overflows (drop (suc i) es) (drop (suc j) fs))

  agrees : (i j : ℕ) (rs : List Report) → Woven before same es fs i j rs → Agrees i j rs
  unfolding overflows_by overflows
  agrees i j [] w = ap (λ (l : List Entry). overflows l (drop j fs)) (drop_of_length-le es {i = i} (omega (arith, w.0)))
  agrees i j (this l m ∷ rs) w =
      ap (λ (n : ℕ). overflows (drop n es) (drop j fs)) (sym w.0)
      ∙ pass_first (m - l) (drop l es) (drop j fs) (rising-drop j fs k) w.3
      ∙ ap (λ (x : List Entry). overflows x (drop j fs)) (past_run l m es w.1)
      ∙ agrees m j rs w.4
  agrees i j (that l m ∷ rs) w =
      ap (λ (n : ℕ). overflows (drop i es) (drop n fs)) (sym w.0)
      ∙ pass_second (m - l) (drop i es) (drop l fs) (rising-drop i es h) w.3
      ∙ ap (λ (y : List Entry). overflows (drop i es) y) (past_run l m fs w.1)
      ∙ agrees i m rs w.4
  agrees i j (both a b ∷ rs) w =
      both_step i j w.2 w.3 w.4
      ∙ ap (λ (o : Bool). not (sum_fits (get_or (diffs es) i 0) (get_or (diffs fs) j 0)) || o) (agrees (suc i) (suc j) rs w.5)
      ∙ (λ z. not (sum_fits (get_or (diffs es) (sym w.0 z) 0) (get_or (diffs fs) (sym w.1 z) 0)) || overflows_by (diffs es) (diffs fs) rs)

-- runs of one input have no shared items
none-this : (a b : List ℕ) (rs : List Report) → only_this rs ≡ true → overflows_by a b rs ≡ false
unfolding only_this overflows_by
none-this a b [] o = refl
none-this a b (this l h ∷ rs) o = none-this a b rs o
none-this a b (that l h ∷ rs) o = absurd (true-not-false (sym o))
none-this a b (both i j ∷ rs) o = absurd (true-not-false (sym o))

none-that : (a b : List ℕ) (rs : List Report) → only_that rs ≡ true → overflows_by a b rs ≡ false
unfolding only_that overflows_by
none-that a b [] o = refl
none-that a b (this l h ∷ rs) o = absurd (true-not-false (sym o))
none-that a b (that l h ∷ rs) o = none-that a b rs o
none-that a b (both i j ∷ rs) o = absurd (true-not-false (sym o))

-- so nothing is lost with the runs that are trimmed off
pub overflows-trimmed : (a b : List ℕ) (rs : List Report) → overflows_by a b (trimmed rs) ≡ overflows_by a b rs
unfolding overflows_by trimmed
overflows-trimmed a b [] = refl
overflows-trimmed a b (r ∷ rs) =
    by_test (ending (r ∷ rs))
    (λ e. ap (overflows_by a b) (trimmed-none (r ∷ rs) e) ∙ sym (by_ending (r ∷ rs) e (none-this a b (r ∷ rs)) (none-that a b (r ∷ rs))))
    (λ e. ap (overflows_by a b) (trimmed-some r rs e) ∙ onward r (overflows-trimmed a b rs))
  where
    onward : (r : Report) → overflows_by a b (trimmed rs) ≡ overflows_by a b rs → overflows_by a b (r ∷ trimmed rs) ≡ overflows_by a b (r ∷ rs)
    onward (this l h) ih = ih
    onward (that l h) ih = ih
    onward (both i j) ih = ap (λ (o : Bool). not (sum_fits (get_or a i 0) (get_or b j 0)) || o) ih

module _ (es fs : List Entry) (ts : List Report) (w : Woven before same es fs 0 0 ts) where
  pub overflows_by_lem : rising es ≡ true → rising fs ≡ true → every stands es ≡ true → every stands fs ≡ true
      → overflows es fs ≡ overflows_by (diffs es) (diffs fs) ts
  overflows_by_lem h k s t = agrees es fs h k s t 0 0 ts w

  pub overflows_by-trimmed : rising es ≡ true → rising fs ≡ true → every stands es ≡ true → every stands fs ≡ true
      → overflows es fs ≡ overflows_by (diffs es) (diffs fs) (trimmed ts)
  overflows_by-trimmed h k s t = overflows_by_lem h k s t ∙ sym (overflows-trimmed (diffs es) (diffs fs) ts)
