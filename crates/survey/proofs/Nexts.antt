-- The next report of two lists of keys: the ways to it, and the reports that follow it.
use Prim.Native.Nat.{ℕ, ◌+◌, ◌-◌, ◌<◌, ◌≤◌}
use mathlib.Core.Path.{◌≡◌, refl, sym, ◌∙◌, ap}
use mathlib.Core.List.{List, [], ◌∷◌}
use Rattle.std.specs.Prelude.{Some, None, IsSome}
use native.Mathlib.Omega.{arith}
use lib.ListN.{length, get_or}
use lib.Seq.{take_all}
use lib.Dec.{ltb, eqb}
use borrow.Author.Tests.{lt-ltb, le-ltb, ltb-true, ltb-false, eqb-true, eqb-false}
use Rattle.laws.proofs.Tests.{by_test}
use Rattle.reports.specs.Survey.{this, that, both, reports}
use Rattle.reports.specs.Survey.{Report as Said}
use Rattle.reports.specs.Gallop.{run_end}
use Rattle.reports.specs.Scratch.{step_report, pair_of}
use Rattle.reports.proofs.Galloping.{run_within}
use Rattle.reports.proofs.Ranges.{reports_count, pair_none, pair_this, pair_that}
use Rattle.merge.proofs.Stepping.{step_both, step_this, step_that, pair_step}
use Rattle.survey.specs.Reports.{next_by, next_in}
use Rattle.survey.specs.declared.Spot.{Spot}
use Rattle.survey.specs.declared.Next.{Next}

module _ (xs ys : List ℕ) (i j : ℕ) where
  abbrev X : ℕ
  X = get_or xs i 0

  abbrev Y : ℕ
  Y = get_or ys j 0

  pub next_none : length xs ≤ i → length ys ≤ j → next_in xs ys i j ≡ None
  unfolding next_in
  next_none h k = rw (le-ltb i (length xs) h, le-ltb j (length ys) k)

  pub next_that_left : length xs ≤ i → j < length ys → next_in xs ys i j ≡ Some (next_by i j (that j (length ys)))
  unfolding next_in
  next_that_left h k = rw (le-ltb i (length xs) h, lt-ltb j (length ys) k)

  pub next_this_left : i < length xs → length ys ≤ j → next_in xs ys i j ≡ Some (next_by i j (this i (length xs)))
  unfolding next_in
  next_this_left h k = rw (lt-ltb i (length xs) h, le-ltb j (length ys) k)

  module _ (h : i < length xs) (k : j < length ys) where
    pub next_heads : next_in xs ys i j ≡ Some (next_by i j (step_report xs i (length xs) ys j (length ys)))
    unfolding next_in
    next_heads = rw (lt-ltb i (length xs) h, lt-ltb j (length ys) k)

    pub next_both : X ≡ Y → next_in xs ys i j ≡ Some (next_by i j (both i j))
    next_both e = next_heads ∙ ap (λ (s : Said). Some (next_by i j s)) (step_both xs i (length xs) ys j (length ys) e)

    pub next_this : X < Y → next_in xs ys i j ≡ Some (next_by i j (this i (run_end xs i (length xs) Y)))
    next_this e = next_heads ∙ ap (λ (s : Said). Some (next_by i j s)) (step_this xs i (length xs) ys j (length ys) e)

    pub next_that : Y < X → next_in xs ys i j ≡ Some (next_by i j (that j (run_end ys j (length ys) X)))
    next_that e = next_heads ∙ ap (λ (s : Said). Some (next_by i j s)) (step_that xs i (length xs) ys j (length ys) e)

-- the reports that are left from a spot on
abbrev pub left : List ℕ → List ℕ → Spot → List Said
left xs ys s = pair_of xs s.i (length xs) ys s.j (length ys)

-- a report is said, and those past it follow; both inputs stand within their keys past it
pub record Turn (xs ys : List ℕ) (s : Spot) (nx : Next) : Type 0 where
  pub said : Said
  pub is : nx ≡ next_by s.i s.j said
  pub split : left xs ys s ≡ said ∷ left xs ys nx.spot
  pub in_i : nx.spot.i ≤ length xs
  pub in_j : nx.spot.j ≤ length ys

-- what is next: a report, or nothing is left
data Step (xs ys : List ℕ) (s : Spot) : Type 0 where
  goes : (nx : Next) → next_in xs ys s.i s.j ≡ Some nx → Turn xs ys s nx → Step xs ys s
  over : next_in xs ys s.i s.j ≡ None → left xs ys s ≡ [] → Step xs ys s

module _ (xs ys : List ℕ) (s : Spot) (in_i : s.i ≤ length xs) (in_j : s.j ≤ length ys) where
  le_self : (a : ℕ) → a ≤ a
  le_self a = omega arith

  turn-this_left : s.i < length xs → length ys ≤ s.j → Turn xs ys s (next_by s.i s.j (this s.i (length xs)))
  turn-this_left h k = record {
    said = this s.i (length xs);
    is = refl;
    split = pair_this xs s.i (length xs) ys s.j (length ys) h (le_self _) k ∙ ap (λ (l : List Said). this s.i (length xs) ∷ l) (sym (pair_none xs (length xs) (length xs) ys s.j (length ys) (le_self _) k));
    in_i = le_self _;
    in_j = in_j;
  }

  turn-that_left : length xs ≤ s.i → s.j < length ys → Turn xs ys s (next_by s.i s.j (that s.j (length ys)))
  turn-that_left h k = record {
    said = that s.j (length ys);
    is = refl;
    split = pair_that xs s.i (length xs) ys s.j (length ys) h k (le_self _) ∙ ap (λ (l : List Said). that s.j (length ys) ∷ l) (sym (pair_none xs s.i (length xs) ys (length ys) (length ys) h (le_self _)));
    in_i = in_i;
    in_j = le_self _;
  }

  module _ (h : s.i < length xs) (k : s.j < length ys) where
    steps : (r : Said) → step_report xs s.i (length xs) ys s.j (length ys) ≡ r → left xs ys s ≡ r ∷ left xs ys (next_by s.i s.j r).spot
    steps (this a b) e = pair_step xs s.i (length xs) ys s.j (length ys) h (le_self _) k (le_self _) ∙ rw e
    steps (that a b) e = pair_step xs s.i (length xs) ys s.j (length ys) h (le_self _) k (le_self _) ∙ rw e
    steps (both a b) e = pair_step xs s.i (length xs) ys s.j (length ys) h (le_self _) k (le_self _) ∙ rw e

    turn-both : get_or xs s.i 0 ≡ get_or ys s.j 0 → Turn xs ys s (next_by s.i s.j (both s.i s.j))
    turn-both e = record { said = both s.i s.j; is = refl; split = steps (both s.i s.j) (step_both xs s.i (length xs) ys s.j (length ys) e); in_i = omega arith; in_j = omega arith }

    turn-this : get_or xs s.i 0 < get_or ys s.j 0 → Turn xs ys s (next_by s.i s.j (this s.i (run_end xs s.i (length xs) (get_or ys s.j 0))))
    turn-this e = record {
      said = this s.i (run_end xs s.i (length xs) (get_or ys s.j 0));
      is = refl;
      split = steps _ (step_this xs s.i (length xs) ys s.j (length ys) e);
      in_i = run_within xs s.i (length xs) (get_or ys s.j 0) in_i (le_self _);
      in_j = in_j;
    }

    turn-that : get_or ys s.j 0 < get_or xs s.i 0 → Turn xs ys s (next_by s.i s.j (that s.j (run_end ys s.j (length ys) (get_or xs s.i 0))))
    turn-that e = record {
      said = that s.j (run_end ys s.j (length ys) (get_or xs s.i 0));
      is = refl;
      split = steps _ (step_that xs s.i (length xs) ys s.j (length ys) e);
      in_i = in_i;
      in_j = run_within ys s.j (length ys) (get_or xs s.i 0) in_j (le_self _);
    }

    step_heads : Step xs ys s
    step_heads =
        by_test (eqb (get_or xs s.i 0) (get_or ys s.j 0))
        (λ t. let e : get_or xs s.i 0 ≡ get_or ys s.j 0 = eqb-true (get_or xs s.i 0) (get_or ys s.j 0) t in goes _ (next_both xs ys s.i s.j h k e) (turn-both e))
        (λ t. by_test (ltb (get_or xs s.i 0) (get_or ys s.j 0))
        (λ u. let e : get_or xs s.i 0 < get_or ys s.j 0 = ltb-true (get_or xs s.i 0) (get_or ys s.j 0) u in goes _ (next_this xs ys s.i s.j h k e) (turn-this e))
        (λ u. let e : get_or ys s.j 0 < get_or xs s.i 0 = omega (arith, ltb-false (get_or xs s.i 0) (get_or ys s.j 0) u, eqb-false (get_or xs s.i 0) (get_or ys s.j 0) t) in
        goes _ (next_that xs ys s.i s.j h k e) (turn-that e)))

  -- the next report is the first of those that are left, and none comes where none is left
  step : Step xs ys s
  step =
      by_test (ltb s.i (length xs))
      (λ t. let h : s.i < length xs = ltb-true s.i (length xs) t in
      by_test (ltb s.j (length ys))
      (λ u. step_heads h (ltb-true s.j (length ys) u))
      (λ u. let k : length ys ≤ s.j = ltb-false s.j (length ys) u in goes _ (next_this_left xs ys s.i s.j h k) (turn-this_left h k)))
      (λ t. let h : length xs ≤ s.i = ltb-false s.i (length xs) t in
      by_test (ltb s.j (length ys))
      (λ u. let k : s.j < length ys = ltb-true s.j (length ys) u in goes _ (next_that_left xs ys s.i s.j h k) (turn-that_left h k))
      (λ u. let k : length ys ≤ s.j = ltb-false s.j (length ys) u in over (next_none xs ys s.i s.j h k) (pair_none xs s.i (length xs) ys s.j (length ys) h k)))

  -- the same by what the code is given
  pub turn : (nx : Next) → Some nx ≡ next_in xs ys s.i s.j → Turn xs ys s nx
  turn nx e = elim step [ goes my q t ↦ let z : nx ≡ my = cc in rw z t | over q z ↦ absurd (let n : Some nx ≡ None = e ∙ q in cc) ]

  pub none_left : None ≡ next_in xs ys s.i s.j → left xs ys s ≡ []
  none_left e = elim step [ goes nx q t ↦ absurd (let n : None ≡ Some nx = e ∙ q in cc) | over q z ↦ z ]

  -- while a report is left, there is a next one
  pub some_next : 0 < length (left xs ys s) → IsSome (next_in xs ys s.i s.j)
  some_next h = elim step [ goes nx q t ↦ rw q | over q z ↦ absurd (omega (arith, ap length z)) ]

sub-none : (n : ℕ) → n - 0 ≡ n
sub-none n = omega arith

-- where both inputs begin
abbrev pub outset : Spot
outset = record { i = 0; j = 0 }

-- from there on, they are all the reports
pub whole : (xs ys : List ℕ) → left xs ys outset ≡ reports xs ys
unfolding pair_of reports
whole xs ys = rw (sub-none (length xs), sub-none (length ys), take_all (length xs) xs (omega arith), take_all (length ys) ys (omega arith))

-- no more reports than keys
pub count_within : (xs ys : List ℕ) → length (reports xs ys) ≤ length xs + length ys
unfolding reports
count_within xs ys = reports_count (length xs + length ys) 0 0 xs ys
