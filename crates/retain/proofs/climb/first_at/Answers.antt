-- `retain::climb::first_at` meets its contract: the corner before the place where they part goes too, if it has the time's ignition.
use Prim.Native.Nat.{ℕ, ◌-◌, ◌<◌, ◌≤◌}
use mathlib.Core.Path.{◌≡◌, sym, ◌∙◌, ap}
use mathlib.Core.Bool.{true, false}
use mathlib.Core.List.{List}
use native.Mathlib.Omega.{arith}
use lib.Dec.{leb, eqb}
use lib.ListN.{length, get_or}
use borrow.Author.Tests.{le-leb, leb-false, eqb-true, eqb-false}
use Rattle.chunk.specs.Entry.{ignition, tick}
use Rattle.laws.proofs.Tests.{by_test, and_both, true-not-false}
use Rattle.retain.specs.Frontier.{is_open, ordered}
use Rattle.retain.specs.Found.{PartedAt, Before}
use Rattle.retain.proofs.Stairs.{any_some, ordered_at}
use Rattle.retain.proofs.climb.first_at.Goals as goal

module _ (corners : List ℕ) (t : ℕ) (o : ordered corners ≡ true) (shut : is_open corners t ≡ false) where
  -- of a lower ignition and not at or below the time: higher in tick
  higher : (k : ℕ) → k < length corners → ignition (get_or corners k 0) ≤ ignition t → tick t < tick (get_or corners k 0)
  unfolding is_open
  higher k h e =
      by_test (leb (tick (get_or corners k 0)) (tick t))
      (λ d. absurd (true-not-false (sym (any_some _ corners k h (and_both _ _ (le-leb (ignition (get_or corners k 0)) (ignition t) e) d)) ∙ shut)))
      (λ d. leb-false _ _ d)

  none : (n : ℕ) → n ≡ 0 → PartedAt corners t n → Before corners t 0
  none n e w = record { within = omega arith; early = λ k h. absurd (omega arith); late = λ k h j. let l = w.late k (omega arith) j in omega arith }

  tied : (n : ℕ) → (n ≡ 0 → ⊥) → PartedAt corners t n → ignition t ≤ ignition (get_or corners (n - 1) 0) → Before corners t (n - 1)
  tied n ne w h =
      let d = w.within in
      record {
        within = omega arith;
        early = λ k b. let e = w.early (n - 1) (omega arith) in let s : ignition (get_or corners k 0) < ignition (get_or corners (n - 1) 0) = (ordered_at corners o k (n - 1) b (omega arith)).right in
            record { right = omega arith; down = higher k (omega arith) (omega arith) };
        late = λ k b j. by_test (eqb k (n - 1))
            (λ e. let z : get_or corners k 0 ≡ get_or corners (n - 1) 0 = ap (λ (x : ℕ). get_or corners x 0) (eqb-true _ _ e) in omega arith)
            (λ e. let q : k ≡ n - 1 → ⊥ = eqb-false _ _ e in let l = w.late k (omega arith) j in omega arith);
      }

  apart : (n : ℕ) → (n ≡ 0 → ⊥) → PartedAt corners t n → ignition (get_or corners (n - 1) 0) < ignition t → Before corners t n
  apart n ne w h =
      let d = w.within in
      record {
        within = d;
        early = λ k b. record { right = below k b; down = higher k (omega arith) (w.early k b) };
        late = λ k b j. let l = w.late k b j in omega arith;
      }
    where
      below : (k : ℕ) → k < n → ignition (get_or corners k 0) < ignition t
      below k b =
          let d = w.within in
          by_test (eqb k (n - 1))
          (λ e. let z : get_or corners k 0 ≡ get_or corners (n - 1) 0 = ap (λ (x : ℕ). get_or corners x 0) (eqb-true _ _ e) in omega arith)
          (λ e. let q : k ≡ n - 1 → ⊥ = eqb-false _ _ e in let s : ignition (get_or corners k 0) < ignition (get_or corners (n - 1) 0) = (ordered_at corners o k (n - 1) (omega arith) (omega arith)).right in omega arith)

pub returns-then-place-eq0 : goal.returns-then-place-eq0
returns-then-place-eq0 c = let a = c in none _ a.args.t a.args.corners.in_order a.requires _ c.if-place-eq0.true c.place_of-place.ensures

pub returns-then-t-corner : goal.returns-then-t-corner
returns-then-t-corner c = let a = c in tied _ a.args.t a.args.corners.in_order a.requires _ c.if-place-eq0.false c.place_of-place.ensures c.if-t-corner.true

pub returns : goal.returns
returns c = let a = c in apart _ a.args.t a.args.corners.in_order a.requires _ c.if-place-eq0.false c.place_of-place.ensures c.if-t-corner.false
