-- Tests taken apart, and the two orders of times as numbers.
use Prim.Native.Nat.{ℕ, ◌<◌, ◌≤◌}
use mathlib.Core.Path.{◌≡◌, refl, sym}
use mathlib.Core.Bool.{Bool, true, false, ◌&&◌, ◌||◌}
use native.Mathlib.Omega.{arith}
use lib.Dec.{ltb, eqb}
use borrow.Author.Tests.{lt-ltb, le-ltb, ltb-true, ltb-false, eqb-true, eqb-false}
use Rattle.chunk.specs.Entry.{ignition, tick}
use Rattle.chunk.specs.Time.{earlier}

-- the two values differ
pub true-not-false : true ≡ false → ⊥
true-not-false h = let z : ◌≡◌ {A = ℕ} 0 1 = cc in omega arith

-- by the two values of a test
pub by_test {ℓ} : {P : Type ℓ} (b : Bool) → (b ≡ true → P) → (b ≡ false → P) → P
by_test true f g = f refl
by_test false f g = g refl

-- a test that fails refuses the whole
pub and-false : (a : Bool) → (a && false) ≡ false
and-false true = refl
and-false false = refl

-- a test that fails leaves the other, and one that holds does in a conjunction
pub or-false : (a : Bool) → (a || false) ≡ a
or-false true = refl
or-false false = refl

pub and-true : (a : Bool) → (a && true) ≡ a
and-true true = refl
and-true false = refl

-- both tests of a conjunction hold, and back
pub and_left : (a b : Bool) → (a && b) ≡ true → a ≡ true
and_left true b h = refl
and_left false b h = h

pub and_right : (a b : Bool) → (a && b) ≡ true → b ≡ true
and_right true b h = h
and_right false b h = absurd (true-not-false (sym h))

pub and_both : (a b : Bool) → a ≡ true → b ≡ true → (a && b) ≡ true
and_both a b h k = simp (h, k)

pub and_turned : (a b : Bool) → (a && b) ≡ (b && a)
and_turned true b = sym (and-true b)
and_turned false b = sym (and-false b)

pub and_joins : (a b c : Bool) → (a && (b && c)) ≡ ((a && b) && c)
and_joins true b c = refl
and_joins false b c = refl

-- two tests are equal that hold together
pub bool_eq : (a b : Bool) → (a ≡ true → b ≡ true) → (b ≡ true → a ≡ true) → a ≡ b
bool_eq true b f g = sym (f refl)
bool_eq false true f g = g refl
bool_eq false false f g = refl

-- ignition first is the order of the numbers
pub earlier_is_less : (s t : ℕ) → ltb s t ≡ earlier s t
earlier_is_less s t =
    by_test (ltb (ignition s) (ignition t))
    (λ h. let k : ignition s < ignition t = ltb-true _ _ h in simp (h, lt-ltb s t (omega arith)))
    (λ h. let k : ignition t ≤ ignition s = ltb-false _ _ h in
    by_test (eqb (ignition s) (ignition t))
    (λ e. let q : ignition s ≡ ignition t = eqb-true _ _ e in
    by_test (ltb (tick s) (tick t))
    (λ f. let m : tick s < tick t = ltb-true _ _ f in simp (h, e, f, lt-ltb s t (omega arith)))
    (λ f. let m : tick t ≤ tick s = ltb-false _ _ f in simp (h, e, f, le-ltb s t (omega arith))))
    (λ e. let q : ignition s ≡ ignition t → ⊥ = eqb-false _ _ e in simp (h, e, le-ltb s t (omega (arith, q)))))
