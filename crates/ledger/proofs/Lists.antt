-- What tests, sums and rising positions have on parts of a list.
use Prim.Native.Nat.{ℕ, zero, suc, ◌<◌, ◌≤◌}
use mathlib.Core.Path.{◌≡◌, refl, sym, ◌∙◌}
use mathlib.Core.Bool.{Bool, true, cond, ◌&&◌}
use mathlib.Core.List.{List, [], ◌∷◌, ◌++◌}
use native.Mathlib.Omega.{arith}
use native.Mathlib.Nat.{le_of_suc-le-suc, not-suc-le-zero}
use lib.Dec.{eqb}
use lib.ListN.{length, take, drop, get_or}
use lib.IntN.{ℤ, pos, ◌+ℤ◌, +ℤ_idl}
use Rattle.chunk.specs.Entry.{Entry, before, change, rising, rising_from, every, keep}
use Rattle.chunk.specs.Sums.{total}
use Rattle.meld.specs.Meld.{follows, last_before}
use Rattle.laws.proofs.Tests.{by_test, and_left, and_right, and_both}
use Rattle.laws.proofs.Lists.{every_append as parts-every}

-- ---- every

-- of two lists, one after the other
pub every_append {ℓ} : {A : Type ℓ} (p : A → Bool) (a b : List A) → every p a ≡ true → every p b ≡ true → every p (a ++ b) ≡ true
every_append p a b h k = parts-every p a b ∙ and_both _ _ h k

-- of a part of a list
pub every_take {ℓ} : {A : Type ℓ} (p : A → Bool) (n : ℕ) (l : List A) → every p l ≡ true → every p (take n l) ≡ true
unfolding every
every_take p zero l h = refl
every_take p (suc n) [] h = refl
every_take p (suc n) (x ∷ l) h = and_both (p x) _ (and_left _ _ h) (every_take p n l (and_right (p x) _ h))

pub every_drop {ℓ} : {A : Type ℓ} (p : A → Bool) (n : ℕ) (l : List A) → every p l ≡ true → every p (drop n l) ≡ true
unfolding every
every_drop p zero l h = h
every_drop p (suc n) [] h = refl
every_drop p (suc n) (x ∷ l) h = every_drop p n l (and_right (p x) _ h)

-- at a place
pub every-get_or {ℓ} : {A : Type ℓ} (p : A → Bool) (l : List A) (n : ℕ) (d : A) → every p l ≡ true → n < length l → p (get_or l n d) ≡ true
unfolding every
every-get_or p [] n d h k = absurd (not-suc-le-zero k)
every-get_or p (x ∷ l) zero d h k = and_left _ _ h
every-get_or p (x ∷ l) (suc n) d h k = every-get_or p l n d (and_right (p x) _ h) (le_of_suc-le-suc k)

-- ---- lengths

-- what is kept is no longer
pub length-keep {ℓ} : {A : Type ℓ} (p : A → Bool) (l : List A) → length (keep p l) ≤ length l
unfolding keep
length-keep p [] = omega arith
length-keep p (e ∷ l) =
    let t : length (keep p l) ≤ length l = length-keep p l in
    by_test (p e) (λ k. simp k (omega arith)) (λ k. simp k (omega arith))

-- ---- sums

module _ (k v t : ℕ) where
  -- the test of `total`
  abbrev pub sits : Entry → Bool
  sits e = eqb e.key k && (eqb e.val v && eqb e.time t)

  -- one entry's part of the sum
  abbrev pub part : Entry → ℤ
  part e = cond (sits e) (change e.diff) (pos 0)

  -- the first, and the rest
  pub total-cons : (e : Entry) (es : List Entry) → total k v t (e ∷ es) ≡ part e +ℤ total k v t es
  unfolding total
  total-cons e es = by_test (sits e) (λ h. simp h) (λ h. simp h (sym (+ℤ_idl _)))

-- ---- rising positions

-- two lists of which the second follows the first
pub rising-append : (a b : List Entry) → rising a ≡ true → rising b ≡ true → follows a b ≡ true → rising (a ++ b) ≡ true
unfolding rising rising_from follows last_before
rising-append [] b h k f = k
rising-append (x ∷ []) [] h k f = refl
rising-append (x ∷ []) (y ∷ b) h k f = and_both _ _ f k
rising-append (x ∷ z ∷ a) b h k f = and_both (before x z) _ (and_left _ _ h) (rising-append (z ∷ a) b (and_right (before x z) _ h) k f)
