-- The first n and the rest: the totals at each position add up, and both are rising lists of standing entries where the whole is one.
use Prim.Native.Nat.{ℕ, zero, suc}
use mathlib.Core.Path.{◌≡◌, refl, sym, ◌∙◌, ap}
use mathlib.Core.Bool.{Bool, true, ◌&&◌}
use mathlib.Core.List.{List, [], ◌∷◌, ◌++◌}
use lib.Dec.{eqb}
use lib.IntN.{◌+ℤ◌, +ℤ_assoc, +ℤ_idl}
use lib.ListN.{take, drop, take-append-drop}
use Rattle.chunk.specs.Entry.{Entry, every, rising, before}
use Rattle.chunk.specs.Sums.{total}
use Rattle.laws.proofs.Tests.{by_test, and_left, and_right, and_both}
use Rattle.laws.proofs.Order.{rising_tail, rising_all, all_rising}
use Rattle.split.specs.Records.{SplitJoins}

-- ---- totals

-- the total of two lists, one after the other
pub total-append : (k v t : ℕ) (es fs : List Entry) → total k v t (es ++ fs) ≡ total k v t es +ℤ total k v t fs
unfolding total
total-append k v t [] fs = sym (+ℤ_idl (total k v t fs))
total-append k v t (e ∷ es) fs =
    let ih : total k v t (es ++ fs) ≡ total k v t es +ℤ total k v t fs = total-append k v t es fs in
    by_test (eqb e.key k && (eqb e.val v && eqb e.time t)) (λ m. simp (m, ih, +ℤ_assoc)) (λ m. simp (m, ih))

-- the total of the first n, and of the rest
pub total_cut : (k v t n : ℕ) (es : List Entry) → total k v t (take n es) +ℤ total k v t (drop n es) ≡ total k v t es
total_cut k v t n es = sym (total-append k v t (take n es) (drop n es)) ∙ ap (λ (l : List Entry). total k v t l) (take-append-drop n es)

-- ---- rising and standing

pub take-every : (q : Entry → Bool) (n : ℕ) (es : List Entry) → every q es ≡ true → every q (take n es) ≡ true
unfolding every
take-every q zero es h = refl
take-every q (suc n) [] h = refl
take-every q (suc n) (e ∷ es) h = and_both (q e) _ (and_left _ _ h) (take-every q n es (and_right (q e) _ h))

pub drop-every : (q : Entry → Bool) (n : ℕ) (es : List Entry) → every q es ≡ true → every q (drop n es) ≡ true
unfolding every
drop-every q zero es h = h
drop-every q (suc n) [] h = h
drop-every q (suc n) (e ∷ es) h = drop-every q n es (and_right (q e) _ h)

pub take-rising : (n : ℕ) (es : List Entry) → rising es ≡ true → rising (take n es) ≡ true
unfolding rising
take-rising zero es h = refl
take-rising (suc n) [] h = refl
take-rising (suc n) (a ∷ es) h =
    all_rising a (take n es) (take-every (before a) n es (rising_all a es h)) (take-rising n es (rising_tail a es h))

pub drop-rising : (n : ℕ) (es : List Entry) → rising es ≡ true → rising (drop n es) ≡ true
unfolding rising
drop-rising zero es h = h
drop-rising (suc n) [] h = h
drop-rising (suc n) (a ∷ es) h = drop-rising n es (rising_tail a es h)

-- ---- the records again

pub split_joins : SplitJoins
split_joins n es = take-append-drop n es
