-- The tests on lists of entries, as the table says them: somewhere in the list it is so.
use Prim.Native.Nat.{ℕ, zero, suc, ◌<◌, ◌≤◌, ◌-◌, ◌^◌}
use mathlib.Core.Path.{◌≡◌, sym, ◌∙◌}
use mathlib.Core.Logic.{◌⊎◌, inl, inr}
use mathlib.Core.Bool.{Bool, true, false, not, ◌&&◌}
use mathlib.Core.List.{List, [], ◌∷◌}
use native.Mathlib.Omega.{arith}
use native.Mathlib.Nat.{le_of_suc-le-suc, not-suc-le-zero}
use lib.Dec.{leb}
use borrow.Author.Tests.{ltb-true, ltb-false, leb-true, leb-false, lt-ltb, not-true, not-false}
use lib.ListN.{length}
use lib.IntN.{ℤ, pos, negsuc}
use lib.Signed.{le_z, lt_z}
use Rattle.chunk.specs.Entry.{Entry, change, before, same, every}
use Rattle.chunk.specs.Sums.{sum_fits}
use Rattle.form.specs.Form.{falls, in_range}
use Rattle.reports.specs.Merge.{overflows, overflows_at, last_or}
use Rattle.meld.specs.Meld.{follows, last_before}
use Rattle.laws.proofs.Tests.{by_test, and_left, and_right, true-not-false}
use Rattle.form.proofs.Formed.{or_left, or_right}
use Rattle.ledger.proofs.Lists.{every-get_or}
use Rattle.ledger.specs.Refusals.{nth, Falls, Outside, Behind, Overflow}

-- ---- 3

pub falls-there : (es : List Entry) → falls es ≡ true → Falls es
unfolding falls
falls-there [] h = absurd (true-not-false (sym h))
falls-there (a ∷ []) h = absurd (true-not-false (sym h))
falls-there (a ∷ b ∷ es) h =
    by_test (before b a)
    (λ q. record { i = 0; there = omega arith; falls = q })
    (λ q. let r : Falls (b ∷ es) = falls-there (b ∷ es) (simp q at h) in
    record { i = suc r.i; there = omega (arith, r.there); falls = r.falls })

pub no_fall : (es : List Entry) → falls es ≡ false → (i : ℕ) → suc i < length es → before (nth es (suc i)) (nth es i) ≡ false
unfolding falls
no_fall [] h i t = absurd (not-suc-le-zero t)
no_fall (a ∷ []) h i t = absurd (not-suc-le-zero (le_of_suc-le-suc t))
no_fall (a ∷ b ∷ es) h zero t = or_left (before b a) (falls (b ∷ es)) h
no_fall (a ∷ b ∷ es) h (suc i) t = no_fall (b ∷ es) (or_right (before b a) (falls (b ∷ es)) h) i (le_of_suc-le-suc t)

-- ---- 4

-- a test that fails of some entry
pub record Fails (p : Entry → Bool) (es : List Entry) : Type 0 where
  pub i : ℕ
  pub there : i < length es
  pub fails : p (nth es i) ≡ false

some-fails : (p : Entry → Bool) (es : List Entry) → every p es ≡ false → Fails p es
unfolding every
some-fails p [] h = absurd (true-not-false h)
some-fails p (a ∷ es) h =
    by_test (p a)
    (λ q. let r : Fails p es = some-fails p es (simp q at h) in record { i = suc r.i; there = omega (arith, r.there); fails = r.fails })
    (λ q. record { i = 0; there = omega arith; fails = q })

range_of : ℤ → Bool
range_of z = le_z (negsuc (2 ^ 40 - 1)) z && le_z z (pos (2 ^ 40))

beyond : (z : ℤ) → range_of z ≡ false → (lt_z z (negsuc (2 ^ 40 - 1)) ≡ true) ⊎ (lt_z (pos (2 ^ 40)) z ≡ true)
unfolding range_of
beyond (pos n) h = inr (lt-ltb (2 ^ 40) n (leb-false n (2 ^ 40) h))
beyond (negsuc n) h =
    inl (by_test (leb n (2 ^ 40 - 1)) (λ q. absurd (true-not-false (simp q at h))) (λ q. lt-ltb (2 ^ 40 - 1) n (leb-false n (2 ^ 40 - 1) q)))

within : (z : ℤ) → range_of z ≡ true → (lt_z z (negsuc (2 ^ 40 - 1)) ≡ true) ⊎ (lt_z (pos (2 ^ 40)) z ≡ true) → ⊥
unfolding range_of
within (pos n) h (inl q) = true-not-false (sym q)
within (pos n) h (inr q) = let a : n ≤ 2 ^ 40 = leb-true n (2 ^ 40) h in let b : 2 ^ 40 < n = ltb-true (2 ^ 40) n q in omega arith
within (negsuc n) h (inl q) =
    let a : n ≤ 2 ^ 40 - 1 = leb-true n (2 ^ 40 - 1) (and_left (leb n (2 ^ 40 - 1)) true h) in
    let b : 2 ^ 40 - 1 < n = ltb-true (2 ^ 40 - 1) n q in omega arith
within (negsuc n) h (inr q) = true-not-false (sym q)

pub outside-there : (es : List Entry) → every in_range es ≡ false → Outside es
unfolding range_of
outside-there es h =
    let r : Fails in_range es = some-fails in_range es h in record { i = r.i; there = r.there; outside = beyond (change (nth es r.i).diff) r.fails }

pub none-outside : (es : List Entry) → every in_range es ≡ true → Outside es → ⊥
unfolding range_of
none-outside es h o =
    within (change (nth es o.i).diff) (every-get_or in_range es o.i (record { key = 0; val = 0; time = 0; diff = 0 }) h o.there) o.outside

-- ---- 11

pub behind-there : (a b : List Entry) → follows a b ≡ false → Behind a b
unfolding follows last_before last_or
behind-there [] b h = absurd (true-not-false h)
behind-there (x ∷ []) [] h = absurd (true-not-false h)
behind-there (x ∷ []) (y ∷ b) h = record { some_first = omega arith; some-second = omega arith; behind = h }
behind-there (x ∷ c ∷ a) b h =
    let r : Behind (c ∷ a) b = behind-there (c ∷ a) b h in record { some_first = omega arith; some-second = r.some-second; behind = r.behind }

pub none-behind : (a b : List Entry) → follows a b ≡ true → Behind a b → ⊥
unfolding follows last_before last_or
none-behind [] b h r = not-suc-le-zero r.some_first
none-behind (x ∷ []) [] h r = not-suc-le-zero r.some-second
none-behind (x ∷ []) (y ∷ b) h r = true-not-false (sym h ∙ r.behind)
none-behind (x ∷ c ∷ a) b h r = none-behind (c ∷ a) b h (record { some_first = omega arith; some-second = r.some-second; behind = r.behind })

-- ---- 14

-- one entry of the first, and where it overflows
pub record OverflowAt (a : Entry) (b : List Entry) : Type 0 where
  pub j : ℕ
  pub there : j < length b
  pub shared : same a (nth b j) ≡ true
  pub outside : sum_fits a.diff (nth b j).diff ≡ false

at_there : (a : Entry) (b : List Entry) → overflows_at a b ≡ true → OverflowAt a b
unfolding overflows_at
at_there a [] h = absurd (true-not-false (sym h))
at_there a (x ∷ b) h =
    by_test (same a x && not (sum_fits a.diff x.diff))
    (λ q. record { j = 0; there = omega arith; shared = and_left (same a x) (not (sum_fits a.diff x.diff)) q; outside = not-true _ (and_right (same a x) _ q) })
    (λ q. let r : OverflowAt a b = at_there a b (simp q at h) in record { j = suc r.j; there = omega (arith, r.there); shared = r.shared; outside = r.outside })

no_overflow_at : (a : Entry) (b : List Entry) → overflows_at a b ≡ false → (j : ℕ) → j < length b → same a (nth b j) ≡ true → sum_fits a.diff (nth b j).diff ≡ true
unfolding overflows_at
no_overflow_at a [] h j t s = absurd (not-suc-le-zero t)
no_overflow_at a (x ∷ b) h zero t s =
    let q : (same a x && not (sum_fits a.diff x.diff)) ≡ false = or_left (same a x && not (sum_fits a.diff x.diff)) (overflows_at a b) h in
    not-false _ (simp s at q)
no_overflow_at a (x ∷ b) h (suc j) t s =
    no_overflow_at a b (or_right (same a x && not (sum_fits a.diff x.diff)) (overflows_at a b) h) j (le_of_suc-le-suc t) s

pub overflow_there : (a b : List Entry) → overflows a b ≡ true → Overflow a b
unfolding overflows
overflow_there [] b h = absurd (true-not-false (sym h))
overflow_there (x ∷ a) b h =
    by_test (overflows_at x b)
    (λ q. let r : OverflowAt x b = at_there x b q in
    record { i = 0; j = r.j; there_first = omega arith; there_second = r.there; shared = r.shared; outside = ltb-false _ _ r.outside })
    (λ q. let r : Overflow a b = overflow_there a b (simp q at h) in
    record { i = suc r.i; j = r.j; there_first = omega (arith, r.there_first); there_second = r.there_second; shared = r.shared; outside = r.outside })

pub no_overflow : (a b : List Entry) → overflows a b ≡ false → (i j : ℕ) → i < length a → j < length b → same (nth a i) (nth b j) ≡ true
    → sum_fits (nth a i).diff (nth b j).diff ≡ true
unfolding overflows
no_overflow [] b h i j t u s = absurd (not-suc-le-zero t)
no_overflow (x ∷ a) b h zero j t u s = no_overflow_at x b (or_left (overflows_at x b) (overflows a b) h) j u s
no_overflow (x ∷ a) b h (suc i) j t u s = no_overflow a b (or_right (overflows_at x b) (overflows a b) h) i j (le_of_suc-le-suc t) u s
