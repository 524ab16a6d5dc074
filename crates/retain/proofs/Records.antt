-- What is kept and what is not: the totals at each position add up, and what holds of every entry holds of those that are kept.
use Prim.Native.Nat.{ℕ, ◌+◌}
use mathlib.Core.Path.{◌≡◌, refl, sym, ◌∙◌, ap}
use mathlib.Core.Bool.{Bool, true, not, ◌&&◌}
use mathlib.Core.List.{List, [], ◌∷◌}
use native.Mathlib.Omega.{arith}
use lib.Dec.{eqb}
use borrow.Author.Tests.{eqb-true}
use lib.IntN.{ℤ, ◌+ℤ◌, +ℤ_assoc, +ℤ_comm, +ℤ_idl}
use lib.ListN.{length}
use Rattle.chunk.specs.Entry.{Entry, keep, every, stands, change}
use Rattle.chunk.specs.Sums.{total}
use Rattle.laws.proofs.Tests.{by_test, and_left, and_right, and_both}
use Rattle.retain.specs.Extract.{kept_of, shipped_of}
use Rattle.retain.specs.Frontier.{is_open}
use Rattle.retain.specs.Records.{EachOnce}

-- the other test
abbrev pub other : (Entry → Bool) → Entry → Bool
other p e = not (p e)

-- a number into the second of two
into_second : (a b c : ℤ) → b +ℤ (a +ℤ c) ≡ a +ℤ (b +ℤ c)
into_second a b c = sym (+ℤ_assoc b a c) ∙ ap (λ (x : ℤ). x +ℤ c) (+ℤ_comm b a) ∙ +ℤ_assoc a b c

-- ---- totals

-- the total at a position of what is kept and of what is not
pub total-keep : (k v t : ℕ) (p : Entry → Bool) (es : List Entry) → total k v t (keep p es) +ℤ total k v t (keep (other p) es) ≡ total k v t es
unfolding total keep
total-keep k v t p [] = refl
total-keep k v t p (e ∷ es) =
    let ih : total k v t (keep p es) +ℤ total k v t (keep (other p) es) ≡ total k v t es = total-keep k v t p es in
    by_test (p e)
    (λ h. by_test (eqb e.key k && (eqb e.val v && eqb e.time t))
    (λ m. simp (h, m, +ℤ_assoc, ih))
    (λ m. simp (h, m, ih)))
    (λ h. by_test (eqb e.key k && (eqb e.val v && eqb e.time t))
    (λ m. simp (h, m) (into_second (change e.diff) (total k v t (keep p es)) (total k v t (keep (other p) es)) ∙ ap (λ (x : ℤ). change e.diff +ℤ x) ih))
    (λ m. simp (h, m, ih)))

-- dropping the entries with no change keeps each total
pub total_filtered : (k v t : ℕ) (es : List Entry) → total k v t (keep stands es) ≡ total k v t es
unfolding total keep
total_filtered k v t [] = refl
total_filtered k v t (e ∷ es) =
    let ih : total k v t (keep stands es) ≡ total k v t es = total_filtered k v t es in
    by_test (eqb e.diff 0)
    (λ h. let z : e.diff ≡ 0 = eqb-true _ _ h in
    by_test (eqb e.key k && (eqb e.val v && eqb e.time t))
    (λ m. simp (m, z, ih, +ℤ_idl))
    (λ m. simp (h, m, ih)))
    (λ h. by_test (eqb e.key k && (eqb e.val v && eqb e.time t)) (λ m. simp (h, m, ih)) (λ m. simp (h, m, ih)))

-- ---- rising and standing

pub keep-every : (p q : Entry → Bool) (es : List Entry) → every q es ≡ true → every q (keep p es) ≡ true
unfolding every keep
keep-every p q [] h = refl
keep-every p q (e ∷ es) h =
    let t : every q (keep p es) ≡ true = keep-every p q es (and_right (q e) _ h) in
    by_test (p e) (λ k. simp k (and_both (q e) _ (and_left _ _ h) t)) (λ k. simp k t)

-- what is kept passes the test
pub keep_passes : (p : Entry → Bool) (es : List Entry) → every p (keep p es) ≡ true
unfolding every keep
keep_passes p [] = refl
keep_passes p (e ∷ es) = by_test (p e) (λ k. simp (k, keep_passes p es)) (λ k. simp (k, keep_passes p es))

-- ---- each record once

pub counts_add : (p q : Entry → Bool) (es : List Entry) → length (keep q (keep p es)) + length (keep q (keep (other p) es)) ≡ length (keep q es)
unfolding keep
counts_add p q [] = refl
counts_add p q (e ∷ es) =
    let ih : length (keep q (keep p es)) + length (keep q (keep (other p) es)) ≡ length (keep q es) = counts_add p q es in
    by_test (p e)
    (λ h. by_test (q e) (λ m. simp (h, m) (omega arith)) (λ m. simp (h, m, ih)))
    (λ h. by_test (q e) (λ m. simp (h, m) (omega arith)) (λ m. simp (h, m, ih)))

pub each_once : EachOnce
unfolding kept_of shipped_of
each_once corners es q = counts_add (λ (e : Entry). is_open corners e.time) q es
