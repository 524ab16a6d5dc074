-- The sum of two diff words is their sum modulo 2^64, as the machine adds them; and so it is a word.
use Prim.Native.Nat.{ℕ, suc, ◌≤◌, ◌<◌, ◌+◌, ◌-◌, ◌%◌, ◌^◌}
use mathlib.Core.Path.{◌≡◌, ◌∙◌}
use mathlib.Core.Bool.{true, false, cond}
use native.Mathlib.Omega.{arith}
use lib.Dec.{ltb}
use lib.IntN.{sub_ℕ}
use mir.Val.{of_z}
use mir.Syntax.{w64}
use borrow.Author.Tests.{ltb-true, ltb-false}
use Rattle.chunk.specs.Sums.{plus}
use Rattle.laws.proofs.Tests.{by_test}

-- a difference, by its sign
word_of_difference : (a b : ℕ) → of_z w64 (sub_ℕ a b) ≡ cond (ltb a b) (2 ^ 64 - suc (b - suc a)) (a - b)
word_of_difference a b =
    by_test (ltb a b) (λ (h : ltb a b ≡ true). rw h) (λ (h : ltb a b ≡ false). rw h)

-- a lower word and an upper one
mixed : (a b : ℕ) → a < 2 ^ 63 → 2 ^ 63 ≤ b → b < 2 ^ 64 → of_z w64 (sub_ℕ a (suc (2 ^ 64 - suc b))) ≡ (a + b) % 2 ^ 64
mixed a b h k l =
    word_of_difference a (suc (2 ^ 64 - suc b))
    ∙ by_test (ltb a (suc (2 ^ 64 - suc b)))
    (λ (p : ltb a (suc (2 ^ 64 - suc b)) ≡ true). let q : a < suc (2 ^ 64 - suc b) = ltb-true _ _ p in rw p (omega arith))
    (λ (p : ltb a (suc (2 ^ 64 - suc b)) ≡ false). let q : suc (2 ^ 64 - suc b) ≤ a = ltb-false _ _ p in rw p (omega arith))

pub plus_wraps : (a b : ℕ) → a < 2 ^ 64 → b < 2 ^ 64 → plus a b ≡ (a + b) % 2 ^ 64
plus_wraps a b h k =
    by_test (ltb a (2 ^ 63))
    (λ (p : ltb a (2 ^ 63) ≡ true). let u : a < 2 ^ 63 = ltb-true _ _ p in
    by_test (ltb b (2 ^ 63))
    (λ (q : ltb b (2 ^ 63) ≡ true). let v : b < 2 ^ 63 = ltb-true _ _ q in simp (p, q) (omega arith))
    (λ (q : ltb b (2 ^ 63) ≡ false). let v : 2 ^ 63 ≤ b = ltb-false _ _ q in simp (p, q) (mixed a b u v k)))
    (λ (p : ltb a (2 ^ 63) ≡ false). let u : 2 ^ 63 ≤ a = ltb-false _ _ p in
    by_test (ltb b (2 ^ 63))
    (λ (q : ltb b (2 ^ 63) ≡ true). let v : b < 2 ^ 63 = ltb-true _ _ q in simp (p, q) (mixed b a v u h ∙ (omega arith)))
    (λ (q : ltb b (2 ^ 63) ≡ false). let v : 2 ^ 63 ≤ b = ltb-false _ _ q in simp (p, q) (omega arith)))

pub plus_word : (a b : ℕ) → a < 2 ^ 64 → b < 2 ^ 64 → plus a b < 2 ^ 64
plus_word a b h k = rw (plus_wraps a b h k) (omega arith)
