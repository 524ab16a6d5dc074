-- Counting the times that stay by their ends: so many more diffs end there.
use Prim.Native.Nat.{ℕ, zero, suc, ◌+◌, ◌-◌, ◌*◌, ◌<◌, ◌≤◌}
use mathlib.Core.Path.{◌≡◌, refl, ◌∙◌, ap}
use mathlib.Core.Bool.{Bool, true, not, ◌&&◌}
use mathlib.Core.List.{List, ◌∷◌}
use native.Mathlib.Omega.{arith}
use lib.Dec.{ltb}
use lib.ListN.{length, take, drop, get_or}
use lib.Seq.{drop-cons}
use borrow.Author.Tests.{ltb-true, ltb-false}
use Rattle.chunk.specs.Contents.{start_of}
use Rattle.chunk.specs.Entry.{keep}
use Rattle.laws.proofs.Tests.{by_test}
use Rattle.retain.specs.Frontier.{is_open}
use Rattle.retain.specs.Keep.{is_shut, time_passes}
use Rattle.retain.specs.Layers.{bit, has_diff, EndsStep}
use Rattle.laws.specs.Picked.{count_kept}
use Rattle.retain.proofs.Counts.{count_most}

-- the same test, the same count
pub count_same : (m p : ℕ → Bool) (i n : ℕ) → ((k : ℕ) → i ≤ k → k < i + n → m k ≡ p k) → count_kept m i n ≡ count_kept p i n
unfolding count_kept
count_same m p i zero f = refl
count_same m p i (suc n) f =
    let ih : count_kept m (suc i) n ≡ count_kept p (suc i) n = count_same m p (suc i) n (λ k a b. f k (omega arith) (omega arith)) in
    let e : m i ≡ p i = f i (omega arith) (omega arith) in
    rw (e, ih) refl

-- all pass where as many count
pub count_full : (m : ℕ → Bool) (i n : ℕ) → count_kept m i n ≡ n → (k : ℕ) → i ≤ k → k < i + n → m k ≡ true
unfolding count_kept
count_full m i zero e k a b = absurd (omega arith)
count_full m i (suc n) e k a b =
    let most = count_most m (suc i) n in
    by_test (m i)
    (λ t. by_test (ltb i k)
    (λ q. let s : suc (count_kept m (suc i) n) ≡ suc n = simp t at e in
    let l : i < k = ltb-true _ _ q in count_full m (suc i) n (omega arith) k (omega arith) (omega arith))
    (λ q. let l : k ≤ i = ltb-false _ _ q in let z : k ≡ i = omega arith in ap m z ∙ t))
    (λ t. let s : count_kept m (suc i) n ≡ suc n = simp t at e in absurd (omega arith))

-- those that pass and those that don't are all
count_others : (p : ℕ → Bool) (i n : ℕ) → count_kept (λ (k : ℕ). not (p k)) i n + count_kept p i n ≡ n
unfolding count_kept
count_others p i zero = refl
count_others p i (suc n) =
    let ih : count_kept (λ (k : ℕ). not (p k)) (suc i) n + count_kept p (suc i) n ≡ n = count_others p (suc i) n in
    by_test (p i) (λ k. simp k (omega arith)) (λ k. simp k (omega arith))

-- times with a diff
pub count-diffs : (ends : List ℕ) (i n : ℕ) → EndsStep ends → i + n ≤ length ends → count_kept (has_diff ends) i n + start_of ends i ≡ start_of ends (i + n)
unfolding count_kept
count-diffs ends i zero s h = let e : i ≡ i + 0 = omega arith in let q = ap (start_of ends) e in omega arith
count-diffs ends i (suc n) s h =
    let e : start_of ends (suc i + n) ≡ start_of ends (i + suc n) = let z : suc i + n ≡ i + suc n = omega arith in ap (start_of ends) z in
    let ih : count_kept (has_diff ends) (suc i) n + get_or ends i 0 ≡ start_of ends (suc i + n) = count-diffs ends (suc i) n s (omega arith) in
    let a = (s i (omega arith)).0 in
    let b = (s i (omega arith)).1 in
    by_test (ltb (start_of ends i) (get_or ends i 0))
    (λ k. let l : start_of ends i < get_or ends i 0 = ltb-true _ _ k in simp k (omega arith))
    (λ k. let l : get_or ends i 0 ≤ start_of ends i = ltb-false _ _ k in simp k (omega arith))

-- the open ones of a part of the times
open_count : (p : ℕ → Bool) (times : List ℕ) (i n : ℕ) → i + n ≤ length times → length (keep p (take n (drop i times))) ≡ count_kept (λ (k : ℕ). p (get_or times k 0)) i n
unfolding keep count_kept
open_count p times i zero h = refl
open_count p times i (suc n) h =
    let d : drop i times ≡ get_or times i 0 ∷ drop (suc i) times = drop-cons times i 0 (omega arith) in
    let ih : length (keep p (take n (drop (suc i) times))) ≡ count_kept (λ (k : ℕ). p (get_or times k 0)) (suc i) n = open_count p times (suc i) n (omega arith) in
    ap (λ (l : List ℕ). length (keep p (take (suc n) l))) d
    ∙ by_test (p (get_or times i 0)) (λ k. simp (k, ih)) (λ k. simp (k, ih))

-- the open ones, and the others
pub open_times : (corners times : List ℕ) (i n : ℕ) → i + n ≤ length times → length (keep (is_open corners) (take n (drop i times))) ≡ count_kept (time_passes (is_open corners) times) i n
open_times corners times i n h = open_count (is_open corners) times i n h

pub shut_times : (corners times : List ℕ) (i n : ℕ) → i + n ≤ length times → n - length (keep (is_open corners) (take n (drop i times))) ≡ count_kept (time_passes (is_shut corners) times) i n
shut_times corners times i n h =
    let p : ℕ → Bool = time_passes (is_open corners) times in
    let o = open_count (is_open corners) times i n h in
    let both : count_kept (time_passes (is_shut corners) times) i n + count_kept p i n ≡ n = count_others p i n in
    omega arith

-- ---- the same as code has it

-- a list starts where the one before it ends
pub start_before : (ends : List ℕ) (i : ℕ) → (i ≡ 0 → ⊥) → start_of ends i ≡ get_or ends (i - 1) 0
start_before ends zero h = absurd (h refl)
start_before ends (suc i) h = let z : i ≡ suc i - 1 = omega arith in ap (λ (k : ℕ). get_or ends k 0) z

-- a list's length says whether it has an item
pub end_bit : (ends : List ℕ) (i lower : ℕ) → EndsStep ends → i < length ends → lower ≡ start_of ends i → (lower ≤ get_or ends i 0) × (get_or ends i 0 - lower ≡ bit (has_diff ends i))
unfolding bit
end_bit ends i lower s h lo =
    let a = (s i h).0 in
    let b = (s i h).1 in (
      omega arith,
      by_test (ltb (start_of ends i) (get_or ends i 0))
          (λ k. let l : start_of ends i < get_or ends i 0 = ltb-true _ _ k in simp k (omega arith))
          (λ k. let l : get_or ends i 0 ≤ start_of ends i = ltb-false _ _ k in simp k (omega arith)),
    )

pub bit_and : (a b : Bool) → bit a * bit b ≡ bit (a && b)
unfolding bit
bit_and a b = by_test a (λ k. simp k (omega arith)) (λ k. simp k (omega arith))
