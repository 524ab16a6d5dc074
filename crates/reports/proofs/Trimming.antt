-- Reports and the runs of one input that they end with: cut in two there, and where a search from the end finds the cut.
use Prim.Native.Nat.{ℕ, zero, suc, ◌-◌, ◌<◌, ◌≤◌}
use mathlib.Core.Path.{◌≡◌, refl, sym, ◌∙◌, ap}
use mathlib.Core.Bool.{Bool, true, false, ◌||◌, or-true}
use mathlib.Core.List.{List, [], ◌∷◌, ◌++◌}
use native.Mathlib.Omega.{arith}
use lib.Dec.{eqb, ltb}
use lib.ListN.{length, get_or, take, drop, take-append-drop, drop_of_length-le}
use lib.Seq.{drop-cons}
use borrow.Author.Tests.{eq-eqb, eqb-true, ltb-true, ltb-false}
use Rattle.laws.proofs.Tests.{by_test, and_left, and_both, true-not-false, or-false}
use Rattle.chunk.specs.Entry.{every}
use Rattle.reports.specs.Survey.{Report, this, that, both}
use Rattle.reports.specs.Tail.{only_this, only_that, trimmed, trailing}

-- all of them runs of one input
abbrev pub ending : List Report → Bool
ending rs = only_this rs || only_that rs

pub ending-this : (rs : List Report) → only_this rs ≡ true → ending rs ≡ true
ending-this rs h = rw h

pub ending-that : (rs : List Report) → only_that rs ≡ true → ending rs ≡ true
ending-that rs h = rw h (or-true (only_this rs))

-- by which of the two it is
pub by_ending {ℓ} : {P : Type ℓ} (rs : List Report) → ending rs ≡ true → (only_this rs ≡ true → P) → (only_that rs ≡ true → P) → P
by_ending rs h f g = by_test (only_this rs) f (λ p. g (rw p at h))

ending_tail : (r : Report) (rs : List Report) → ending (r ∷ rs) ≡ true → ending rs ≡ true
unfolding only_this only_that
ending_tail (this l h) rs e = ending-this rs (sym (or-false (only_this rs)) ∙ e)
ending_tail (that l h) rs e = ending-that rs e
ending_tail (both i j) rs e = absurd (true-not-false (sym e))

-- by its first report
pub ending_with_this : (l h : ℕ) (rs : List Report) → ending (this l h ∷ rs) ≡ true → only_this (this l h ∷ rs) ≡ true
unfolding only_this only_that
ending_with_this l h rs e = sym (or-false (only_this rs)) ∙ e

pub ending_with_that : (l h : ℕ) (rs : List Report) → ending (that l h ∷ rs) ≡ true → only_that (that l h ∷ rs) ≡ true
unfolding only_this only_that
ending_with_that l h rs e = e

pub ending_with_both : (i j : ℕ) (rs : List Report) → ending (both i j ∷ rs) ≡ false
unfolding only_this only_that
ending_with_both i j rs = refl

pub ending-none : ending [] ≡ true
unfolding only_this
ending-none = refl

ending-drop : (n : ℕ) (rs : List Report) → ending rs ≡ true → ending (drop n rs) ≡ true
ending-drop zero rs e = e
ending-drop (suc n) [] e = e
ending-drop (suc n) (r ∷ rs) e = ending-drop n rs (ending_tail r rs e)

-- ---- the cut

pub trimmed-none : (rs : List Report) → ending rs ≡ true → trimmed rs ≡ []
unfolding trimmed
trimmed-none [] e = refl
trimmed-none (r ∷ rs) e = rw e

pub trimmed-some : (r : Report) (rs : List Report) → ending (r ∷ rs) ≡ false → trimmed (r ∷ rs) ≡ r ∷ trimmed rs
unfolding trimmed
trimmed-some r rs e = rw e

pub trailing_all : (rs : List Report) → ending rs ≡ true → trailing rs ≡ rs
unfolding trailing
trailing_all rs e = ap (λ (ts : List Report). drop (length ts) rs) (trimmed-none rs e)

pub trailing_tail : (r : Report) (rs : List Report) → ending (r ∷ rs) ≡ false → trailing (r ∷ rs) ≡ trailing rs
unfolding trailing
trailing_tail r rs e = ap (λ (ts : List Report). drop (length ts) (r ∷ rs)) (trimmed-some r rs e)

-- what is trimmed stands at the front
pub trimmed-take : (rs : List Report) → trimmed rs ≡ take (length (trimmed rs)) rs
unfolding trimmed
trimmed-take [] = refl
trimmed-take (r ∷ rs) =
    by_test (ending (r ∷ rs))
    (λ e. rw e)
    (λ e. rw e (ap (λ (ts : List Report). r ∷ ts) (trimmed-take rs)))

-- and the rest is what trails
pub trimmed_then_trailing : (rs : List Report) → rs ≡ trimmed rs ++ trailing rs
unfolding trailing
trimmed_then_trailing rs =
    sym (take-append-drop (length (trimmed rs)) rs) ∙ ap (λ (ts : List Report). ts ++ trailing rs) (sym (trimmed-take rs))

pub trimmed_short : (rs : List Report) → length (trimmed rs) ≤ length rs
unfolding trimmed
trimmed_short [] = omega arith
trimmed_short (r ∷ rs) =
    let ih : length (trimmed rs) ≤ length rs = trimmed_short rs in
    by_test (ending (r ∷ rs)) (λ e. rw e (omega arith)) (λ e. rw e (omega arith))

-- what trails is of one input
pub trailing_ends : (rs : List Report) → ending (trailing rs) ≡ true
unfolding trailing trimmed only_this only_that
trailing_ends [] = refl
trailing_ends (r ∷ rs) = by_test (ending (r ∷ rs)) (λ e. ap ending (trailing_all (r ∷ rs) e) ∙ e) (λ e. ap ending (trailing_tail r rs e) ∙ trailing_ends rs)

-- ---- where the cut is

-- past the last report with which what follows is not of one input
pub trimmed-at : (rs : List Report) (n : ℕ) → ending (drop (suc n) rs) ≡ true → ending (drop n rs) ≡ false → length (trimmed rs) ≡ suc n
unfolding only_this
trimmed-at [] zero e f = absurd (true-not-false f)
trimmed-at [] (suc n) e f = absurd (true-not-false f)
trimmed-at (r ∷ rs) zero e f = ap length (trimmed-some r rs f) ∙ ap (λ (ts : List Report). suc (length ts)) (trimmed-none rs e)
trimmed-at (r ∷ rs) (suc n) e f =
    by_test (ending (r ∷ rs))
    (λ a. absurd (true-not-false (sym (ending-drop (suc n) (r ∷ rs) a) ∙ f)))
    (λ a. ap length (trimmed-some r rs a) ∙ ap suc (trimmed-at rs n e f))

-- and so back: with the last report that is kept, what follows is not of one input
pub trimmed_least : (rs : List Report) (n : ℕ) → length (trimmed rs) ≡ suc n → ending (drop n rs) ≡ false
unfolding trimmed
trimmed_least [] n q = absurd (omega arith)
trimmed_least (r ∷ rs) n q =
    by_test (ending (r ∷ rs))
    (λ e. absurd (omega (arith, ap length (trimmed-none (r ∷ rs) e))))
    (λ e. onward n e (λ m p. trimmed_least rs m p) (omega (arith, ap length (trimmed-some r rs e))))
  where
    onward : (n : ℕ) → ending (r ∷ rs) ≡ false → ((m : ℕ) → length (trimmed rs) ≡ suc m → ending (drop m rs) ≡ false)
        → length (trimmed rs) ≡ n → ending (drop n (r ∷ rs)) ≡ false
    onward zero e ih p = e
    onward (suc m) e ih p = ih m p

-- the first word of a report
abbrev pub kind_of : Report → ℕ
kind_of (this l h) = 0
kind_of (that l h) = 1
kind_of (both i j) = 2

-- of that kind, every one
abbrev pub of_kind : ℕ → List Report → Bool
of_kind k rs = every (λ (r : Report). eqb (kind_of r) k) rs

kind_this : (rs : List Report) → of_kind 0 rs ≡ only_this rs
unfolding every only_this
kind_this [] = refl
kind_this (this l h ∷ rs) = kind_this rs
kind_this (that l h ∷ rs) = refl
kind_this (both i j ∷ rs) = refl

kind_that : (rs : List Report) → of_kind 1 rs ≡ only_that rs
unfolding every only_that
kind_that [] = refl
kind_that (this l h ∷ rs) = refl
kind_that (that l h ∷ rs) = kind_that rs
kind_that (both i j ∷ rs) = refl

kind_ends : (k : ℕ) (rs : List Report) → k < 2 → of_kind k rs ≡ true → ending rs ≡ true
kind_ends zero rs m h = ending-this rs (sym (kind_this rs) ∙ h)
kind_ends (suc zero) rs m h = ending-that rs (sym (kind_that rs) ∙ h)
kind_ends (suc (suc k)) rs m h = absurd (omega arith)

-- a run before runs of the other input, or a shared item before any
other_kind : (k : ℕ) (q r : Report) (rs : List Report) → k < 2 → kind_of r ≡ k → (kind_of q ≡ k → ⊥) → ending (q ∷ r ∷ rs) ≡ false
unfolding only_this only_that
other_kind k (this x y) (this l h) rs m e f = absurd (f e)
other_kind k (this x y) (that l h) rs m e f = refl
other_kind k (this x y) (both i j) rs m e f = refl
other_kind k (that x y) (this l h) rs m e f = refl
other_kind k (that x y) (that l h) rs m e f = absurd (f e)
other_kind k (that x y) (both i j) rs m e f = refl
other_kind k (both x y) r rs m e f = refl

-- one report further back that is of the kind of all after it
pub kind_back : (k n : ℕ) (rs : List Report) (d : Report) → n < length rs → kind_of (get_or rs n d) ≡ k → of_kind k (drop (suc n) rs) ≡ true → of_kind k (drop n rs) ≡ true
unfolding every
kind_back k n rs d m e h = rw (drop-cons rs n d m) (and_both (eqb (kind_of (get_or rs n d)) k) _ (eq-eqb _ _ e) h)

-- all are of one kind from n on, and the one before n is not: the cut is at n
pub trimmed_from : (k n : ℕ) (rs : List Report) (d : Report) → k < 2 → n < length rs → of_kind k (drop n rs) ≡ true
    → (0 < n → kind_of (get_or rs (n - 1) d) ≡ k → ⊥) → length (trimmed rs) ≡ n
unfolding every
trimmed_from k zero rs d m s h f = ap length (trimmed-none rs (kind_ends k rs m h))
trimmed_from k (suc n) rs d m s h f =
    let first : kind_of (get_or rs (suc n) d) ≡ k = eqb-true _ _ (and_left _ _ (rw (drop-cons rs (suc n) d s) at h)) in
    let q : suc n - 1 ≡ n = omega arith in
    let g : kind_of (get_or rs n d) ≡ k → ⊥ = λ e. f (omega arith) (ap (λ (x : ℕ). kind_of (get_or rs x d)) q ∙ e) in
    trimmed-at rs n (kind_ends k (drop (suc n) rs) m h)
    (rw (drop-cons rs n d (omega arith), drop-cons rs (suc n) d s) (other_kind k (get_or rs n d) (get_or rs (suc n) d) (drop (suc (suc n)) rs) m first g))

-- the same from the end on, where the kind is the last one's
pub trimmed_back : (k n : ℕ) (rs : List Report) (d : Report) → k < 2 → n ≤ length rs → 0 < length rs → kind_of (get_or rs (length rs - 1) d) ≡ k
    → of_kind k (drop n rs) ≡ true → (0 < n → kind_of (get_or rs (n - 1) d) ≡ k → ⊥) → length (trimmed rs) ≡ n
trimmed_back k n rs d m s o e h f =
    by_test (ltb n (length rs))
    (λ t. trimmed_from k n rs d m (ltb-true _ _ t) h f)
    (λ t. let p : length rs ≤ n = ltb-false _ _ t in
    let q : length rs ≡ n = omega arith in
    absurd (f (omega arith) (ap (λ (x : ℕ). kind_of (get_or rs (x - 1) d)) (sym q) ∙ e)))

-- nothing is cut off past a shared item
pub trimmed-both : (rs : List Report) (d : Report) → 0 < length rs → kind_of (get_or rs (length rs - 1) d) ≡ 2 → length (trimmed rs) ≡ length rs
unfolding only_this only_that
trimmed-both rs d o e =
    let n : ℕ = length rs - 1 in
    let q : suc n ≡ length rs = omega arith in
    trimmed-at rs n (rw (drop_of_length-le rs {i = suc n} (omega arith))) (rw (drop-cons rs n d (omega arith)) (shared (get_or rs n d) e)) ∙ q
  where
    shared : (r : Report) → kind_of r ≡ 2 → ending (r ∷ drop (suc (length rs - 1)) rs) ≡ false
    shared (this l h) k = absurd (omega arith)
    shared (that l h) k = absurd (omega arith)
    shared (both i j) k = refl
