-- Reports that stand one after another: the first of them and those past it, and those of a part.
use Rattle.std.proofs.Common.{◌≡◌, ℕ, zero, suc, ◌+◌, ◌-◌, ◌*◌, ◌<◌, ◌≤◌, List, [], ◌∷◌, take, drop, refl, ap, arith}
use Rattle.reports.specs.Survey.{Report}
use Rattle.reports.specs.Scratch.{report_at, reports_at}

pub none_at : (s : List ℕ) (p n : ℕ) → n ≡ 0 → reports_at s p n ≡ []
unfolding reports_at
none_at s p zero h = refl
none_at s p (suc n) h = absurd (omega arith)

pub first_at : (s : List ℕ) (p n : ℕ) → 0 < n → reports_at s p n ≡ report_at s p ∷ reports_at s (p + 3) (n - 1)
unfolding reports_at
first_at s p zero h = absurd (omega arith)
first_at s p (suc n) h = let e : suc n - 1 ≡ n = omega arith in rw e

pub take_reports : (s : List ℕ) (p n k : ℕ) → k ≤ n → take k (reports_at s p n) ≡ reports_at s p k
unfolding reports_at
take_reports s p n zero h = refl
take_reports s p zero (suc k) h = absurd (omega arith)
take_reports s p (suc n) (suc k) h = ap (λ (l : List Report). report_at s p ∷ l) (take_reports s (p + 3) n k (omega arith))

pub drop_reports : (s : List ℕ) (p n k : ℕ) → k ≤ n → drop k (reports_at s p n) ≡ reports_at s (p + 3 * k) (n - k)
unfolding reports_at
drop_reports s p n zero h = let e : p + 3 * 0 ≡ p = omega arith in let f : n - 0 ≡ n = omega arith in rw (e, f)
drop_reports s p zero (suc k) h = absurd (omega arith)
drop_reports s p (suc n) (suc k) h =
    let e : p + 3 * suc k ≡ p + 3 + 3 * k = omega arith in
    let f : suc n - suc k ≡ n - k = omega arith in
    rw (e, f) (drop_reports s (p + 3) n k (omega arith))
