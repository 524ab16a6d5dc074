-- What is left of the three surveys, in one answer.
use Rattle.std.proofs.Common.{◌≡◌, ℕ, ◌-◌, ◌/◌, List, length}
use Rattle.merge.specs.declared.Surveys.{Surveys}
use Rattle.reports.specs.Scratch.{reports_at}
use Rattle.reports.specs.Tail.{trimmed}
use Rattle.merge.specs.Surveyed.{trimmed_spans}

-- what is left of each survey
pub spans_are : (s : List ℕ) (r : Surveys) {k v t : ℕ} → k ≡ length (trimmed (reports_at s 0 (r.keys / 3)))
    → v ≡ length (trimmed (reports_at s r.keys ((r.vals - r.keys) / 3))) → t ≡ length (trimmed (reports_at s r.vals ((r.times - r.vals) / 3)))
    → record { keys = k; vals_at = r.keys; vals = v; times_at = r.vals; times = t } ≡ trimmed_spans s r
spans_are s r p q e = λ i. record { keys = p i; vals_at = r.keys; vals = q i; times_at = r.vals; times = e i }
