-- Where a survey stands in both inputs.
use Rattle.std.specs.Prelude.{ℕ, ◌+◌, List, length}
use Rattle.reports.specs.Survey.{Report, this, that, both}
use Rattle.reports.specs.Scratch.{step_report, pair_of}
use Rattle.merge.specs.declared.Spot.{Spot}

-- where both inputs stand past a report
abbrev pub spot_after : Report → ℕ → ℕ → Spot
spot_after (this l h) i j = record { lower0 = h; lower1 = j }
spot_after (that l h) i j = record { lower0 = i; lower1 = h }
spot_after (both a b) i j = record { lower0 = i + 1; lower1 = j + 1 }

-- the report of the two items where it stands
abbrev pub head_report : List ℕ → List ℕ → Spot → Report
head_report xs ys s = step_report xs s.lower0 (length xs) ys s.lower1 (length ys)

-- the reports from there on
abbrev pub reports_left : List ℕ → List ℕ → Spot → List Report
reports_left xs ys s = pair_of xs s.lower0 (length xs) ys s.lower1 (length ys)
