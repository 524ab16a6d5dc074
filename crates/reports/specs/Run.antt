-- The run named by a report (document 01, "Forms for each place": "the run named by a report is a part of that input").
use Rattle.std.specs.Prelude.{ℕ, zero, suc, ◌+◌, cond, ◌&&◌, List, [], leb, ltb, length}
use Rattle.reports.specs.Gallop.{between}

-- a part of a body, and none of it where the range is not in it
unfoldable pub part_of : List ℕ → ℕ → ℕ → List ℕ
part_of body low high = cond (leb low high && leb high (length body)) (between low high body) []

-- by the kind: a run of the first, a run of the second, or an item of both, which is the first's own; no other kind names anything
unfoldable pub run_of : ℕ → ℕ → ℕ → List ℕ → List ℕ → List ℕ
unfolding part_of
run_of zero low high one two = part_of one low high
run_of (suc zero) low high one two = part_of two low high
run_of (suc (suc zero)) low high one two = cond (ltb high (length two)) (part_of one low (low + 1)) []
run_of (suc (suc (suc k))) low high one two = []
