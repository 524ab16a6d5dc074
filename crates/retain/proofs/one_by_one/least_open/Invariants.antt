-- `retain::least_open` meets its contract: from each time on, the best of those left is the best of all.
use mathlib.Core.Path.{◌≡◌}
use lib.ListN.{drop}
use Rattle.std.specs.Prelude.{None}
use Rattle.retain.specs.Found.{least_from}
use Rattle.retain.proofs.one_by_one.least_open.Given as goal

abbrev pub invariant-loop-time : goal.invariant-loop-time
invariant-loop-time l = least_from l.corners.times.now l.limit l.times None ≡ least_from l.corners.times.now l.limit (drop l.time-index l.times) l.best
