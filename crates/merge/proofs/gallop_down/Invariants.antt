use Rattle.std.proofs.Common.{length}
use Rattle.reports.proofs.Galloping.{Stood}
use Rattle.merge.proofs.gallop_down.Given as goal

abbrev pub invariant-loop-step : goal.invariant-loop-step
invariant-loop-step l = Stood l.items 0 (length l.items) l.target l.lower l.step

abbrev pub decreases-loop-step : goal.decreases-loop-step
decreases-loop-step l = l.step
