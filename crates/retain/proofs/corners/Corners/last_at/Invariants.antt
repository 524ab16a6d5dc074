-- `retain::corners::Corners::last_at` meets its contract: it is halved until nothing is left.
use Rattle.retain.proofs.Stairs.{Seeking}
use Rattle.retain.proofs.corners.Corners.last_at.Given as goal

abbrev pub invariant-loop-left : goal.invariant-loop-left
invariant-loop-left l = Seeking l.self.times.now l.t l.self.in_order l.at l.left

abbrev pub decreases-loop-left : goal.decreases-loop-left
decreases-loop-left l = l.left
