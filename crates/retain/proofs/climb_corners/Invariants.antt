-- `retain::climb_corners` meets its contract: the corners of the times so far, with the times left, have the least times of all.
use Rattle.retain.proofs.Running.{Running}
use Rattle.retain.proofs.climb_corners.Given as goal

abbrev pub invariant-loop-time : goal.invariant-loop-time
invariant-loop-time l = Running l.upper.times.now l.times l.stairs l.count l.number l.time-index
