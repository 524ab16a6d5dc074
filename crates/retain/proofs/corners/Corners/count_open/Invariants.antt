-- `retain::corners::Corners::count_open` meets its contract: those counted, with those left, are all.
use Rattle.retain.proofs.Running.{Opened}
use Rattle.retain.proofs.corners.Corners.count_open.Given as goal

abbrev pub invariant-loop-time : goal.invariant-loop-time
invariant-loop-time l = Opened l.self.times.now l.times l.number l.time-index
