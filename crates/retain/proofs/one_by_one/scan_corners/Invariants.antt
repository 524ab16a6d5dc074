-- `retain::scan_corners` meets its contract: the corners found, with the least of what is left, are the least of all.
use Rattle.retain.proofs.Scan.{Climbing}
use Rattle.retain.proofs.one_by_one.scan_corners.Given as goal

abbrev pub invariant-loop-count : goal.invariant-loop-count
invariant-loop-count l = Climbing l.upper.times.now l.times l.corners l.count l.limit
