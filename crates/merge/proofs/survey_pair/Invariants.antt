use Rattle.std.proofs.Common.{◌+◌, ◌-◌, length}
use Rattle.merge.proofs.Along.{Along}
use Rattle.merge.proofs.survey_pair.Given as goal

abbrev pub invariant-loop-spot : goal.invariant-loop-spot
invariant-loop-spot l = Along l.items0 l.fn.start.lower0 (length l.items0) l.items1 l.fn.start.lower1 (length l.items1) l.initial.scratch l.from l.scratch l.spot.lower0 l.spot.lower1 l.at

abbrev pub decreases-loop-spot : goal.decreases-loop-spot
decreases-loop-spot l = length l.items0 - l.spot.lower0 + (length l.items1 - l.spot.lower1)
