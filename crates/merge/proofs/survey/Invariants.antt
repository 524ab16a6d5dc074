use Rattle.std.proofs.Common.{◌+◌, ◌*◌}
use Rattle.reports.proofs.Surveying.{Surveying}
use Rattle.merge.proofs.survey.Given as goal

abbrev pub invariant-loop-n : goal.invariant-loop-n
invariant-loop-n l = Surveying l.first.ends.now l.first.items.now l.second.ends.now l.second.items.now l.initial.scratch l.from l.count l.start l.scratch l.at (l.from + 3 * l.n) l.n
