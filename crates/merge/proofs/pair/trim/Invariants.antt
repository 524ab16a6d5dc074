-- `merge::pair::trim` meets its contract: back over the runs of the last one's kind.
use Rattle.reports.proofs.TrimBack.{Back}
use Rattle.merge.proofs.Naming.{code}
use Rattle.merge.proofs.pair.trim.Given as goal

abbrev pub invariant-loop-i : goal.invariant-loop-i
invariant-loop-i l = Back l.words l.from l.count (code l.kind) l.i
