-- `merge::write::inside` meets its contract: with those that are left the count is whole.
use Rattle.std.proofs.Common.{length}
use Rattle.reports.specs.Write.{inside_from}
use Rattle.reports.proofs.WriteEnds.{Finding}
use Rattle.merge.specs.Rows.{reports_of}
use Rattle.merge.proofs.write.inside.Given as goal

abbrev pub invariant-loop-report : goal.invariant-loop-report
invariant-loop-report l =
    Finding l.fn.end0 l.fn.end1 (length (inside_from l.fn.end0 l.fn.end1 (reports_of l.fn.row))) (length (reports_of l.fn.row)) (reports_of l.report-iterator) l.size
