-- `merge::write::count_items` meets its contract: with the items of the reports that are left the count is whole.
use Rattle.std.proofs.Common.{◌+◌}
use Rattle.reports.specs.Write.{widths}
use Rattle.reports.proofs.WriteEnds.{Tallying}
use Rattle.merge.specs.Rows.{reports_of}
use Rattle.merge.proofs.write.count_items.Given as goal

abbrev pub invariant-loop-report : goal.invariant-loop-report
invariant-loop-report l = Tallying (l.fn.base + widths (reports_of l.fn.row)) (reports_of l.report-iterator) l.total
