-- `merge::pair::sums_fit` meets its contract: the reports that are left decide.
use Rattle.std.proofs.Common.{not}
use Rattle.reports.specs.Tail.{overflows_by}
use Rattle.reports.proofs.Fitting.{Deciding}
use Rattle.merge.specs.Rows.{reports_of}
use Rattle.merge.proofs.pair.sums_fit.Given as goal

abbrev pub invariant-loop-report : goal.invariant-loop-report
invariant-loop-report l = Deciding l.fn.diffs.first.now l.fn.diffs.second.now (not (overflows_by l.fn.diffs.first.now l.fn.diffs.second.now (reports_of l.fn.row))) (reports_of l.report-iterator)
