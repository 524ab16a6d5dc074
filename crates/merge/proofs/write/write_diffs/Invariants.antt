-- `merge::write::write_diffs` meets its contract: with the reports that are left the diffs are whole.
use Rattle.std.proofs.Common.{◌+◌, length}
use Rattle.reports.specs.Scratch.{placed}
use Rattle.reports.specs.Write.{diffs_by}
use Rattle.reports.proofs.WriteDiffs.{Laying}
use Rattle.merge.specs.Rows.{reports_of}
use Rattle.merge.proofs.write.write_diffs.Given as goal

abbrev pub invariant-loop-report : goal.invariant-loop-report
invariant-loop-report l =
    Laying l.fn.diffs.first.now l.fn.diffs.second.now
    (placed l.fn.at (diffs_by l.fn.diffs.first.now l.fn.diffs.second.now (reports_of l.fn.row)) l.initial.out)
    l.initial.out l.out (l.fn.at + length (diffs_by l.fn.diffs.first.now l.fn.diffs.second.now (reports_of l.fn.row))) (reports_of l.report-iterator) l.end
