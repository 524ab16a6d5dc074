-- `merge::write::write_diff_ends` meets its contract: with the reports that are left the ends are whole.
use Rattle.reports.specs.Scratch.{placed}
use Rattle.reports.specs.Write.{diff_ends_by}
use Rattle.reports.proofs.WriteDiffs.{Tailing}
use Rattle.merge.specs.Rows.{reports_of}
use Rattle.merge.proofs.write.write_diff_ends.Given as goal

abbrev pub invariant-loop-report : goal.invariant-loop-report
invariant-loop-report l =
    Tailing l.fn.ends.first.now l.fn.ends.second.now l.fn.diffs.first.now l.fn.diffs.second.now
    (placed l.fn.start (diff_ends_by l.fn.ends.first.now l.fn.ends.second.now l.fn.diffs.first.now l.fn.diffs.second.now 0 (reports_of l.fn.row)) l.initial.out)
    l.initial.out l.out (reports_of l.report-iterator) l.base l.at
