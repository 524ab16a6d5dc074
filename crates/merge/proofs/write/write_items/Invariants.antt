-- `merge::write::write_items` meets its contract: with the reports that are left the output is whole.
use Rattle.reports.specs.Scratch.{placed}
use Rattle.reports.specs.Write.{items_by}
use Rattle.reports.proofs.WriteRuns.{Writing}
use Rattle.merge.specs.Rows.{reports_of}
use Rattle.merge.proofs.write.write_items.Given as goal

abbrev pub invariant-loop-report : goal.invariant-loop-report
invariant-loop-report l =
    Writing l.fn.bodies.first.now l.fn.bodies.second.now
    (placed l.fn.at (items_by l.fn.bodies.first.now l.fn.bodies.second.now (reports_of l.fn.row)) l.initial.out)
    l.initial.out l.out (reports_of l.report-iterator) l.end
