-- `merge::write::write_ends` meets its contract: with the lists that are left the ends are whole.
use Rattle.reports.specs.Scratch.{placed}
use Rattle.reports.specs.Write.{ends_by}
use Rattle.reports.proofs.WriteEnds.{Ending}
use Rattle.merge.specs.Rows.{reports_of}
use Rattle.merge.proofs.write.write_ends.Given as goal

abbrev pub invariant-loop-list : goal.invariant-loop-list
invariant-loop-list l =
    Ending l.fn.ends.first.now l.fn.ends.second.now
    (placed l.fn.start (ends_by l.fn.ends.first.now l.fn.ends.second.now 0 (reports_of l.fn.lists) (reports_of l.fn.items)) l.initial.out)
    l.initial.out l.out (reports_of l.list-iterator) (reports_of l.left) l.base l.at
