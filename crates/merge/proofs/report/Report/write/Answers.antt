-- `merge::report::Report::write` meets its contract, by the kind.
use Rattle.reports.proofs.Placing.{placed_three}
use Rattle.merge.proofs.report.Report.write.Goals as goal
use Rattle.merge.proofs.report.Report.write.Goals.{in-This, in-That, in-Both}

pub returns : goal.returns
returns c =
    elim c.match-self.branch [
      | in-This w ↦ rw (w.kind-is, w.in-This.is) (placed_three _ _ _ _ _ c.requires)
      | in-That w ↦ rw (w.kind-is, w.in-That.is) (placed_three _ _ _ _ _ c.requires)
      | in-Both w ↦ rw (w.kind-is, w.in-Both.is) (placed_three _ _ _ _ _ c.requires)
    ]
