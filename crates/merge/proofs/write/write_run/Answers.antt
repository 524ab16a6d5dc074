-- `merge::write::write_run` meets its contract: a shared item is written alone.
use Rattle.std.proofs.Common.{◌∙◌, ap, arith}
use Rattle.reports.specs.Scratch.{placed}
use Rattle.reports.proofs.WriteRuns.{one_item}
use Rattle.reports.proofs.WriteEnds.{set-placed}
use Rattle.merge.proofs.write.write_run.Goals as goal

pub returns-in-Both-clause-out_after : goal.returns-in-Both-clause-out_after
returns-in-Both-clause-out_after c =
    let v = c.args in
    let s = rw c.in-Both.is at c.requires.serves in
    let f = rw c.in-Both.is at c.requires.fits in
    rw c.in-Both.is (set-placed v.at _ v.out.now (omega arith) ∙ ap (λ l. placed v.at l v.out.now) (one_item v.bodies.first.now v.report.low s.0))
