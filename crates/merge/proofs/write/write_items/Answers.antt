-- `merge::write::write_items` meets its contract: with the reports that are left the output is whole.
use Rattle.reports.proofs.WriteRuns.{next_room, next_writing, no_more}
use Rattle.merge.proofs.write.write_items.Goals as goal

pub write_run-end-requires : goal.write_run-end-requires
write_run-end-requires c =
    let w = rw c.in-Some.ensures.steps at c.loop-report.invariant in next_room _ _ _ _ _ _ _ _ w

pub loop-report-preserved : goal.loop-report-preserved
loop-report-preserved c =
    let w = rw c.in-Some.ensures.steps at c.loop-report.invariant in
    next_writing _ _ _ _ _ _ _ _ w c.write_run-end.ensures.value c.write_run-end.ensures.out_after

pub returns : goal.returns
returns c = let w = rw c.in-None.ensures.steps.0 at c.loop-report.invariant in no_more _ _ _ _ _ _ w
