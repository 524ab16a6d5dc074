-- `merge::write::write_diffs` meets its contract: with the reports that are left the diffs are whole.
use Rattle.reports.proofs.WriteDiffs.{next_diff, next_laying, no_more_diffs}
use Rattle.merge.proofs.write.write_diffs.Goals as goal

pub write_diff-end-requires : goal.write_diff-end-requires
write_diff-end-requires c =
    let w = rw c.in-Some.ensures.steps at c.loop-report.invariant in next_diff _ _ _ _ _ _ _ _ _ w

pub loop-report-preserved : goal.loop-report-preserved
loop-report-preserved c =
    let w = rw c.in-Some.ensures.steps at c.loop-report.invariant in
    next_laying _ _ _ _ _ _ _ _ _ w c.write_diff-end.ensures.value c.write_diff-end.ensures.out_after

pub returns : goal.returns
returns c =
    let w = rw c.in-None.ensures.steps.0 at c.loop-report.invariant in
    let z = no_more_diffs _ _ _ _ _ _ _ w in record { value = z.0; out_after = z.1 }
