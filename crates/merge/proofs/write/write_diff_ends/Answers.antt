-- `merge::write::write_diff_ends` meets its contract: with the reports that are left the ends are whole.
use Rattle.std.proofs.Common.{sym}
use Rattle.reports.proofs.WriteDiffs.{tail_count, tail_room, next_tailing, no_more_tail}
use Rattle.merge.proofs.Saying.{low_said}
use Rattle.merge.proofs.write.write_diff_ends.Goals as goal

pub count_diff-next-requires : goal.count_diff-next-requires
count_diff-next-requires c =
    let w = rw c.in-Some.ensures.steps at c.loop-report.invariant in tail_count _ _ _ _ _ _ _ _ _ _ _ w

pub write_list-at-requires : goal.write_list-at-requires
write_list-at-requires c =
    let w = rw c.in-Some.ensures.steps at c.loop-report.invariant in tail_room _ _ _ _ _ _ _ _ _ _ _ w _ c.count_diff-next.ensures

pub loop-report-preserved : goal.loop-report-preserved
loop-report-preserved c =
    let w = rw c.in-Some.ensures.steps at c.loop-report.invariant in
    next_tailing _ _ _ _ _ _ _ _ _ _ _ w _ c.count_diff-next.ensures (sym (low_said c.in-Some.report)) c.write_list-at.ensures.value c.write_list-at.ensures.out_after

pub returns : goal.returns
returns c = let w = rw c.in-None.ensures.steps.0 at c.loop-report.invariant in no_more_tail _ _ _ _ _ _ _ _ _ w
