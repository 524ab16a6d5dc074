-- `merge::write::count_items` meets its contract: with the items of the reports that are left the count is whole.
use Rattle.std.proofs.Common.{arith}
use Rattle.reports.proofs.WriteEnds.{next_small, next_tally, no_more_tally}
use Rattle.merge.proofs.write.count_items.Goals as goal

pub overflow_add-total : goal.overflow_add-total
overflow_add-total c =
    let w = rw c.in-Some.ensures.steps at c.loop-report.invariant in omega (arith, next_small _ _ _ _ w, c.width-total.ensures)

pub loop-report-preserved : goal.loop-report-preserved
loop-report-preserved c =
    let w = rw c.in-Some.ensures.steps at c.loop-report.invariant in next_tally _ _ _ _ w c.width-total.ensures

pub returns : goal.returns
returns c = let w = rw c.in-None.ensures.steps.0 at c.loop-report.invariant in no_more_tally _ _ w
