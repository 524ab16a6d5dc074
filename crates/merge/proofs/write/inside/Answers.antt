-- `merge::write::inside` meets its contract: with those that are left the count is whole.
use Rattle.std.proofs.Common.{arith}
use Rattle.reports.proofs.WriteEnds.{length_reports, found_last, found_more, found_all}
use Rattle.merge.proofs.write.inside.Goals as goal

pub returns-then-not-starts_in : goal.returns-then-not-starts_in
returns-then-not-starts_in c =
    let w = rw c.in-Some.ensures.steps at c.loop-report.invariant in
    found_last _ _ _ _ _ _ _ w c.starts_in.ensures c.if-not-starts_in.true

pub overflow_add-size : goal.overflow_add-size
overflow_add-size c =
    let w = rw c.in-Some.ensures.steps at c.loop-report.invariant in
    let r = c.args.row in omega (arith, w.passed, length_reports r.words.now r.from r.count, r.stands, c.ranges.row)

pub loop-report-preserved : goal.loop-report-preserved
loop-report-preserved c =
    let w = rw c.in-Some.ensures.steps at c.loop-report.invariant in
    found_more _ _ _ _ _ _ _ w c.starts_in.ensures c.if-not-starts_in.false

pub returns : goal.returns
returns c = let w = rw c.in-None.ensures.steps.0 at c.loop-report.invariant in found_all _ _ _ _ _ w
