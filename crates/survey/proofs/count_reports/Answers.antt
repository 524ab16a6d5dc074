-- `survey::count_reports` meets its contract: those counted and those left are all.
use mathlib.Core.Path.{ap}
use native.Mathlib.Omega.{arith}
use lib.ListN.{length}
use Rattle.survey.proofs.Nexts.{turn, none_left, whole, count_within}
use Rattle.survey.proofs.count_reports.Goals as goal

pub loop-next-init : goal.loop-next-init
loop-next-init c = record { in_i = omega arith; in_j = omega arith; counted = omega (arith, ap length (whole c.args.xs.now c.args.ys.now)) }

pub overflow_add-count : goal.overflow_add-count
overflow_add-count c =
    let l = c.loop-next.invariant in
    let t = turn _ _ c.loop-next.at l.in_i l.in_j _ c.in-Some.ensures in
    omega (arith, l.counted, ap length t.split, count_within c.args.xs.now c.args.ys.now)

pub loop-next-smaller : goal.loop-next-smaller
loop-next-smaller c =
    let l = c.loop-next.invariant in
    let t = turn _ _ c.loop-next.at l.in_i l.in_j _ c.in-Some.ensures in
    omega (arith, ap length t.split)

pub loop-next-preserved : goal.loop-next-preserved
loop-next-preserved c =
    let l = c.loop-next.invariant in
    let t = turn _ _ c.loop-next.at l.in_i l.in_j _ c.in-Some.ensures in
    record { in_i = t.in_i; in_j = t.in_j; counted = omega (arith, l.counted, ap length t.split) }

pub returns : goal.returns
returns c =
    let l = c.loop-next.invariant in
    omega (arith, l.counted, ap length (none_left _ _ c.loop-next.at l.in_i l.in_j c.in_default.ensures))
