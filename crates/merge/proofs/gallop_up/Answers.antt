use Rattle.std.proofs.Common.{◌+◌, ◌<◌, sym, ◌∙◌, arith, length}
use Rattle.reports.proofs.Galloping.{at-short, doubled_one, doubled_more, doubled_pos}
use Rattle.merge.proofs.gallop_up.Goals as goal

pub loop-lower-init : goal.loop-lower-init
loop-lower-init c = let h : 0 < length c.args.items.now = at-short _ _ _ _ c.requires in (c.requires, doubled_one, omega arith)

pub overflow_add-lower : goal.overflow_add-lower
overflow_add-lower c = let h : c.loop-lower.lower < length c.args.items.now = at-short _ _ _ _ c.loop-lower.invariant.0 in omega arith

pub overflow_add-lower-in-loop-lower : goal.overflow_add-lower-in-loop-lower
overflow_add-lower-in-loop-lower c = let h : c.loop-lower.lower + c.loop-lower.step < length c.args.items.now = at-short _ _ _ _ (sym c.below_at.ensures ∙ c.loop-lower-test.true) in omega arith

pub loop-lower-smaller : goal.loop-lower-smaller
loop-lower-smaller c =
    let h : c.loop-lower.lower + c.loop-lower.step < length c.args.items.now = at-short _ _ _ _ (sym c.below_at.ensures ∙ c.loop-lower-test.true) in
    let p : 0 < c.loop-lower.step = doubled_pos _ c.loop-lower.invariant.1 in
    omega arith

pub loop-lower-preserved : goal.loop-lower-preserved
loop-lower-preserved c =
    let l = c.loop-lower in
    let b = sym c.below_at.ensures ∙ c.loop-lower-test.true in
    let h : l.lower + l.step < length c.args.items.now = at-short _ _ _ _ b in
    (b, doubled_more _ l.invariant.1, omega arith)

pub returns : goal.returns
returns c =
    let l = c.loop-lower in
    record { onward = omega arith; under = l.invariant.0; short = sym c.below_at.ensures ∙ c.loop-lower-test.false; doubled = l.invariant.1; small = l.invariant.2 }
