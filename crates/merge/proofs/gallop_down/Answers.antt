use Rattle.std.proofs.Common.{arith}
use Rattle.reports.proofs.Galloping.{at-short, halve, settle_stood}
use Rattle.merge.proofs.gallop_down.Goals as goal

pub loop-step-init : goal.loop-step-init
loop-step-init c =
    let s = c.requires in
    record { onward = s.onward; under = s.under; small = omega (arith, s.small); halving = halve _ _ _ _ _ s.doubled s.short }

pub settle-lower-requires : goal.settle-lower-requires
settle-lower-requires c = let s = c.loop-step.invariant in (at-short _ _ _ _ s.under, s.small)

pub loop-step-preserved : goal.loop-step-preserved
loop-step-preserved c = rw c.settle-lower.ensures (settle_stood _ _ _ _ _ _ c.loop-step-test.true c.loop-step.invariant)
