-- `retain::corners::Corners::count_open` meets its contract: those counted, with those left, are all.
use native.Mathlib.Omega.{arith}
use Rattle.retain.proofs.Running.{opened_start, opened-bit, opened_end}
use Rattle.retain.proofs.Stairs.{bit_one}
use Rattle.retain.proofs.corners.Corners.count_open.Goals as goal

pub loop-time-init : goal.loop-time-init
loop-time-init c = opened_start _ _

pub overflow_add-number : goal.overflow_add-number
overflow_add-number c = let l = c.loop-time in let f = l.invariant.few in let m = bit_one _ _ c.open_bit-number.ensures in omega arith

pub loop-time-preserved : goal.loop-time-preserved
loop-time-preserved c = let l = c.loop-time in opened-bit _ _ _ l.time-index _ l.invariant c.loop-time-test.true c.open_bit-number.ensures

pub returns : goal.returns
returns c = let l = c.loop-time in opened_end _ _ _ l.time-index l.invariant c.loop-time-test.false
