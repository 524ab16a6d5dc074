-- `retain::corners::Corners::last_at` meets its contract: it is halved until nothing is left.
use Prim.Native.Nat.{◌+◌, ◌/◌, ◌%◌}
use mathlib.Core.Path.{refl}
use native.Mathlib.Omega.{arith}
use Rattle.retain.proofs.Stairs.{seek_start, seek_turn, seek_end, times_most}
use Rattle.retain.proofs.corners.Corners.last_at.Goals as goal

pub loop-left-init : goal.loop-left-init
loop-left-init c = seek_start _ c.args.t c.args.self.in_order _ c.requires refl

pub overflow_mul-at : goal.overflow_mul-at
overflow_mul-at c = let l = c.loop-left in let m = times_most (l.left / 2 + l.left % 2) c.not_above-past.result _ c.not_above-past.ensures in let w = l.invariant.within in omega (arith, c.well_formed)

pub overflow_add-at : goal.overflow_add-at
overflow_add-at c = let l = c.loop-left in let m = times_most (l.left / 2 + l.left % 2) c.not_above-past.result _ c.not_above-past.ensures in let w = l.invariant.within in omega (arith, c.well_formed)

pub loop-left-preserved : goal.loop-left-preserved
loop-left-preserved c = let l = c.loop-left in seek_turn _ _ c.args.self.in_order l.at l.left _ _ l.invariant c.loop-left-test.true refl c.not_above-past.ensures

pub returns : goal.returns
returns c = let l = c.loop-left in seek_end _ _ c.args.self.in_order l.at l.left l.invariant c.loop-left-test.false
