-- `retain::stay::count_values` meets its contract: what is counted and what is left to count is the count of all.
use Prim.Native.Nat.{◌<◌}
use mathlib.Core.Path.{refl}
use native.Mathlib.Omega.{arith}
use lib.ListN.{length}
use Rattle.retain.proofs.Counts.{counted_start, counted-bit, counted_end}
use Rattle.retain.proofs.Stairs.{as_bit}
use Rattle.retain.proofs.Parting.{end_within, standing_left, reach_next}
use Rattle.retain.proofs.stay.count_values.Goals as goal

pub loop-i-init : goal.loop-i-init
loop-i-init c = (counted_start _ _ _, c.requires.to_in_bounds.1)

pub loop-i-preserved : goal.loop-i-preserved
loop-i-preserved c = let a = c in let l = c.loop-i in let t = c.loop-i-test.true in let h : l.i < length a.args.time_ends.now = omega (arith, t, a.requires.to_in_bounds.0) in let e = end_within _ _ l.i _ a.requires.ends_step.1 h refl in (counted-bit _ _ _ _ l.i _ l.invariant.0 t (standing_left _ _ a.requires.ends_step.0 a.requires.ends_step.1 l.i _ h l.invariant.1 _ (as_bit _)), reach_next _ _ a.requires.ends_step.0 a.requires.ends_step.1 l.i _ h l.invariant.1)

pub returns : goal.returns
returns c = counted_end _ _ _ _ _ c.loop-i.invariant.0 c.loop-i-test.false
