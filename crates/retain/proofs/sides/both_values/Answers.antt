-- `retain::sides::both_values` meets its contract: what is counted and what is left to count is the count of all, on either side.
use Prim.Native.Nat.{◌<◌}
use native.Mathlib.Omega.{arith}
use lib.ListN.{length}
use Rattle.retain.proofs.Counts.{counted_start, counted-bit, counted_end, start_next}
use Rattle.retain.proofs.Stairs.{as_bit}
use Rattle.retain.proofs.Parting.{open_left, shut_left}
use Rattle.retain.proofs.sides.both_values.Goals as goal

pub loop-i-init : goal.loop-i-init
loop-i-init c = (counted_start _ _ _, counted_start _ _ _, c.requires.1.1)

pub loop-i-preserved : goal.loop-i-preserved
loop-i-preserved c =
    let a = c in
    let l = c.loop-i in
    let t = c.loop-i-test.true in
    let h : l.i < length a.args.time_ends.now = omega (arith, a.requires.1.0) in
    let o = c.count_open-number.ensures in (
      counted-bit _ _ _ _ l.i _ l.invariant.0 t (open_left _ _ _ a.requires.0 l.i l.lower _ h l.invariant.2 o _ (as_bit _)),
      counted-bit _ _ _ _ l.i _ l.invariant.1 t (shut_left _ _ _ a.requires.0 l.i l.lower _ h l.invariant.2 o _ (as_bit _)),
      start_next _ l.i,
    )

pub returns : goal.returns
returns c = let w = c.loop-i.invariant in record { open_values = counted_end _ _ _ _ _ w.0 c.loop-i-test.false; shut_values = counted_end _ _ _ _ _ w.1 c.loop-i-test.false }
