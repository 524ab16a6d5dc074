-- `retain::climb_corners` meets its contract: the corners of the times so far, with the times left, have the least times of all.
use mathlib.Core.Path.{sym}
use native.Mathlib.Omega.{arith}
use Rattle.laws.proofs.Tests.{true-not-false}
use Rattle.retain.proofs.Spots.{standing-length}
use Rattle.retain.proofs.Stairs.{bit_one}
use Rattle.retain.proofs.Running.{running_start, running_same, newly, running_on, running_end}
use Rattle.retain.proofs.climb_corners.Goals as goal
use Rattle.retain.proofs.climb_corners.Goals.{then-known-open+else-count-gt-MOST, else-known-open}

pub loop-time-init : goal.loop-time-init
loop-time-init c = running_start _ _

pub slice_bounds-so_far-end : goal.slice_bounds-so_far-end
slice_bounds-so_far-end c = sym (standing-length _ _ c.loop-time.invariant.standing)

pub invariant_of-so_far : goal.invariant_of-so_far
invariant_of-so_far c = record { in_order = c.loop-time.invariant.standing.stairs }

pub overflow_add-number : goal.overflow_add-number
overflow_add-number c = let w = c.loop-time.invariant.opened in let f = w.few in let o = w.onward in let b = bit_one _ _ c.open_bit-open.ensures in omega arith

pub add_corner-count-requires : goal.add_corner-count-requires
add_corner-count-requires c = let l = c.loop-time in (l.invariant.standing, (newly _ _ _ _ _ l.time-index l.invariant c.loop-time-test.true _ _ c.open_bit-known.ensures c.open_bit-open.ensures c.if-known-open.true).0)

pub returns-then-count-gt-MOST : goal.returns-then-count-gt-MOST
returns-then-count-gt-MOST c = λ h. absurd (true-not-false (sym h))

pub loop-time-preserved : goal.loop-time-preserved
loop-time-preserved c = let l = c.loop-time in let t = c.loop-time-test.true in let k = c.open_bit-known.ensures in let o = c.open_bit-open.ensures in
    elim c.if-known-open.branch [
      | then-known-open+else-count-gt-MOST w ↦ let n = newly _ _ _ _ _ l.time-index l.invariant t _ _ k o w.if-known-open.true in rw (w.stairs-is, w.count-is, n.1.1) (running_on _ _ _ _ _ l.time-index l.invariant t _ _ n.0 n.1.0 w.add_corner-count.ensures w.if-count-gt-MOST.false)
      | else-known-open w ↦ rw (w.stairs-is, w.count-is) (running_same _ _ _ _ _ l.time-index l.invariant t _ _ k o w.if-known-open.false)
    ]

pub returns : goal.returns
returns c = λ h. let l = c.loop-time in running_end _ _ _ _ _ _ l.invariant c.loop-time-test.false
