-- `chunk::rows_hold` meets its contract: each of the five tests is what was found so far, and the test of what is left.
use mathlib.Core.Path.{sym}
use Rattle.chunk.proofs.Rowing.{reading_turn, keys_end, vals_end, times_end, ends_end, stands_end}
use Rattle.chunk.proofs.rows_hold.Goals as goal

pub loop-i-preserved : goal.loop-i-preserved
loop-i-preserved c = reading_turn c.requires c.loop-i-test.true c.loop-i.invariant c.fall_of-fell.result c.fall_of-fell.ensures

pub returns : goal.returns
returns c =
    let w = c.requires in
    let h = c.loop-i-test.false in
    let r = c.loop-i.invariant in
    sym (simp (keys_end w h r, vals_end w h r, times_end w h r, ends_end w h r, stands_end w h r, c.fall_of.ensures))
