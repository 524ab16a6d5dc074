-- `chunk::rows_hold` meets its contract: each of the five tests is what was found so far, and the test of what is left.
use Rattle.chunk.proofs.Rowing.{Reading}
use Rattle.chunk.proofs.rows_hold.Given as goal

abbrev pub invariant-loop-i : goal.invariant-loop-i
invariant-loop-i l =
    Reading l.keys l.val_ends l.time_ends l.diff_ends l.diffs l.fell l.last l.vals l.times l.ends l.good l.i
