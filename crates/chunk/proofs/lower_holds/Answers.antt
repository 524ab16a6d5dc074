-- `chunk::lower_holds` meets its contract: where there are as many times as lists the ends alone tell of them, and more diffs than times can't be reached.
use native.Mathlib.Omega.{arith}
use borrow.Author.Tests.{lt-leb}
use lib.ListN.{length}
use Rattle.chunk.proofs.Counting.{alone, flat}
use Rattle.chunk.proofs.lower_holds.Goals as goal

pub returns-then-time_ends-times : goal.returns-then-time_ends-times
returns-then-time_ends-times c =
    let a = c.args in
    rw (c.changes_hold.ensures, c.counts_up.ensures, alone a.time_ends.now a.times.now c.if-time_ends-times.true)

pub returns-else-diffs-times : goal.returns-else-diffs-times
returns-else-diffs-times c =
    let a = c.args in
    simp (lt-leb _ _ c.if-diffs-times.false, flat 0 (length a.diffs.now) a.diff_ends.now (omega (arith, c.requires)))
