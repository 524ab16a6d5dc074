-- `chunk::steps_hold` meets its contract: both tests are what was found so far, and the tests of what is left.
use mathlib.Core.Path.{◌≡◌}
use mathlib.Core.Bool.{◌&&◌}
use lib.ListN.{length, drop}
use Rattle.chunk.specs.Words.{ends_step}
use Rattle.chunk.specs.Beside.{standing}
use Rattle.chunk.proofs.steps_hold.Given as goal

abbrev pub invariant-loop-i : goal.invariant-loop-i
invariant-loop-i l =
    (ends_step 0 l.ends (length l.diffs) && standing l.diffs) ≡ (l.good && (ends_step l.low (drop l.i l.ends) (length l.diffs) && standing (drop l.i l.diffs)))
