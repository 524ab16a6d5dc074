-- `chunk::beside::times_hold` meets its contract: where the ends rise, the lists of each part do where all its falls are at their starts, and the changes hold where they do beside each part.
use mathlib.Core.Path.{◌≡◌}
use mathlib.Core.Bool.{◌&&◌}
use lib.ListN.{length, drop}
use Rattle.chunk.specs.Beside.{changes_hold}
use Rattle.chunk.proofs.Parting.{Tested}
use Rattle.chunk.proofs.beside.times_hold.Given as goal

abbrev pub invariant-loop-part : goal.invariant-loop-part
invariant-loop-part l =
    Tested l.time_ends l.times l.part-iterator l.low × (changes_hold 0 l.diff_ends l.diffs (length l.diffs) ≡ (l.good && changes_hold l.reach (drop l.low l.diff_ends) (drop l.low l.diffs) (length l.diffs)))
