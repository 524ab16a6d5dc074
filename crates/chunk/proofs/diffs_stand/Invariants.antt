-- `chunk::diffs_stand` meets its contract: the whole test is that no diff was 0 so far, and the test of those that are left.
use mathlib.Core.Path.{◌≡◌}
use mathlib.Core.Bool.{◌&&◌}
use lib.ListN.{drop}
use Rattle.chunk.specs.Beside.{standing}
use Rattle.chunk.proofs.diffs_stand.Given as goal

abbrev pub invariant-loop-diff : goal.invariant-loop-diff
invariant-loop-diff l =
    standing l.diffs ≡ (l.good && standing (drop l.diff-index l.diffs))
