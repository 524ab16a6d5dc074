-- `chunk::beside::look_stepping` meets its contract: the falls are those counted so far and those of the times left, and so are the changes tested, first with diffs and then without.
use mathlib.Core.Bool.{◌&&◌}
use mathlib.Core.Path.{◌≡◌}
use lib.ListN.{length, drop}
use Rattle.chunk.specs.Beside.{changes_hold}
use Rattle.chunk.proofs.Looking.{Looked}
use Rattle.chunk.proofs.beside.look_stepping.Given as goal

abbrev pub invariant-loop-i : goal.invariant-loop-i
invariant-loop-i l =
    Looked l.times l.low l.high l.fell l.last l.i × (changes_hold l.reach (drop l.low l.ends) (drop l.low l.diffs) (length l.diffs) ≡ (l.good && changes_hold l.end (drop l.i l.ends) (drop l.i l.diffs) (length l.diffs)))

abbrev pub invariant-loop-i-2 : goal.invariant-loop-i-2
invariant-loop-i-2 l =
    Looked l.times l.low l.high l.fell l.last l.i × (changes_hold l.reach (drop l.low l.ends) (drop l.low l.diffs) (length l.diffs) ≡ (l.good && changes_hold l.end (drop l.i l.ends) (drop l.i l.diffs) (length l.diffs)))
