-- `meld::count_on` meets its contract: so many numbers stand at the front, and past them what was lent.
use Rattle.std.proofs.Common.{◌≡◌, length}
use Rattle.meld.specs.Copy.{counted_on}
use Rattle.meld.proofs.Copy.{partly}
use Rattle.meld.proofs.count_on.Given as goal

abbrev pub invariant-loop-i : goal.invariant-loop-i
invariant-loop-i l = l.dst ≡ partly l.initial.dst (counted_on l.first (length l.initial.dst)) l.i
