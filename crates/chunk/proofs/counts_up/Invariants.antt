-- `chunk::counts_up` meets its contract: the whole test is that no end was wrong so far, and the test of the ends that are left.
use mathlib.Core.Path.{◌≡◌}
use mathlib.Core.Bool.{◌&&◌}
use lib.ListN.{length, drop}
use lib.Dec.{eqb}
use Rattle.chunk.specs.Words.{ends_rise}
use Rattle.chunk.proofs.counts_up.Given as goal

abbrev pub invariant-loop-i : goal.invariant-loop-i
invariant-loop-i l = ends_rise 0 l.ends (length l.ends) ≡ (eqb l.wrong 0 && ends_rise l.i (drop l.i l.ends) (length l.ends))
