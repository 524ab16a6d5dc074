-- `chunk::ends_near` meets its contract: the whole test is that no end was wrong so far, and the test of the ends that are left.
use mathlib.Core.Path.{◌≡◌}
use mathlib.Core.Bool.{◌&&◌}
use lib.ListN.{drop}
use Rattle.chunk.specs.Words.{ends_step}
use Rattle.chunk.proofs.ends_near.Given as goal

abbrev pub invariant-loop-end : goal.invariant-loop-end
invariant-loop-end l = ends_step l.low l.ends l.top ≡ (l.good && ends_step l.last (drop l.end-index l.ends) l.top)
