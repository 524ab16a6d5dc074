-- `retain::climb::run_end` meets its contract: no corner passed has a lower tick.
use Prim.Native.Nat.{ℕ, ◌<◌, ◌≤◌}
use lib.ListN.{get_or}
use Rattle.chunk.specs.Entry.{tick}
use Rattle.retain.proofs.climb.run_end.Given as goal

abbrev pub invariant-loop-end : goal.invariant-loop-end
invariant-loop-end l = (k : ℕ) → k < l.end → l.at ≤ k → tick l.t ≤ tick (get_or l.corners k 0)
