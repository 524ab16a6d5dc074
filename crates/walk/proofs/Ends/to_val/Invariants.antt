-- `walk::Ends::to_val` meets its contract: a turn leaves the loop's answer what it was, and less is left to turn to.
use Prim.Native.Nat.{◌-◌}
use mathlib.Core.Path.{◌≡◌}
use lib.ListN.{length}
use Rattle.walk.specs.Walk.{to_val}
use Rattle.walk.specs.Answer.{place_of}
use Rattle.walk.proofs.Ends.to_val.Given as goal

abbrev pub invariant-loop-p : goal.invariant-loop-p
invariant-loop-p l = to_val l.self.vals.now l.self.times.now (place_of l.initial.p) ≡ to_val l.self.vals.now l.self.times.now (place_of l.p)

abbrev pub decreases-loop-p : goal.decreases-loop-p
decreases-loop-p l = length l.self.times.now - l.p.v
