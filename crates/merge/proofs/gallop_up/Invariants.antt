use Rattle.std.proofs.Common.{◌≡◌, ◌-◌, ◌*◌, ◌≤◌, true, length}
use Rattle.reports.specs.Gallop.{below_at, Doubled}
use Rattle.merge.proofs.gallop_up.Given as goal

abbrev pub invariant-loop-lower : goal.invariant-loop-lower
invariant-loop-lower l = (below_at l.items (length l.items) l.target l.lower ≡ true) × Doubled l.step × (l.step ≤ 2 * length l.items)

abbrev pub decreases-loop-lower : goal.decreases-loop-lower
decreases-loop-lower l = length l.items - l.lower
