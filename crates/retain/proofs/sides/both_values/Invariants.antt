-- `retain::sides::both_values` meets its contract: what is counted and what is left to count is the count of all, on either side.
use mathlib.Core.Path.{◌≡◌}
use Rattle.chunk.specs.Contents.{start_of}
use Rattle.retain.specs.Frontier.{is_open}
use Rattle.retain.specs.Keep.{is_shut, time_passes}
use Rattle.laws.specs.Picked.{list_kept}
use Rattle.retain.proofs.Counts.{Counted}
use Rattle.retain.proofs.sides.both_values.Given as goal

abbrev pub invariant-loop-i : goal.invariant-loop-i
invariant-loop-i l =
    Counted (list_kept (time_passes (is_open l.corners.times.now) l.times) l.time_ends) l.from l.to l.open l.i
    × Counted (list_kept (time_passes (is_shut l.corners.times.now) l.times) l.time_ends) l.from l.to l.shut l.i
    × (l.lower ≡ start_of l.time_ends l.i)
