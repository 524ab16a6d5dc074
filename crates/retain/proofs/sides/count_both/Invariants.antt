-- `retain::sides::count_both` meets its contract: the keys and values before the next are counted, on either side.
use mathlib.Core.Path.{◌≡◌}
use Rattle.chunk.specs.Contents.{start_of}
use Rattle.retain.specs.Frontier.{is_open}
use Rattle.retain.specs.Keep.{is_shut, time_passes}
use Rattle.laws.specs.Picked.{list_kept}
use Rattle.retain.proofs.Counts.{Listed}
use Rattle.retain.proofs.sides.count_both.Given as goal

abbrev pub invariant-loop-upper : goal.invariant-loop-upper
invariant-loop-upper l =
    Listed (list_kept (time_passes (is_open l.corners.times.now) l.times) l.time_ends) l.val_ends l.open.keys l.open.vals l.upper-index
    × Listed (list_kept (time_passes (is_shut l.corners.times.now) l.times) l.time_ends) l.val_ends l.shut.keys l.shut.vals l.upper-index
    × (l.lower ≡ start_of l.val_ends l.upper-index)
    × (l.at ≡ start_of l.time_ends l.lower)
