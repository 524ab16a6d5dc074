-- `retain::stay::count_lists` meets its contract: what is counted and what is left to count is the count of all.
use mathlib.Core.Path.{◌≡◌}
use Rattle.chunk.specs.Contents.{start_of}
use Rattle.laws.specs.Picked.{list_kept}
use Rattle.retain.specs.Layers.{has_diff}
use Rattle.retain.proofs.Counts.{Listed}
use Rattle.retain.proofs.stay.count_lists.Given as goal

abbrev pub invariant-loop-upper : goal.invariant-loop-upper
invariant-loop-upper l = Listed (list_kept (has_diff l.diff_ends) l.time_ends) l.val_ends l.keys l.vals l.upper-index × (l.lower ≡ start_of l.val_ends l.upper-index) × (l.below ≡ start_of l.diff_ends (start_of l.time_ends l.lower))
