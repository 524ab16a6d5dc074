-- `retain::stay::count_values` meets its contract: what is counted and what is left to count is the count of all.
use mathlib.Core.Path.{◌≡◌}
use Rattle.chunk.specs.Contents.{start_of}
use Rattle.laws.specs.Picked.{list_kept}
use Rattle.retain.specs.Layers.{has_diff}
use Rattle.retain.proofs.Counts.{Counted}
use Rattle.retain.proofs.stay.count_values.Given as goal

abbrev pub invariant-loop-i : goal.invariant-loop-i
invariant-loop-i l = Counted (list_kept (has_diff l.diff_ends) l.time_ends) l.from l.to l.count l.i × (l.below ≡ start_of l.diff_ends (start_of l.time_ends l.i))
