-- `chunk::falls_at` meets its contract: the falls at starts are those counted so far and those at the ends that are left.
use Prim.Native.Nat.{◌≤◌, ◌<◌, ◌+◌}
use mathlib.Core.Path.{◌≡◌}
use mathlib.Core.Bool.{true}
use lib.ListN.{length, drop, get_or}
use Rattle.chunk.specs.Words.{ends_rise}
use Rattle.chunk.specs.Falls.{falls_at_from, falls_at}
use Rattle.chunk.proofs.falls_at.Given as goal

abbrev pub invariant-loop-end : goal.invariant-loop-end
invariant-loop-end l =
    (l.count ≤ l.end-index)
    × (0 < get_or l.fn.ends l.end-index 0)
    × (ends_rise (get_or l.fn.ends l.end-index 0) (drop (l.end-index + 1) l.fn.ends) (length l.items) ≡ true)
    × (falls_at l.fn.ends l.items ≡ l.count + falls_at_from (get_or l.fn.ends l.end-index 0) (drop (l.end-index + 1) l.fn.ends) l.items)
