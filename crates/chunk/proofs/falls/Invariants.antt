-- `chunk::falls` meets its contract: the falls are those counted so far and those of the items that are left.
use Prim.Native.Nat.{◌≤◌, ◌+◌}
use mathlib.Core.Path.{◌≡◌}
use lib.ListN.{drop}
use Rattle.chunk.specs.Falls.{falls_from, falls_of}
use Rattle.chunk.proofs.falls.Given as goal

abbrev pub invariant-loop-next : goal.invariant-loop-next
invariant-loop-next l = (l.count ≤ l.next-index) × (falls_of l.fn.items ≡ l.count + falls_from l.last (drop l.next-index l.others))
