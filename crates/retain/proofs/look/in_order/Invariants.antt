-- `retain::in_order` meets its contract: from each corner on, what is left to test is the order of those left.
use mathlib.Core.Path.{◌≡◌}
use mathlib.Core.List.{◌∷◌}
use lib.ListN.{drop}
use Rattle.retain.specs.Frontier.{ordered}
use Rattle.retain.proofs.look.in_order.Given as goal

abbrev pub invariant-loop-next : goal.invariant-loop-next
invariant-loop-next l = ordered l.corners ≡ ordered (l.last ∷ drop l.next-index l.rest)
