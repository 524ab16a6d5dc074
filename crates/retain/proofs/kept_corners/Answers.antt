-- `retain::kept_corners` meets its contract, by either way.
use mathlib.Core.Path.{sym}
use Rattle.retain.proofs.Running.{kept_some}
use Rattle.retain.proofs.kept_corners.Goals as goal

pub returns-then-is_some : goal.returns-then-is_some
returns-then-is_some c = c.climb_corners-quick.ensures (sym c.if-is_some.ensures)

pub returns : goal.returns
returns c = kept_some _ _ _ c.in_ok-frontier.ensures c.count_open-number.ensures
