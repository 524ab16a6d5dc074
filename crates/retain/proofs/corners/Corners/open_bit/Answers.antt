-- `retain::corners::Corners::open_bit` meets its contract: by the last corner whose ignition is at or below.
use mathlib.Core.Path.{sym}
use borrow.Author.Tests.{eqb-true}
use Rattle.retain.proofs.Stairs.{open_by, open_empty}
use Rattle.retain.proofs.corners.Corners.open_bit.Goals as goal

pub returns-then-is_empty : goal.returns-then-is_empty
returns-then-is_empty c = open_empty _ c.args.t (eqb-true _ _ (sym c.if-is_empty.ensures))

pub returns : goal.returns
returns c =
    open_by _ c.args.t c.args.self.in_order _ c.last_at-at.ensures _ c.at_or_below-below.ensures
