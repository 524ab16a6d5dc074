-- `retain::corners::Corners::is_open` meets its contract: its bit is 1.
use Rattle.retain.proofs.Stairs.{bit-true}
use Rattle.retain.proofs.corners.Corners.is_open.Goals as goal

pub returns : goal.returns
returns c = bit-true _ _ c.open_bit-open.ensures
