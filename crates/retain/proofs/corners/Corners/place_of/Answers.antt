-- `retain::corners::Corners::place_of` meets its contract: behind the last corner whose ignition is at or below, or before the first.
use native.Mathlib.Omega.{arith}
use Rattle.retain.proofs.Stairs.{place_by, bit_one}
use Rattle.retain.proofs.corners.Corners.place_of.Goals as goal

pub overflow_add-result : goal.overflow_add-result
overflow_add-result c = let w = c.last_at-at.ensures.within in let m = bit_one _ _ c.not_above-past.ensures in omega (arith, c.well_formed)

pub returns : goal.returns
returns c = place_by _ c.args.t c.args.self.in_order _ c.last_at-at.ensures _ c.not_above-past.ensures
