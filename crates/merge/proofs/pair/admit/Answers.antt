-- `merge::pair::admit` meets its contract: the tests in their order.
use Rattle.std.proofs.Common.{not, ap}
use Rattle.reports.proofs.Admitting.{too_many, too_narrow, too_short, enough}
use Rattle.merge.proofs.pair.admit.Goals as goal

pub returns-then-is_none : goal.returns-then-is_none
returns-then-is_none c = let v = c.args in too_many v.found0 v.found1 v.scratch v.out c.layout.ensures (ap not c.if-is_none.ensures)

pub returns-then-scratch-found0 : goal.returns-then-scratch-found0
returns-then-scratch-found0 c = let v = c.args in too_narrow v.found0 v.found1 v.scratch v.out c.layout.ensures (ap not c.if-is_none.ensures) c.if-scratch-found0.true

pub returns-then-out-found0 : goal.returns-then-out-found0
returns-then-out-found0 c = let v = c.args in too_short v.found0 v.found1 v.scratch v.out c.layout.ensures (ap not c.if-is_none.ensures) c.if-scratch-found0.false c.if-out-found0.true

pub returns : goal.returns
returns c = let v = c.args in enough v.found0 v.found1 v.scratch v.out c.layout.ensures (ap not c.if-is_none.ensures) c.if-scratch-found0.false c.if-out-found0.false
