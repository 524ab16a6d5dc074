-- `retain::scan_corners` meets its contract: the corners found, with the least of what is left, are the least of all.
use Prim.Native.Nat.{ℕ}
use mathlib.Core.Path.{◌≡◌, sym, ◌∙◌, ap}
use native.Mathlib.Omega.{arith}
use Rattle.std.specs.Prelude.{Some}
use Rattle.retain.proofs.Scan.{climb_start, climb_more, climb_done, climb_over}
use Rattle.retain.proofs.one_by_one.scan_corners.Goals as goal

pub loop-count-init : goal.loop-count-init
loop-count-init c = climb_start _ _

pub loop-count-preserved : goal.loop-count-preserved
loop-count-preserved c = let l = c.loop-count in climb_more _ _ l.corners l.count l.limit _ l.invariant c.loop-count-test.true c.in-Some.ensures

pub returns-in_default : goal.returns-in_default
returns-in_default c = let l = c.loop-count in climb_done _ _ l.corners l.count l.limit l.invariant c.in_default.ensures

pub returns-in-Some-least_open : goal.returns-in-Some-least_open
returns-in-Some-least_open c = let l = c.loop-count in climb_over _ _ l.corners l.count l.limit _ l.invariant c.loop-count-test.false c.in-Some-least_open.ensures

pub returns-in-None : goal.returns-in-None
returns-in-None c = let l = c.loop-count in let e : l.count ≡ 128 = omega arith in ap (λ (n : ℕ). Some (record { count = n; corners = l.corners })) (sym e) ∙ climb_done _ _ l.corners l.count l.limit l.invariant c.in-None.ensures
