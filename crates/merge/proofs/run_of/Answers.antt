-- `merge::run_of` meets its contract, by the kind.
use Rattle.std.proofs.Common.{◌<◌, arith}
use Rattle.reports.proofs.Running.{run_this, run_that, run_other}
use Rattle.merge.proofs.run_of.Goals as goal

pub returns-in-0 : goal.returns-in-0
returns-in-0 c = run_this _ _ _ _ _ _ c.in-0.is c.part_of.ensures

pub returns-in-1 : goal.returns-in-1
returns-in-1 c = run_that _ _ _ _ _ _ c.in-1.is c.part_of-in-1.ensures

pub returns-in-2 : goal.returns-in-2
returns-in-2 c = rw c.in-2.is c.shared_of.ensures

pub returns-in_default : goal.returns-in_default
returns-in_default c = let h : 2 < c.args.kind = omega arith in run_other _ _ _ _ _ (λ e. absurd (omega arith)) (λ e. absurd (omega arith)) (λ e. absurd (omega arith))
