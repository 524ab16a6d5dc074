-- `survey::run_end` meets its contract: the run from where the loop stands ends where the run from the start does.
use mathlib.Core.Path.{◌≡◌, ◌∙◌}
use native.Mathlib.Omega.{arith}
use lib.ListN.{length}
use Rattle.reports.proofs.Galloping.{no_run, run_on}
use Rattle.survey.proofs.run_end.Goals as goal

pub returns-then-target-keys : goal.returns-then-target-keys
returns-then-target-keys c = no_run _ _ _ _ (omega arith) (omega arith) (λ _. c.if-target-keys.true) ∙ c.loop-at.invariant

pub loop-at-preserved : goal.loop-at-preserved
loop-at-preserved c = run_on _ _ _ _ c.loop-at-test.true (omega arith) c.if-target-keys.false ∙ c.loop-at.invariant

pub returns : goal.returns
returns c =
    let e : length c.args.keys.now ≡ c.loop-at.at = omega (arith, c.requires, c.loop-at.auto.at-end) in
    e ∙ no_run _ _ _ _ (omega (arith, e)) (omega arith) (λ h. absurd (omega arith)) ∙ c.loop-at.invariant
