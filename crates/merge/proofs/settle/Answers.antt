use Rattle.std.proofs.Common.{sym, refl, ◌∙◌}
use Rattle.reports.specs.Gallop.{settled}
use Rattle.merge.proofs.settle.Goals as goal

pub returns-then-below_at : goal.returns-then-below_at
unfolding settled
returns-then-below_at c = sym (rw (sym c.below_at.ensures ∙ c.if-below_at.true) refl)

pub returns : goal.returns
unfolding settled
returns c = sym (rw (sym c.below_at.ensures ∙ c.if-below_at.false) refl)
