-- `retain::verdict_of` meets its contract, test by test.
use borrow.Author.Tests.{eq-eqb, ne_eqb}
use Rattle.retain.proofs.verdict_of.Goals as goal

pub returns-then-kept-all : goal.returns-then-kept-all
returns-then-kept-all c = simp (eq-eqb _ _ c.if-kept-all.true)

pub returns-then-kept-eq0 : goal.returns-then-kept-eq0
returns-then-kept-eq0 c = simp (ne_eqb _ _ c.if-kept-all.false, eq-eqb _ _ c.if-kept-eq0.true)

pub returns : goal.returns
returns c = simp (ne_eqb _ _ c.if-kept-all.false, ne_eqb _ _ c.if-kept-eq0.false)
