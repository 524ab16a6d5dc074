-- `form::counted` meets its contract.
use Rattle.std.proofs.Common.{refl, le-ltb, lt-ltb, eq-eqb, ne_eqb}
use Rattle.chunk.specs.Refusal.{first}
use Rattle.form.specs.Pass.{count_number}
use Rattle.form.proofs.counted.Goals as goal

pub returns-then-words-ne0 : goal.returns-then-words-ne0
unfolding count_number first
returns-then-words-ne0 c = simp (ne_eqb _ _ c.if-words-ne0.true)

pub returns-then-count-gt-LIMIT : goal.returns-then-count-gt-LIMIT
unfolding count_number first
returns-then-count-gt-LIMIT c = simp (eq-eqb _ _ c.if-words-ne0.false, lt-ltb _ _ c.if-count-gt-LIMIT.true)

pub returns : goal.returns
unfolding count_number first
returns c = (simp (eq-eqb _ _ c.if-words-ne0.false, le-ltb _ _ c.if-count-gt-LIMIT.false), refl)
