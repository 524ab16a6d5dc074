-- `form::survey` meets its contract: the invariant is `Surveying`, that the pass and the updates left give all answers.
use Rattle.sort.specs.Sort.{updates}
use Rattle.form.proofs.Tallying.{Surveying}
use Rattle.form.proofs.survey.Given as goal

abbrev pub invariant-loop-i : goal.invariant-loop-i
invariant-loop-i l = Surveying (updates l.words) l.i l.state l.fell l.inside
