-- `chunk::ends_near` meets its contract: the whole test is that no end was wrong so far, and the test of the ends that are left.
use mathlib.Core.Path.{sym, ◌∙◌}
use lib.ListN.{drop_of_length-le}
use lib.Dec.{eqb}
use Rattle.chunk.specs.Words.{ends_step}
use Rattle.chunk.proofs.Tests.{and_turned}
use Rattle.chunk.proofs.Stepping.{stepped_more}
use Rattle.chunk.proofs.ends_near.Goals as goal

pub loop-end-preserved : goal.loop-end-preserved
loop-end-preserved c =
    let l = c.loop-end in
    let a = c.args in
    rw c.steps-good.ensures (l.invariant ∙ stepped_more l.good a.ends.now l.last l.end-index a.top c.loop-end-test.true)

pub returns : goal.returns
unfolding ends_step
returns c =
    let l = c.loop-end in
    let a = c.args in
    sym (l.invariant ∙ simp (drop_of_length-le a.ends.now c.loop-end-test.false) (and_turned l.good (eqb l.last a.top)))
