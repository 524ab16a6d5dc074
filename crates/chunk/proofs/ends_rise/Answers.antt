-- `chunk::ends_rise` meets its contract: the whole test is that no end was wrong so far, and the test of the ends that are left.
use mathlib.Core.Path.{sym, ◌∙◌}
use lib.ListN.{drop_of_length-le}
use lib.Dec.{eqb}
use Rattle.chunk.specs.Words.{ends_rise}
use Rattle.chunk.proofs.Tests.{and_turned, and_joins}
use Rattle.chunk.proofs.Falling.{climb}
use Rattle.chunk.proofs.ends_rise.Goals as goal

pub loop-end-preserved : goal.loop-end-preserved
loop-end-preserved c =
    let l = c.loop-end in
    let a = c.args in
    l.invariant ∙ simp (climb a.ends.now l.low a.top l.end-index c.loop-end-test.true, and_joins)

pub returns : goal.returns
unfolding ends_rise
returns c =
    let l = c.loop-end in
    let a = c.args in
    sym (l.invariant ∙ simp (drop_of_length-le a.ends.now c.loop-end-test.false) (and_turned l.good (eqb l.low a.top)))
