-- `chunk::counts_up` meets its contract: the whole test is that no end was wrong so far, and the test of the ends that are left.
use mathlib.Core.Path.{◌≡◌, sym, ◌∙◌}
use native.Mathlib.Omega.{arith}
use borrow.Author.Tests.{eq-eqb}
use lib.ListN.{length, drop_of_length-le}
use Rattle.chunk.specs.Words.{ends_rise}
use Rattle.chunk.proofs.Tests.{and-true}
use Rattle.chunk.proofs.Counting.{marked}
use Rattle.chunk.proofs.counts_up.Goals as goal

pub loop-i-preserved : goal.loop-i-preserved
loop-i-preserved c =
    let l = c.loop-i in
    l.invariant ∙ marked c.args.ends.now l.i c.loop-i-test.true l.wrong

pub returns : goal.returns
unfolding ends_rise
returns c =
    let s = c.args.ends.now in
    let k : c.loop-i.i ≡ length s = omega arith in
    sym (c.loop-i.invariant ∙ simp (drop_of_length-le s c.loop-i-test.false, eq-eqb _ _ k, and-true))
