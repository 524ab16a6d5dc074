-- `chunk::diffs_stand` meets its contract: the whole test is that no diff was 0 so far, and the test of those that are left.
use mathlib.Core.Path.{sym, ◌∙◌}
use lib.ListN.{drop_of_length-le}
use Rattle.chunk.specs.Entry.{every}
use Rattle.chunk.proofs.Tests.{and-true, and_joins}
use Rattle.chunk.proofs.Rowing.{stood}
use Rattle.chunk.proofs.diffs_stand.Goals as goal

pub loop-diff-preserved : goal.loop-diff-preserved
loop-diff-preserved c =
    let l = c.loop-diff in
    l.invariant ∙ simp (stood c.args.diffs.now l.diff-index c.loop-diff-test.true, and_joins)

pub returns : goal.returns
unfolding every
returns c = sym (c.loop-diff.invariant ∙ simp (drop_of_length-le c.args.diffs.now c.loop-diff-test.false, and-true))
