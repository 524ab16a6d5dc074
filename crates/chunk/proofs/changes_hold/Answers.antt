-- `chunk::changes_hold` meets its contract: fewer ends than diffs can't reach their count, and as many step as they count up.
use mathlib.Core.Path.{◌∙◌, ap}
use mathlib.Core.Bool.{Bool, ◌&&◌}
use native.Mathlib.Omega.{arith}
use borrow.Author.Tests.{le-ltb}
use lib.ListN.{length}
use Rattle.chunk.specs.Words.{ends_step}
use Rattle.chunk.proofs.Counting.{flat, stepped}
use Rattle.chunk.proofs.changes_hold.Goals as goal

pub returns-then-ends-diffs : goal.returns-then-ends-diffs
returns-then-ends-diffs c =
    let a = c.args in
    ap (λ (b : Bool). b && c.diffs_stand.result) (c.counts_up.ensures ∙ stepped (length a.diffs.now) a.ends.now c.if-ends-diffs.true)
    ∙ ap (λ (b : Bool). ends_step 0 a.ends.now (length a.diffs.now) && b) c.diffs_stand.ensures

pub returns-else-diffs-ends : goal.returns-else-diffs-ends
returns-else-diffs-ends c =
    let a = c.args in
    simp (le-ltb _ _ c.if-diffs-ends.false, flat 0 (length a.diffs.now) a.ends.now (omega (arith, c.if-ends-diffs.false)))
