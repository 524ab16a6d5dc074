-- `chunk::beside::look` meets its contract: either way finds the same, and where the count that is reached is the range's start both start from it.
use mathlib.Core.Path.{◌≡◌}
use borrow.Author.Tests.{eqb-true}
use lib.ListN.{length}
use lib.Dec.{eqb}
use Rattle.chunk.proofs.Tests.{and_left, and_right}
use Rattle.chunk.proofs.beside.look.Goals as goal

pub look_settled-requires : goal.look_settled-requires
look_settled-requires c = let a = c in (a.requires, eqb-true _ _ (and_left _ _ c.if-ends-diffs.true))

pub returns-then-ends-diffs : goal.returns-then-ends-diffs
returns-then-ends-diffs c =
    let a = c.args in
    let q : a.reach ≡ a.low = eqb-true _ _ (and_right (eqb (length a.ends.now) (length a.diffs.now)) _ c.if-ends-diffs.true) in
    rw q c.look_settled.ensures
