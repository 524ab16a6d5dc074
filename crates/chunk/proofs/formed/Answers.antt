-- `chunk::formed` meets its contract: where the table doesn't fit there are no contents, and else the bodies tell.
use native.Mathlib.Omega.{arith}
use mathlib.Core.Path.{◌≡◌, sym, ◌∙◌}
use Rattle.std.specs.Prelude.{Some, None}
use Rattle.std.proofs.lemmas.Result.{err_from_is_err_and}
use Rattle.chunk.proofs.Placed.{placed_by, unfit}
use Rattle.chunk.proofs.WellFormed.{unfitting}
use Rattle.chunk.proofs.formed.Goals as goal

pub returns-in_err-contents : goal.returns-in_err-contents
returns-in_err-contents c =
    let n : c.read_contents.result ≡ None = grind arith in
    let p = err_from_is_err_and c.from_residual.result c.from_residual.ensures.1 in
    rw (p.1, p.2) (grind arith, unfitting _ (unfit _ (sym c.read_contents.ensures ∙ n)))

pub invariant_of-chunk : goal.invariant_of-chunk
invariant_of-chunk c =
    let s : c.read_contents.result ≡ Some c.in_ok-contents.contents = grind arith in
    record { placed = placed_by _ _ (sym c.read_contents.ensures ∙ s) }
