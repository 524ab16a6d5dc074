-- `chunk::settled` meets its contract.
use mathlib.Core.Path.{◌≡◌, sym, ◌∙◌}
use mathlib.Core.Bool.{false}
use borrow.Author.Tests.{ne_eqb}
use Rattle.std.proofs.lemmas.Result.{err_from_is_err_and}
use Rattle.chunk.specs.Refusal.{first}
use Rattle.chunk.specs.Words.{settled}
use Rattle.chunk.proofs.Placed.{settles_by}
use Rattle.chunk.proofs.settled.Goals as goal

pub returns-in_err-chunk : goal.returns-in_err-chunk
unfolding first
returns-in_err-chunk c =
    let e = c.in_err-chunk.ensures in
    let p = err_from_is_err_and c.from_residual.result c.from_residual.ensures.1 in
    rw (p.1, p.2) (simp (e.0, e.1))

pub returns-then-chunk : goal.returns-then-chunk
unfolding first
returns-then-chunk c =
    let h = c.in_ok-chunk.chunk in
    let e = c.in_ok-chunk.ensures in
    let n : settled c.args.words.now ≡ false = rw e.0 at (sym (settles_by h.contents h.words.now h.placed) ∙ ne_eqb _ _ c.if-chunk.true) in
    simp (e.1, n)
