-- `chunk::filled` meets its contract.
use mathlib.Core.Path.{◌≡◌, sym, ◌∙◌}
use mathlib.Core.List.{[], ◌∷◌}
use borrow.Author.Tests.{eq-eqb}
use Rattle.chunk.specs.Words.{nt}
use Rattle.std.proofs.lemmas.Result.{err_from_is_err_and}
use Rattle.chunk.specs.Refusal.{first, malformed, unsettled, empty}
use Rattle.chunk.proofs.Refusals.{refused_by}
use Rattle.chunk.proofs.filled.Goals as goal

pub returns-in_err-chunk : goal.returns-in_err-chunk
returns-in_err-chunk c =
    let w = c.args.words.now in
    let p = err_from_is_err_and c.from_residual.result c.from_residual.ensures.1 in
    rw (p.1, p.2) (refused_by _ (malformed w ∷ unsettled w ∷ []) (empty w ∷ []) c.in_err-chunk.ensures)

pub returns-then-chunk-eq0 : goal.returns-then-chunk-eq0
unfolding first
returns-then-chunk-eq0 c =
    let h = c.in_ok-chunk.chunk in
    let e = c.in_ok-chunk.ensures in
    let z : nt c.args.words.now ≡ 0 = (rw e.0 at (sym h.placed.time_count)) ∙ c.if-chunk-eq0.true in
    simp (e.1, e.2, eq-eqb (nt c.args.words.now) 0 z)
