-- `walk::walk_start` meets its contract.
use Rattle.std.proofs.lemmas.Result.{err_from_is_err_and}
use Rattle.walk.specs.Answer.{started_of}
use Rattle.walk.proofs.walk_start.Goals as goal

pub returns-in_err-chunk : goal.returns-in_err-chunk
unfolding started_of
returns-in_err-chunk c =
    let e = c.in_err-chunk.ensures in
    let p = err_from_is_err_and c.from_residual.result c.from_residual.ensures.1 in
    rw (p.1, p.2) (simp (e.0, e.1))

pub returns : goal.returns
unfolding started_of
returns c =
    let e = c.in_ok-chunk.ensures in
    let f = c.ends_of-ends.ensures in
    simp (c.first.ensures, c.first-2.ensures, c.first-3.ensures, f.0, f.1, f.2, e.0, e.1)
