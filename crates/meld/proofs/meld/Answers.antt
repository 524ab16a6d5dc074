-- `meld::meld` meets its contract: a chunk's own refusal, the second's after the first's, and then the two together.
use Rattle.std.proofs.lemmas.Result.{err_from_is_err_and}
use Rattle.meld.proofs.Numbers.{first_out, second_out, of_pair}
use Rattle.meld.proofs.meld.Goals as goal

pub returns-in_err-front : goal.returns-in_err-front
returns-in_err-front c =
    let v = c.args in
    let p = err_from_is_err_and c.from_residual.result c.from_residual.ensures.1 in
    rw (p.1, p.2) (first_out v.a.now v.b.now v.out.now _ c.in_err-front.ensures)

pub returns-in_err-back : goal.returns-in_err-back
returns-in_err-back c =
    let v = c.args in
    let p = err_from_is_err_and c.from_residual-in_err-back.result c.from_residual-in_err-back.ensures.1 in
    let f = c.in_ok-front.ensures in
    rw (p.1, p.2) (second_out v.a.now v.b.now v.out.now _ f.1 f.2 c.in_err-back.ensures)

pub returns : goal.returns
returns c =
    let v = c.args in
    let f = c.in_ok-front.ensures in
    let g = c.in_ok-back.ensures in
    of_pair v.a.now v.b.now v.out.now _ _ f.1 f.2 g.1 g.2 (rw (f.0, g.0) at c.meld_settled.ensures)
