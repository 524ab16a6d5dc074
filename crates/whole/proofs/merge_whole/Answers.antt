-- `whole::merge_whole` meets its contract: the three calls are those of the definition, up to the first refusal.
use mathlib.Core.Path.{refl}
use Rattle.std.proofs.lemmas.Result.{err_from_is_err_and}
use Rattle.whole.proofs.Parts.{merge_refused, filter_refused, rest_refused, all_accepted, refusal_answer, not_zero}
use Rattle.whole.proofs.merge_whole.Goals as goal

pub returns-in_err-survivor : goal.returns-in_err-survivor
returns-in_err-survivor c =
    let p = err_from_is_err_and c.from_residual.result c.from_residual.ensures.1 in
    rw (p.1, p.2) (merge_refused _ _ _ _ _ _ _ _ _ c.in_err-survivor.ensures (not_zero _))

pub returns-in_err-filter_zero : goal.returns-in_err-filter_zero
returns-in_err-filter_zero c = let p = err_from_is_err_and c.from_residual-in_err-filter_zero.result c.from_residual-in_err-filter_zero.ensures.1 in rw (p.1, p.2) (filter_refused _ _ _ _ _ _ _ _ _ c.in_ok-survivor.ensures refl _ _ c.in_err-filter_zero.ensures.number c.in_err-filter_zero.ensures.written (not_zero _) _ (refusal_answer _))

pub returns-in_err-write_rest : goal.returns-in_err-write_rest
returns-in_err-write_rest c =
    let f = c.in_ok-filter_zero.ensures in
    let r = c.in_err-write_rest.ensures in
    let p = err_from_is_err_and c.from_residual-in_err-write_rest.result c.from_residual-in_err-write_rest.ensures.1 in
    rw (p.1, p.2) (rest_refused _ _ _ _ _ _ _ _ _ c.in_ok-survivor.ensures refl _ _ f.number f.written refl _ _ r.value r.rest_after (not_zero _) _ (refusal_answer _))

pub returns : goal.returns
returns c =
    let filtered = c.in_ok-filter_zero.ensures in
    let r = c.in_ok-write_rest.ensures in
    all_accepted _ _ _ _ _ _ _ _ _ c.in_ok-survivor.ensures refl _ _ filtered.number filtered.written refl _ _ r.value r.rest_after refl
