-- `form::form` meets its contract: the tests in their order, and then the chunk.
use Rattle.std.proofs.Common.{arith}
use Rattle.std.proofs.lemmas.Result.{err_from_is_err_and}
use Rattle.sort.proofs.Updates.{count_whole}
use Rattle.form.proofs.Whole.{count_few, form_count, form_survey, form_13, form_0}
use Rattle.form.proofs.form.Goals as goal

pub returns-in_err-count : goal.returns-in_err-count
returns-in_err-count c =
    let e = c.in_err-count.ensures in
    let p = err_from_is_err_and c.from_residual.result c.from_residual.ensures.1 in
    rw (p.1, p.2) (form_count _ _ _ e)

pub returns-in_err-sizes : goal.returns-in_err-sizes
returns-in_err-sizes c =
    let k = c.in_ok-count.ensures in
    let e = c.in_err-sizes.ensures in
    let p = err_from_is_err_and c.from_residual-in_err-sizes.result c.from_residual-in_err-sizes.ensures.1 in
    rw (p.1, p.2) (form_survey _ _ k.0 _ e)

pub returns-then-out-count : goal.returns-then-out-count
returns-then-out-count c =
    let k = c.in_ok-count.ensures in
    let s = c.in_ok-sizes.ensures in
    form_13 _ _ k.0 s.0 (omega (arith, k.1))

pub form_sorted-requires-clause-accepts : goal.form_sorted-requires-clause-accepts
form_sorted-requires-clause-accepts c =
    let us = c.args.updates.now in
    let k = c.in_ok-count.ensures in
    record { few = omega (arith, count_whole us, count_few _ k.0); room = omega (arith, count_whole us, k.1) }

pub returns : goal.returns
returns c =
    let k = c.in_ok-count.ensures in
    let s = c.in_ok-sizes.ensures in
    form_0 _ _ k.0 s.0 _ (omega (arith, k.1)) c.form_sorted.ensures
