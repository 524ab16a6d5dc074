-- `form::form_unsorted` meets its contract: the tests in their order, and then the chunk of the sorted updates.
use Rattle.std.proofs.Common.{sym, ◌∙◌, arith}
use Rattle.std.proofs.lemmas.Result.{err_from_is_err_and}
use Rattle.chunk.proofs.Refusals.{number_above}
use Rattle.form.proofs.Unsorted.{unsorted_count, unsorted_4, unsorted_13, unsorted_0, sorted_passes, sorted_accepts}
use Rattle.form.proofs.form_unsorted.Goals as goal

pub returns-in_err-count : goal.returns-in_err-count
returns-in_err-count c =
    let e = c.in_err-count.ensures in
    let p = err_from_is_err_and c.from_residual.result c.from_residual.ensures.1 in
    rw (p.1, p.2) (unsorted_count _ _ _ e)

pub returns-then-not-all_in_range : goal.returns-then-not-all_in_range
returns-then-not-all_in_range c =
    let k = c.in_ok-count.ensures in
    unsorted_4 _ _ k.0 (sym c.all_in_range.ensures ∙ c.if-not-all_in_range.true)

pub returns-then-out-count : goal.returns-then-out-count
returns-then-out-count c =
    let k = c.in_ok-count.ensures in
    unsorted_13 _ _ k.0 (sym c.all_in_range.ensures ∙ c.if-not-all_in_range.false) (omega (arith, k.1))

-- the sorted updates are never refused
pub returns-in_err-sizes : goal.returns-in_err-sizes
returns-in_err-sizes c =
    let us = c.args.updates.now in
    let k = c.in_ok-count.ensures in
    let s = c.sort_updates in
    let e = c.in_err-sizes.ensures in
    absurd (omega (arith, number_above c.in_err-sizes.field-0.0, e, sorted_passes us c.args.out.now k.0 (sym c.all_in_range.ensures ∙ c.if-not-all_in_range.false) s.new.lent s.ensures))

pub form_sorted-requires-clause-accepts : goal.form_sorted-requires-clause-accepts
form_sorted-requires-clause-accepts c =
    let us = c.args.updates.now in
    let k = c.in_ok-count.ensures in
    let s = c.sort_updates in
    sorted_accepts us c.args.out.now k.0 (sym c.all_in_range.ensures ∙ c.if-not-all_in_range.false) (omega (arith, k.1)) s.new.lent s.ensures

pub returns : goal.returns
returns c =
    let us = c.args.updates.now in
    let k = c.in_ok-count.ensures in
    let s = c.sort_updates in
    unsorted_0 us c.args.out.now k.0 (sym c.all_in_range.ensures ∙ c.if-not-all_in_range.false) (omega (arith, k.1)) s.new.lent _ s.ensures c.form_sorted.ensures
