-- `survey::plan` meets its contract: the refusals in document 01's order, and the number of reports.
use mathlib.Core.Path.{◌≡◌, ap}
use native.Mathlib.Omega.{arith}
use lib.ListN.{length}
use Rattle.std.proofs.lemmas.Result.{err_from_is_err_and}
use Rattle.chunk.specs.Words.{key_body}
use Rattle.survey.proofs.Plans.{taken_count, plan_first, plan_second, plan_short, plan_room}
use Rattle.survey.proofs.plan.Goals as goal

pub returns-in_err-first : goal.returns-in_err-first
returns-in_err-first c =
    let p = err_from_is_err_and c.from_residual.result c.from_residual.ensures.1 in
    rw (p.1, p.2) (plan_first _ _ _ _ c.in_err-first.ensures)

pub returns-in_err-second : goal.returns-in_err-second
returns-in_err-second c =
    let e = c.in_ok-first.ensures in
    let p = err_from_is_err_and c.from_residual-in_err-second.result c.from_residual-in_err-second.ensures.1 in
    rw (p.1, p.2) (plan_second _ _ _ (record { well = e.1; is_settled = e.2; filled = e.3 }) _ c.in_err-second.ensures)

pub returns-then-lent-xs : goal.returns-then-lent-xs
returns-then-lent-xs c =
    let e = c.in_ok-first.ensures in
    let f = c.in_ok-second.ensures in
    let x : c.keys-xs.result.now ≡ key_body c.args.a.now = rw e.0 at c.keys-xs.ensures in
    let y : c.keys-ys.result.now ≡ key_body c.args.b.now = rw f.0 at c.keys-ys.ensures in
    plan_short _ _ _ (record { well = e.1; is_settled = e.2; filled = e.3 }) (record { well = f.1; is_settled = f.2; filled = f.3 })
    (omega (arith, c.if-lent-xs.true, ap length x, ap length y, taken_count c.args.a.now e.1, taken_count c.args.b.now f.1))

pub returns : goal.returns
returns c =
    let e = c.in_ok-first.ensures in
    let f = c.in_ok-second.ensures in
    let x : c.keys-xs.result.now ≡ key_body c.args.a.now = rw e.0 at c.keys-xs.ensures in
    let y : c.keys-ys.result.now ≡ key_body c.args.b.now = rw f.0 at c.keys-ys.ensures in
    rw (c.count_reports.ensures, x, y)
    (plan_room _ _ _ (record { well = e.1; is_settled = e.2; filled = e.3 }) (record { well = f.1; is_settled = f.2; filled = f.3 })
    (omega (arith, c.if-lent-xs.false, ap length x, ap length y, taken_count c.args.a.now e.1, taken_count c.args.b.now f.1)))
