-- `survey::survey` meets its contract: `plan` says how many reports there are, and each turn stores the next of them.
use mathlib.Core.Path.{◌≡◌, sym, ◌∙◌, ap}
use mathlib.Core.List.{List, ◌++◌}
use native.Mathlib.Omega.{arith}
use lib.ListN.{length, drop, length-take}
use Rattle.std.proofs.lemmas.Result.{err_from_is_err_and}
use Rattle.reports.specs.Survey.{reports}
use Rattle.survey.specs.declared.Report.{Report}
use Rattle.survey.proofs.Fills.{fill_start, fill_next, fill_more, fill_end, told, untouched}
use Rattle.survey.proofs.survey.Goals as goal

pub returns-in_err-count : goal.returns-in_err-count
returns-in_err-count c =
    let p = err_from_is_err_and c.from_residual.result c.from_residual.ensures.1 in
    rw (p.1, p.2) (c.in_err-count.ensures, untouched _ _ _ _ c.in_err-count.ensures)

pub slice_bounds-report-items-end : goal.slice_bounds-report-items-end
slice_bounds-report-items-end c = (told _ _ _ _ c.in_ok-count.ensures).room

pub slice_bounds-report-items-end-2 : goal.slice_bounds-report-items-end-2
slice_bounds-report-items-end-2 c =
    let t = told _ _ _ _ c.in_ok-count.ensures in
    omega (arith, t.room, length-take c.in_ok-count.count c.args.reports.now)

pub loop-report-init : goal.loop-report-init
loop-report-init c =
    let t = told _ _ _ _ c.in_ok-count.ensures in
    let e : length (reports c.keys-xs.result.now c.keys-ys.result.now) ≡ c.in_ok-count.count = rw (c.keys-xs.ensures, c.keys-ys.ensures) t.counted_keys in
    fill_start _ _ _ (omega (arith, e, t.room, length-take c.in_ok-count.count c.args.reports.now))

pub unwrap-next-requires : goal.unwrap-next-requires
unwrap-next-requires c = rw c.next_in.ensures (fill_next _ _ _ _ _ c.loop-report.invariant (omega arith))

pub loop-report-preserved : goal.loop-report-preserved
loop-report-preserved c = fill_more _ _ _ _ _ c.loop-report.invariant _ (sym c.unwrap-next.ensures ∙ c.next_in.ensures) (omega arith)

pub returns : goal.returns
returns c =
    let t = told _ _ _ _ c.in_ok-count.ensures in
    let rest : List Report = drop c.in_ok-count.count c.args.reports.now in (
      c.in_ok-count.ensures,
      ap (λ (l : List Report). l ++ rest) (fill_end _ _ _ _ _ c.loop-report.invariant (omega arith))
          ∙ rw (c.keys-xs.ensures, c.keys-ys.ensures) t.filled,
    )
