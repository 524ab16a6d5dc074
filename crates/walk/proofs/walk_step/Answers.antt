-- `walk::walk_step` meets its contract: misfit, done, past and given are the definition's four ways.
use mathlib.Core.Path.{◌≡◌, sym, ◌∙◌, ap}
use native.Mathlib.Omega.{arith}
use Rattle.std.specs.Prelude.{Some, None}
use Rattle.std.proofs.lemmas.Result.{err_from_is_err_and}
use Rattle.chunk.proofs.Placed.{placed_by, found_in, unfit}
use Rattle.walk.specs.Answer.{place_of, stepped_by}
use Rattle.walk.proofs.Ways.{step_misfit, step-done, step_reads, read_none, read_some}
use Rattle.walk.proofs.walk_step.Goals as goal

pub returns-in_err-contents : goal.returns-in_err-contents
returns-in_err-contents c =
    let n : c.read_contents.result ≡ None = grind arith in
    let p = err_from_is_err_and c.from_residual.result c.from_residual.ensures.1 in
    rw (p.1, p.2, step_misfit c.args.words.now (place_of c.args.w) (unfit _ (sym c.read_contents.ensures ∙ n))) (grind arith)

pub returns-then-contents-w : goal.returns-then-contents-w
returns-then-contents-w c =
    let w = c.args.words.now in
    let s : c.read_contents.result ≡ Some c.in_ok-contents.contents = grind arith in
    let e = sym c.read_contents.ensures ∙ s in
    ap stepped_by (sym (step-done w (place_of c.args.w) (found_in w _ e).fits (omega (arith, (placed_by w _ e).diff_count))))

pub invariant_of-next_record : goal.invariant_of-next_record
invariant_of-next_record c =
    let s : c.read_contents.result ≡ Some c.in_ok-contents.contents = grind arith in
    record { placed = placed_by _ _ (sym c.read_contents.ensures ∙ s) }

pub returns-in_err-given : goal.returns-in_err-given
returns-in_err-given c =
    let w = c.args.words.now in
    let s : c.read_contents.result ≡ Some c.in_ok-contents.contents = grind arith in
    let e = sym c.read_contents.ensures ∙ s in
    let n : c.next_record.result ≡ None = grind arith in
    let p = err_from_is_err_and c.from_residual-in_err-given.result c.from_residual-in_err-given.ensures.1 in
    rw (p.1, p.2, step_reads w (place_of c.args.w) (found_in w _ e).fits (omega (arith, c.if-contents-w.false, (placed_by w _ e).diff_count)))
    (grind arith ∙ read_none w _ (sym n ∙ c.next_record.ensures))

pub returns : goal.returns
returns c =
    let w = c.args.words.now in
    let s : c.read_contents.result ≡ Some c.in_ok-contents.contents = grind arith in
    let e = sym c.read_contents.ensures ∙ s in
    let g : c.next_record.result ≡ Some c.in_ok-given.given = grind arith in
    rw (step_reads w (place_of c.args.w) (found_in w _ e).fits (omega (arith, c.if-contents-w.false, (placed_by w _ e).diff_count)))
    (read_some _ _ (sym g ∙ c.next_record.ensures))
