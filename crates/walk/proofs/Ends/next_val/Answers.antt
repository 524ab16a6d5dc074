-- `walk::Ends::next_val` meets its contract: where there is no next value, its end is past the body, whatever its key.
use mathlib.Core.Path.{sym, ◌∙◌, ap}
use native.Mathlib.Omega.{arith}
use Rattle.walk.specs.Answer.{place_of, reached_by}
use Rattle.walk.proofs.Counts.{val_past}
use Rattle.walk.proofs.Ends.next_val.Goals as goal

pub returns-in_err-v : goal.returns-in_err-v
returns-in_err-v c =
    let a = c.args.self in
    c.from_residual.ensures ∙ ap reached_by (sym (val_past a.vals.now a.times.now (place_of c.args.w) (omega (arith, c.in_err-v.ensures))))

pub returns-then-self-v : goal.returns-then-self-v
returns-then-self-v c =
    let a = c.args.self in
    ap reached_by (sym (val_past a.vals.now a.times.now (place_of c.args.w) (omega (arith, c.in_ok-v.ensures, c.if-self-v.true))))
