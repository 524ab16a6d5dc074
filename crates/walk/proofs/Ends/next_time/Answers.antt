-- `walk::Ends::next_time` meets its contract: where there is no next time, its end is past the body, whatever its value.
use mathlib.Core.Path.{sym, ◌∙◌, ap}
use native.Mathlib.Omega.{arith}
use Rattle.walk.specs.Answer.{place_of, reached_by}
use Rattle.walk.proofs.Counts.{time_past}
use Rattle.walk.proofs.Ends.next_time.Goals as goal

pub returns-in_err-t : goal.returns-in_err-t
returns-in_err-t c =
    let a = c.args.self in
    c.from_residual.ensures ∙ ap reached_by (sym (time_past a.vals.now a.times.now a.diffs.now (place_of c.args.w) (omega (arith, c.in_err-t.ensures))))

pub returns-then-self-t : goal.returns-then-self-t
returns-then-self-t c =
    let a = c.args.self in
    ap reached_by (sym (time_past a.vals.now a.times.now a.diffs.now (place_of c.args.w) (omega (arith, c.in_ok-t.ensures, c.if-self-t.true))))
