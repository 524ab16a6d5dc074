-- `walk::Ends::to_key` meets its contract: a turn leaves the loop's answer what it was, and less is left to turn to.
use mathlib.Core.Path.{sym, ◌∙◌, ap}
use borrow.Author.Tests.{lt-ltb, le-ltb}
use Rattle.walk.specs.Walk.{to_key}
use Rattle.walk.specs.Answer.{place_of, reached_by}
use Rattle.walk.proofs.Turns.{stays, goes_on, ends}
use Rattle.walk.proofs.Counts.{key_loop}
use Rattle.walk.proofs.Ends.to_key.Goals as goal

pub returns-in_err-p : goal.returns-in_err-p
unfolding to_key
returns-in_err-p c =
    let l = c.loop-p in
    let a = c.args.self in
    c.from_residual.ensures ∙ ap reached_by (sym (l.invariant ∙ ends (key_loop a.vals.now) l.p (le-ltb _ _ c.loop-p-test.true) c.in_err-p.ensures))

pub loop-p-preserved : goal.loop-p-preserved
unfolding to_key
loop-p-preserved c =
    let l = c.loop-p in
    let a = c.args.self in
    l.invariant ∙ goes_on (key_loop a.vals.now) l.p c.in_ok-p.p (le-ltb _ _ c.loop-p-test.true) c.in_ok-p.ensures

pub returns : goal.returns
unfolding to_key
returns c =
    let l = c.loop-p in
    let a = c.args.self in
    ap reached_by (sym (l.invariant ∙ stays (key_loop a.vals.now) (place_of l.p) (lt-ltb _ _ c.loop-p-test.false)))
