-- `walk::Ends::to_val` meets its contract: a turn leaves the loop's answer what it was, and less is left to turn to.
use mathlib.Core.Path.{sym, ◌∙◌, ap}
use borrow.Author.Tests.{lt-ltb, le-ltb}
use Rattle.walk.specs.Walk.{to_val}
use Rattle.walk.specs.Answer.{place_of, reached_by}
use Rattle.walk.proofs.Turns.{stays, goes_on, less_left, ends}
use Rattle.walk.proofs.Counts.{val_loop}
use Rattle.walk.proofs.Ends.to_val.Goals as goal

pub returns-in_err-p : goal.returns-in_err-p
unfolding to_val
returns-in_err-p c =
    let l = c.loop-p in
    let a = c.args.self in
    c.from_residual.ensures ∙ ap reached_by (sym (l.invariant ∙ ends (val_loop a.vals.now a.times.now) l.p (le-ltb _ _ c.loop-p-test.true) c.in_err-p.ensures))

pub loop-p-smaller : goal.loop-p-smaller
loop-p-smaller c =
    let a = c.args.self in
    less_left (val_loop a.vals.now a.times.now) c.loop-p.p c.in_ok-p.p (le-ltb _ _ c.loop-p-test.true) c.in_ok-p.ensures

pub loop-p-preserved : goal.loop-p-preserved
unfolding to_val
loop-p-preserved c =
    let l = c.loop-p in
    let a = c.args.self in
    l.invariant ∙ goes_on (val_loop a.vals.now a.times.now) l.p c.in_ok-p.p (le-ltb _ _ c.loop-p-test.true) c.in_ok-p.ensures

pub returns : goal.returns
unfolding to_val
returns c =
    let l = c.loop-p in
    let a = c.args.self in
    ap reached_by (sym (l.invariant ∙ stays (val_loop a.vals.now a.times.now) (place_of l.p) (lt-ltb _ _ c.loop-p-test.false)))
