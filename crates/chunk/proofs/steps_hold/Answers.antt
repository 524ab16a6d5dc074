-- `chunk::steps_hold` meets its contract: both tests are what was found so far, and the tests of what is left.
use Prim.Native.Nat.{ℕ}
use mathlib.Core.Path.{◌≡◌, sym, ◌∙◌, ap}
use mathlib.Core.Bool.{Bool, ◌&&◌}
use native.Mathlib.Omega.{arith}
use lib.ListN.{length, drop}
use Rattle.chunk.specs.Words.{ends_step}
use Rattle.chunk.proofs.Stepping.{to_last, changed_more, changed_end}
use Rattle.chunk.proofs.steps_hold.Goals as goal

pub loop-i-preserved : goal.loop-i-preserved
loop-i-preserved c =
    let l = c.loop-i in
    let a = c.args in
    let e = c.requires in
    let h = c.loop-i-test.true in
    rw c.steps.ensures (l.invariant ∙ changed_more l.good a.ends.now a.diffs.now l.low l.i (length a.diffs.now) (omega arith) h)

pub returns : goal.returns
returns c =
    let l = c.loop-i in
    let a = c.args in
    let k : l.i ≡ length a.diffs.now = omega (arith, c.loop-i-test.false) in
    ap (λ (b : Bool). l.good && b) (simp (to_last (length a.diffs.now) a.ends.now) at c.ends_near.ensures)
    ∙ ap (λ (i : ℕ). l.good && ends_step l.low (drop i a.ends.now) (length a.diffs.now)) (sym k)
    ∙ sym (l.invariant ∙ changed_end l.good a.ends.now a.diffs.now l.low l.i (length a.diffs.now) c.loop-i-test.false)
