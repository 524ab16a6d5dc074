-- `chunk::beside::look_stepping` meets its contract: the falls are those counted so far and those of the times left, and so are the changes tested, first with diffs and then without.
use mathlib.Core.Path.{◌≡◌, refl, sym, ◌∙◌}
use native.Mathlib.Omega.{arith}
use lib.ListN.{length}
use Rattle.std.proofs.lemmas.Int.{clamps}
use Rattle.chunk.proofs.Stepping.{changed_more}
use Rattle.chunk.proofs.Looking.{looked_starts, looked_turn, looked_end, stepped_beside}
use Rattle.chunk.proofs.beside.look_stepping.Goals as goal

pub loop-i-init : goal.loop-i-init
loop-i-init c =
    (looked_starts c.requires.within c.requires.some, refl)

pub loop-i-preserved : goal.loop-i-preserved
loop-i-preserved c =
    let l = c.loop-i in
    let a = c.args in
    let h = c.loop-i-test.true in
    let n = c.requires.within in
    let e = c.requires.alike in
    let m = c.clamp-both.ensures in (
      looked_turn n l.invariant.0 c.fall_of-fell.result (omega (arith, clamps)) c.fall_of-fell.ensures,
      rw c.steps.ensures (l.invariant.1 ∙ changed_more l.good a.ends.now a.diffs.now l.end l.i (length a.diffs.now) (omega (arith, clamps)) (omega (arith, clamps))),
    )

pub loop-i-2-init : goal.loop-i-2-init
loop-i-2-init c =
    let q : c.loop-i.i ≡ c.clamp-both.result = omega (arith, clamps, c.clamp-both.ensures, c.loop-i-test.false) in
    rw (sym q) c.loop-i.invariant

pub loop-i-2-preserved : goal.loop-i-2-preserved
loop-i-2-preserved c =
    let l = c.loop-i-2 in
    let a = c.args in
    let h = c.loop-i-2-test.true in
    let n = c.requires.within in
    let e = c.requires.alike in (
      looked_turn n l.invariant.0 c.fall_of-fell-in-loop-i-2.result h c.fall_of-fell-in-loop-i-2.ensures,
      rw c.steps-good.ensures (l.invariant.1 ∙ stepped_beside l.good a.ends.now a.diffs.now l.end l.i (length a.diffs.now) (omega arith) (omega (arith, clamps))),
    )

pub returns : goal.returns
returns c =
    let l = c.loop-i-2 in
    let a = c.args in
    let q : l.i ≡ a.high = omega (arith, l.invariant.0.within, c.loop-i-2-test.false) in
    record {
      falls = looked_end c.requires.within l.invariant.0 c.loop-i-2-test.false;
      changes = rw (sym q) l.invariant.1;
    }
