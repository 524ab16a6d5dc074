-- `chunk::beside::look_settled` meets its contract: the falls are those counted so far and those of the times left, and so are the ends and the diffs tested.
use mathlib.Core.Path.{◌≡◌, refl, sym}
use native.Mathlib.Omega.{arith}
use Rattle.chunk.proofs.Looking.{Marked, looked_starts, looked_turn, looked_end, marked_turn, marked_end}
use Rattle.chunk.proofs.beside.look_settled.Goals as goal

pub loop-i-init : goal.loop-i-init
loop-i-init c = let w = c.requires.0 in (looked_starts w.within w.some, record { marks = refl; stands = refl })

pub loop-i-preserved : goal.loop-i-preserved
loop-i-preserved c =
    let l = c.loop-i in
    let w = c.requires.0 in
    let h = c.loop-i-test.true in
    let n = w.within in
    let e = w.alike in
    (looked_turn n l.invariant.0 c.fall_of-fell.result h c.fall_of-fell.ensures, marked_turn c.requires.1 l.invariant.1 (omega arith))

pub returns : goal.returns
returns c =
    let l = c.loop-i in
    let a = c.args in
    let w = c.requires.0 in
    let n = w.within in
    let e = w.alike in
    let s = w.some in
    let q : l.i ≡ a.high = omega (arith, l.invariant.0.within, c.loop-i-test.false) in
    let m : Marked a.ends.now a.diffs.now a.low l.wrong l.good a.high = rw (sym q) l.invariant.1 in
    record { falls = looked_end n l.invariant.0 c.loop-i-test.false; changes = marked_end c.requires.1 m (omega arith) (omega arith) }
