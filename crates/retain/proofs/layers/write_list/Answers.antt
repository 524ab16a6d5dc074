-- `retain::layers::write_list` meets its contract: what is written of the times, with what is left to write, is the whole.
use Prim.Native.Nat.{◌*◌}
use mathlib.Core.Path.{sym, ◌∙◌, ap}
use native.Mathlib.Omega.{arith}
use native.Mathlib.Numerals.{add-one}
use Rattle.chunk.specs.Contents.{start_of}
use Rattle.laws.proofs.Tests.{and_left}
use Rattle.retain.proofs.Leaving.{leaving_within, leaving_diff, leaving_next, leaving_done}
use Rattle.retain.proofs.Stairs.{bit_one}
use Rattle.retain.proofs.Steps.{end_bit, bit_and}
use Rattle.retain.proofs.Counts.{range_lower}
use Rattle.retain.proofs.layers.write_list.Goals as goal

pub loop-i-init : goal.loop-i-init
loop-i-init c =
    let s = c.args.source in
    let q = c.requires in
    record { lower = range_lower _ c.args.from _ c.child_range-list.ensures (omega (arith, s.together.time_rows, q.range.0, q.range.1)); leaving = q.leaving }

pub returns-then-n-at : goal.returns-then-n-at
returns-then-n-at c = let l = c.loop-i in leaving_done _ _ _ _ _ _ _ l.i c.args.to l.invariant.leaving c.if-n-at.true (omega (arith, c.loop-i-test.true)) c.requires.range.1

pub offset_bounds-source-lower : goal.offset_bounds-source-lower
offset_bounds-source-lower c =
    let s = c.args.source in
    let l = c.loop-i in
    let d = leaving_diff _ _ _ _ _ _ _ l.i l.invariant.leaving c.if-n-at.false s.together.time_rows s.together.diffs_step s.together.diffs_within (λ k q. and_left _ _ q) in
    omega (arith, d, l.invariant.lower, c.well_formed)

pub bounds-source-lower : goal.bounds-source-lower
bounds-source-lower c =
    let s = c.args.source in
    let l = c.loop-i in
    let d = leaving_diff _ _ _ _ _ _ _ l.i l.invariant.leaving c.if-n-at.false s.together.time_rows s.together.diffs_step s.together.diffs_within (λ k q. and_left _ _ q) in
    omega (arith, d, l.invariant.lower)

pub overflow_add-at : goal.overflow_add-at
overflow_add-at c =
    let s = c.args.source in
    let l = c.loop-i in
    let h = leaving_within _ _ _ _ _ _ _ l.i l.invariant.leaving c.if-n-at.false in
    let b = end_bit _ l.i _ s.together.diffs_step (omega (arith, h, s.together.time_rows)) l.invariant.lower in
    let q = (λ j. b.1 j * c.bit-stays.ensures j) ∙ bit_and _ _ in
    let o = bit_one _ _ q in
    omega (arith, o, c.if-n-at.false, l.invariant.leaving.room, c.well_formed)

pub loop-i-preserved : goal.loop-i-preserved
loop-i-preserved c =
    let s = c.args.source in
    let l = c.loop-i in
    let v = l.invariant in
    let h = leaving_within _ _ _ _ _ _ _ l.i v.leaving c.if-n-at.false in
    let b = end_bit _ l.i _ s.together.diffs_step (omega (arith, h, s.together.time_rows)) v.lower in
    let q = (λ j. b.1 j * c.bit-stays.ensures j) ∙ bit_and _ _ in
    record { lower = ap (start_of s.diff_ends.now) (sym (add-one l.i)); leaving = leaving_next _ _ _ _ _ _ _ l.i _ _ v.leaving c.if-n-at.false v.lower q }
