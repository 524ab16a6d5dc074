-- `retain::layers::write_layers` meets its contract: what is written of the keys, the values and the times, with what is left to write, is the whole.
use mathlib.Core.Path.{refl, ◌∙◌}
use native.Mathlib.Omega.{arith}
use Prim.Native.Nat.{◌+◌, ◌-◌}
use lib.ListN.{length}
use Rattle.meld.proofs.Copy.{put_count}
use Rattle.retain.proofs.Stairs.{as_bit}
use Rattle.retain.proofs.Weaving.{put_rest, layers_start, layers_within, next_values, layers_next, layers_end}
use Rattle.retain.proofs.layers.write_layers.Goals as goal

pub loop-at-init : goal.loop-at-init
loop-at-init c = record { within = omega arith; layering = layers_start _ _ _ _ _ _ _ _ _ _ _ c.args.source.together _ c.requires.left c.requires.room }

pub bounds-source-i : goal.bounds-source-i
bounds-source-i c =
    let b = c.args.source.together in
    let l = c.loop-at in
    omega (arith, b.over_vals.rows, layers_within _ _ _ _ _ _ _ _ _ _ _ b _ _ _ _ _ _ l.i l.invariant.layering c.loop-at-test.true)

pub write_values-reached-requires-clause-range : goal.write_values-reached-requires-clause-range
write_values-reached-requires-clause-range c = let l = c.loop-at in next_values _ _ _ _ _ _ _ _ _ _ _ c.args.source.together _ _ _ _ _ _ l.i l.invariant.layering c.loop-at-test.true

pub bounds-source-i-in-loop-at : goal.bounds-source-i-in-loop-at
bounds-source-i-in-loop-at c = let l = c.loop-at in layers_within _ _ _ _ _ _ _ _ _ _ _ c.args.source.together _ _ _ _ _ _ l.i l.invariant.layering c.loop-at-test.true

pub loop-at-smaller : goal.loop-at-smaller
loop-at-smaller c = let l = c.loop-at in omega (arith, layers_within _ _ _ _ _ _ _ _ _ _ _ c.args.source.together _ _ _ _ _ _ l.i l.invariant.layering c.loop-at-test.true)

pub loop-at-preserved : goal.loop-at-preserved
loop-at-preserved c =
    let b = c.args.source.together in
    let l = c.loop-at in
    let w = l.invariant.layering in
    let t = c.loop-at-test.true in
    let h = layers_within _ _ _ _ _ _ _ _ _ _ _ b _ _ _ _ _ _ l.i w t in
    let r = c.write_values-reached in
    let k = c.args.lists.keys + c.args.lists.keys in
    let p = put_rest l.out r.new.out k (length l.out - k) (omega (arith, w.size)) (omega arith) (omega (arith, w.size, r.ensures.size)) in
    record { within = omega arith; layering = layers_next _ _ _ _ _ _ _ _ _ _ _ b l.out _ _ _ _ _ _ l.at l.i _ _ _ _ w t p.1.1 p.0 (rw p.1.0 r.ensures) (as_bit _) refl }

pub returns : goal.returns
returns c =
    let l = c.loop-at in
    let w = l.invariant.layering in
    put_count _ _ c.args.nt l.out _ (omega (arith, c.ranges.nt)) refl (omega (arith, w.size)) c.count_on.ensures
    ∙ layers_end _ _ _ _ _ _ _ _ _ _ _ c.args.source.together l.out _ _ _ _ l.at l.i _ w l.invariant.within c.loop-at-test.false (omega arith)
