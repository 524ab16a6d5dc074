-- `retain::layers::write_values` meets its contract: what is written of the values and their times, with what is left to write, is the whole.
use Prim.Native.Nat.{◌+◌, ◌-◌, ◌<◌}
use native.Mathlib.Omega.{arith}
use lib.Dec.{ltb}
use lib.ListN.{length}
use Rattle.retain.proofs.Weaving.{next_times, put_rest, woven_next, woven_past}
use Rattle.retain.proofs.Stairs.{as_bit}
use Rattle.retain.proofs.layers.write_values.Goals as goal
use Rattle.retain.proofs.layers.write_values.Goals.{then-at-nv, else-at-nv}

pub write_list-done-requires-clause-range : goal.write_list-done-requires-clause-range
write_list-done-requires-clause-range c = let l = c.loop-i in next_times _ _ _ _ _ _ c.args.source.together.over_times _ _ _ _ _ _ l.i l.invariant (omega (arith, c.loop-i-test.true, c.requires.range.1))

pub loop-i-preserved : goal.loop-i-preserved
loop-i-preserved c =
    let a = c.args in
    let l = c.loop-i in
    let v = l.invariant in
    let h : l.i < length a.source.vals.now = omega (arith, c.loop-i-test.true, c.requires.range.1) in
    let r = c.write_list-done in
    let o = a.source.together.over_times in
    let p = put_rest l.out r.new.out (a.nv + a.nv) (length l.out - (a.nv + a.nv)) (omega (arith, v.size)) (omega arith) (omega (arith, v.size, r.ensures.room)) in
    elim c.if-at-nv.branch [
      | then-at-nv w ↦ rw (w.out-is, as_bit (ltb l.total r.result)) (woven_next _ _ _ _ _ _ o _ _ l.out _ _ _ l.at l.i _ v h p.1.1 p.0 (rw p.1.0 r.ensures) w.if-at-nv.true)
      | else-at-nv w ↦ rw (w.out-is, as_bit (ltb l.total r.result)) (woven_past _ _ _ _ _ _ o _ _ l.out _ _ _ l.at l.i _ v h p.1.1 p.0 (rw p.1.0 r.ensures) w.if-at-nv.false)
    ]
