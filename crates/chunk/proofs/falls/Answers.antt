-- `chunk::falls` meets its contract: the falls are those counted so far and those of the items that are left.
use Prim.Native.Nat.{◌≤◌}
use mathlib.Core.Path.{◌≡◌, sym, ◌∙◌, ap}
use mathlib.Core.List.{[]}
use native.Mathlib.Omega.{arith}
use native.Mathlib.Nat.{zero-add, add-zero}
use lib.ListN.{length, get_or, drop_of_length-le}
use Rattle.chunk.specs.Falls.{falls_from, falls_of}
use Rattle.chunk.proofs.Falling.{once, turn}
use Rattle.chunk.proofs.falls.Goals as goal

pub returns-in_default : goal.returns-in_default
unfolding falls_of
returns-in_default c =
    let s = c.args.items.now in
    let k : length s ≤ 0 = omega (arith, c.in_default.ensures.cases) in
    let e : s ≡ [] = drop_of_length-le s k in
    sym (simp e)

pub loop-next-init : goal.loop-next-init
unfolding falls_of
loop-next-init c = (omega arith, ap falls_of c.in-Some.ensures.cases.0 ∙ sym (zero-add _))

pub loop-next-preserved : goal.loop-next-preserved
loop-next-preserved c =
    let l = c.loop-next in
    let s = c.in-Some.others.now in
    let o = once l.last (get_or s l.next-index 0) in
    let t = turn s l.last l.next-index c.loop-next-test.true in
    (omega arith, omega arith)

pub returns : goal.returns
unfolding falls_from
returns c = sym (c.loop-next.invariant.1 ∙ simp (drop_of_length-le c.in-Some.others.now c.loop-next-test.false, add-zero))
