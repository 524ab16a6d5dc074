-- `chunk::lists_rise` meets its contract: where the ends rise, the lists of each part do where all its falls are at their starts.
use Prim.Native.Nat.{◌≤◌}
use mathlib.Core.Path.{◌≡◌, sym, ◌∙◌}
use mathlib.Core.List.{[]}
use Rattle.std.specs.Slice.Iter.{chunks_rest}
use native.Mathlib.Omega.{arith}
use borrow.Author.Rules.{rules}
use borrow.Author.Tests.{eq-eqb, ne_eqb}
use lib.ListN.{length, drop_of_length-le}
use Rattle.chunk.specs.Entry.{every}
use Rattle.chunk.specs.Words.{lists}
use Rattle.chunk.proofs.Parting.{next, falls_within, tested_more}
use Rattle.chunk.proofs.lists_rise.Goals as goal

pub offset_bounds-items-low : goal.offset_bounds-items-low
offset_bounds-items-low c = let u = next c.next.new.self c.in-Some.part c.loop-part.invariant c.in-Some.ensures.steps in search rules

pub slice_bounds-falls-count : goal.slice_bounds-falls-count
slice_bounds-falls-count c = let u = next c.next.new.self c.in-Some.part c.loop-part.invariant c.in-Some.ensures.steps in search rules

pub slice_bounds-falls-start : goal.slice_bounds-falls-start
slice_bounds-falls-start c = let u = next c.next.new.self c.in-Some.part c.loop-part.invariant c.in-Some.ensures.steps in search rules

pub slice_bounds-falls-end : goal.slice_bounds-falls-end
slice_bounds-falls-end c = let u = next c.next.new.self c.in-Some.part c.loop-part.invariant c.in-Some.ensures.steps in search rules

pub slice_bounds-falls_at-end : goal.slice_bounds-falls_at-end
slice_bounds-falls_at-end c = let u = next c.next.new.self c.in-Some.part c.loop-part.invariant c.in-Some.ensures.steps in search rules

pub falls_at-requires : goal.falls_at-requires
falls_at-requires c = (next c.next.new.self c.in-Some.part c.loop-part.invariant c.in-Some.ensures.steps).ahead

pub returns-then-falls-falls_at : goal.returns-then-falls-falls_at
returns-then-falls-falls_at c =
    let e = sym c.ends_rise.ensures ∙ c.if-not-ends_rise.false in
    let f = falls_within c.next.new.self c.in-Some.part c.loop-part.invariant c.in-Some.ensures.steps (simp (c.falls.ensures, c.falls_at.ensures) at (ne_eqb _ _ c.if-falls-falls_at.true)) in
    sym (simp (e, f))

pub loop-part-preserved : goal.loop-part-preserved
loop-part-preserved c = tested_more c.next.new.self c.in-Some.part c.loop-part.invariant c.in-Some.ensures.steps (simp (c.falls.ensures, c.falls_at.ensures) at (eq-eqb _ _ c.if-falls-falls_at.false))

pub returns : goal.returns
unfolding every lists
returns c =
    let e = sym c.ends_rise.ensures ∙ c.if-not-ends_rise.false in
    let s = chunks_rest c.loop-part.part-iterator in
    let k : length s ≤ 0 = omega (arith, c.in-None.ensures.steps.1.0) in
    let n : s ≡ [] = drop_of_length-le s k in
    sym (simp (e, c.loop-part.invariant.whole, n))
