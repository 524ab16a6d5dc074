-- `chunk::beside::times_hold` meets its contract: where the ends rise, the lists of each part do where all its falls are at their starts, and the changes hold where they do beside each part.
use Prim.Native.Nat.{ℕ, suc, ◌-◌}
use mathlib.Core.Path.{◌≡◌, refl, sym, ◌∙◌}
use native.Mathlib.Omega.{arith}
use borrow.Author.Rules.{rules}
use borrow.Author.Tests.{eq-eqb, ne_eqb}
use Rattle.chunk.proofs.Tests.{and-false}
use Rattle.chunk.proofs.Parting.{next, falls_within, tested_more}
use Rattle.chunk.proofs.Looking.{tested_on, times_end}
use Rattle.chunk.proofs.beside.times_hold.Goals as goal

-- one less than a number that is one more
less_one : {m n : ℕ} → m ≡ suc n → m - 1 ≡ n
less_one h = omega arith

pub returns-then-not-ends_rise : goal.returns-then-not-ends_rise
returns-then-not-ends_rise c =
    let e = sym c.ends_rise.ensures ∙ c.if-not-ends_rise.true in
    sym (simp (e, and-false))

pub loop-part-init : goal.loop-part-init
loop-part-init c =
    let s = c.chunks-part-items.ensures in
    let e = sym c.ends_rise.ensures ∙ c.if-not-ends_rise.false in
    rw c.into_iter-part-iterator.ensures.into_iter_gives (record { sized = omega (arith, s.size); rise = rw s.rest e; whole = rw s.rest }, refl)

pub look-seen-requires : goal.look-seen-requires
look-seen-requires c =
    let u = next c.next.new.self c.in-Some.part c.loop-part.invariant.0 c.in-Some.ensures.steps in
    let w = c.requires in
    record { alike = w.0; few = w.1; some = u.higher; within = u.within }

pub overflow_sub-seen : goal.overflow_sub-seen
overflow_sub-seen c = omega (arith, c.look-seen.ensures.falls)

pub slice_bounds-falls_at-end : goal.slice_bounds-falls_at-end
slice_bounds-falls_at-end c = let u = next c.next.new.self c.in-Some.part c.loop-part.invariant.0 c.in-Some.ensures.steps in search rules

pub falls_at-requires : goal.falls_at-requires
falls_at-requires c = (next c.next.new.self c.in-Some.part c.loop-part.invariant.0 c.in-Some.ensures.steps).ahead

pub returns-then-seen-falls_at : goal.returns-then-seen-falls_at
returns-then-seen-falls_at c =
    let e = sym c.ends_rise.ensures ∙ c.if-not-ends_rise.false in
    let f = falls_within c.next.new.self c.in-Some.part c.loop-part.invariant.0 c.in-Some.ensures.steps (simp (less_one c.look-seen.ensures.falls, c.falls_at.ensures) at (ne_eqb _ _ c.if-seen-falls_at.true)) in
    sym (simp (e, f, and-false))

pub loop-part-preserved : goal.loop-part-preserved
loop-part-preserved c = (
  tested_more c.next.new.self c.in-Some.part c.loop-part.invariant.0 c.in-Some.ensures.steps (simp (less_one c.look-seen.ensures.falls, c.falls_at.ensures) at (eq-eqb _ _ c.if-seen-falls_at.false)),
  tested_on _ c.loop-part.good _ _ _ c.loop-part.invariant.1 c.look-seen.ensures.changes,
)

pub returns : goal.returns
returns c =
    let l = c.loop-part in
    let a = c.args in
    times_end a.time_ends.now a.times.now a.diff_ends.now a.diffs.now l.good l.reach l.part-iterator l.low c.requires.0 c.requires.1 c.in-None.ensures.steps.1.0
    (sym c.ends_rise.ensures ∙ c.if-not-ends_rise.false) l.invariant.0 l.invariant.1
