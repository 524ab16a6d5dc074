-- `retain::climb::add_corner` meets its contract: what stands after the move are the corners with the time among them.
use Prim.Native.Nat.{ℕ, ◌+◌, ◌-◌}
use mathlib.Core.Path.{◌≡◌, sym, subst, ◌∙◌}
use mathlib.Core.List.{List}
use native.Mathlib.Omega.{arith}
use borrow.Rule.Slice.PartMut.{put_mid}
use Rattle.retain.specs.Found.{Joined}
use lib.ListN.{length, take, drop, set, replicate}
use Rattle.retain.proofs.Spots.{standing-length, joined_full, joined_on, joined_in_place, joined_back}
use Rattle.retain.proofs.climb.add_corner.Goals.{then-end-at, else-end-at}
use Rattle.retain.proofs.climb.add_corner.Goals as goal

pub invariant_of-so_far : goal.invariant_of-so_far
invariant_of-so_far c = record { in_order = c.requires.0.stairs }

pub slice_bounds-so_far-end-2 : goal.slice_bounds-so_far-end-2
slice_bounds-so_far-end-2 c = sym (standing-length _ _ c.requires.0)

pub slice_bounds-run_end-end-2 : goal.slice_bounds-run_end-end-2
slice_bounds-run_end-end-2 c = sym (standing-length _ _ c.requires.0)

pub returns-then-top-count : goal.returns-then-top-count
returns-then-top-count c =
    let a = c in
    let t : ℕ = c.args.count - c.run_end-end.result + c.first_at-at.result + 1 in
    let P : List ℕ → Type 0 = λ l. (new : List ℕ) → new ≡ replicate (length (take (a.args.count - t) (drop t (set l c.first_at-at.result a.args.t)))) 0
    → Joined a.args.t (take a.args.count a.args.corners.now) t (put_mid t (a.args.count - t) (set l c.first_at-at.result a.args.t) new) in
    let shorter = c.if-top-count.true in
    elim c.if-end-at.branch [
      | then-end-at w ↦
          subst P (sym (w.corners-is ∙ w.copy_within.ensures.after)) (joined_back _ a.args.count a.requires.0 a.args.t _ _ c.first_at-at.ensures c.run_end-end.ensures a.requires.1 c.if-top-gt-MOST.false (omega (arith, shorter))) _ (c.fill.ensures.after (λ y q. q))
      | else-end-at w ↦ let same = w.if-end-at.false in absurd (omega (arith, same, shorter))
    ]

pub returns-else-top-count : goal.returns-else-top-count
returns-else-top-count c =
    let a = c in
    let all = c.if-top-count.false in
    elim c.if-end-at.branch [
      | then-end-at w ↦ rw (w.corners-is ∙ w.copy_within.ensures.after) (joined_on _ a.args.count a.requires.0 a.args.t _ _ c.first_at-at.ensures c.run_end-end.ensures a.requires.1 c.if-top-gt-MOST.false (omega (arith, all)))
      | else-end-at w ↦ rw w.corners-is (joined_in_place _ a.args.count a.requires.0 a.args.t _ _ c.first_at-at.ensures c.run_end-end.ensures a.requires.1 c.if-top-gt-MOST.false w.if-end-at.false)
    ]

pub returns-then-top-gt-MOST : goal.returns-then-top-gt-MOST
returns-then-top-gt-MOST c = let a = c in joined_full _ a.args.count a.requires.0 a.args.t _ _ c.first_at-at.ensures c.run_end-end.ensures a.requires.1 c.if-top-gt-MOST.true _
