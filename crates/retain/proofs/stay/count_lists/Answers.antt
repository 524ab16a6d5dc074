-- `retain::stay::count_lists` meets its contract: what is counted and what is left to count is the count of all.
use Prim.Native.Nat.{ℕ, ◌+◌, ◌-◌}
use mathlib.Core.Path.{◌≡◌, refl, ◌∙◌, ap}
use native.Mathlib.Omega.{arith}
use lib.ListN.{get_or}
use Rattle.chunk.specs.Contents.{start_of}
use Rattle.retain.proofs.Counts.{listed_start, listed_room, listed_next, listed_end, start_counts, start_next}
use Rattle.retain.proofs.Stairs.{as_bit}
use Rattle.retain.proofs.Parting.{end_within, reach_next}
use Rattle.retain.proofs.stay.count_lists.Goals as goal

pub loop-upper-init : goal.loop-upper-init
loop-upper-init c = let r = c.requires.1.1.rise in (listed_start _ _ r, refl, refl)

pub count_values-left-requires : goal.count_values-left-requires
count_values-left-requires c = let a = c in let l = c.loop-upper in let t = c.loop-upper-test.true in let e = end_within _ _ l.upper-index l.lower a.requires.1.1 t l.invariant.1 in record { ends_step = (a.requires.0, a.requires.1.0); to_in_bounds = (e.1, l.invariant.2) }

pub overflow_add-vals : goal.overflow_add-vals
overflow_add-vals c = let a = c in let l = c.loop-upper in let t = c.loop-upper-test.true in let e = end_within _ _ l.upper-index l.lower a.requires.1.1 t l.invariant.1 in let r = listed_room _ _ _ _ l.upper-index l.invariant.0 t _ (start_counts _ _ l.upper-index l.lower _ l.invariant.1 c.count_values-left.ensures) in omega (arith, e.1, a.well_formed)

pub loop-upper-preserved : goal.loop-upper-preserved
loop-upper-preserved c = let a = c in let l = c.loop-upper in let t = c.loop-upper-test.true in let e = end_within _ _ l.upper-index l.lower a.requires.1.1 t l.invariant.1 in let u = get_or a.args.val_ends.now l.upper-index 0 in let d = end_within _ _ (u - 1) _ a.requires.1.0 (omega (arith, e.0, e.1)) refl in let z : u - 1 + 1 ≡ u = omega (arith, e.0) in (listed_next _ _ _ _ l.upper-index l.invariant.0 t _ (start_counts _ _ l.upper-index l.lower _ l.invariant.1 c.count_values-left.ensures) _ (as_bit _), start_next _ l.upper-index, reach_next _ _ a.requires.0 a.requires.1.0 (u - 1) _ (omega (arith, e.0, e.1)) refl ∙ ap (λ (n : ℕ). start_of a.args.diff_ends.now (start_of a.args.time_ends.now n)) z)

pub returns : goal.returns
returns c = listed_end _ _ _ _ _ c.loop-upper.invariant.0 c.loop-upper-test.false
