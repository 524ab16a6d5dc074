-- `retain::sides::count_both` meets its contract: the keys and values before the next are counted, on either side.
use mathlib.Core.Path.{refl, sym}
use native.Mathlib.Omega.{arith}
use lib.ListN.{get_or}
use Rattle.retain.proofs.Counts.{listed_start, listed_room, listed_next, listed_end, start_counts, start_next}
use Rattle.retain.proofs.Stairs.{as_bit}
use Rattle.retain.proofs.Steps.{start_before}
use Rattle.retain.proofs.Parting.{end_within}
use Rattle.retain.proofs.sides.count_both.Goals as goal

pub loop-upper-init : goal.loop-upper-init
loop-upper-init c = let r = c.requires.1.rise in (listed_start _ _ r, listed_start _ _ r, refl, refl)

pub both_values-left-requires : goal.both_values-left-requires
both_values-left-requires c =
    let a = c in
    let l = c.loop-upper in
    let t = c.loop-upper-test.true in
    let e = end_within _ _ l.upper-index l.lower a.requires.1 t l.invariant.2 in
    (a.requires.0, (e.1, l.invariant.3))

pub overflow_add-open-in-loop-upper : goal.overflow_add-open-in-loop-upper
overflow_add-open-in-loop-upper c =
    let a = c in
    let l = c.loop-upper in
    let t = c.loop-upper-test.true in
    let e = end_within _ _ l.upper-index l.lower a.requires.1 t l.invariant.2 in
    let r = listed_room _ _ _ _ l.upper-index l.invariant.0 t _ (start_counts _ _ l.upper-index l.lower _ l.invariant.2 c.both_values-left.ensures.open_values) in
    omega (arith, e, r, a.well_formed.1.1.1.0)

pub overflow_add-shut-in-loop-upper : goal.overflow_add-shut-in-loop-upper
overflow_add-shut-in-loop-upper c =
    let a = c in
    let l = c.loop-upper in
    let t = c.loop-upper-test.true in
    let e = end_within _ _ l.upper-index l.lower a.requires.1 t l.invariant.2 in
    let r = listed_room _ _ _ _ l.upper-index l.invariant.1 t _ (start_counts _ _ l.upper-index l.lower _ l.invariant.2 c.both_values-left.ensures.shut_values) in
    omega (arith, e, r, a.well_formed.1.1.1.0)

pub loop-upper-preserved : goal.loop-upper-preserved
loop-upper-preserved c =
    let a = c in
    let l = c.loop-upper in
    let t = c.loop-upper-test.true in
    let e = end_within _ _ l.upper-index l.lower a.requires.1 t l.invariant.2 in
    let v = c.both_values-left.ensures in (
      listed_next _ _ _ _ l.upper-index l.invariant.0 t _ (start_counts _ _ l.upper-index l.lower _ l.invariant.2 v.open_values) _ (as_bit _),
      listed_next _ _ _ _ l.upper-index l.invariant.1 t _ (start_counts _ _ l.upper-index l.lower _ l.invariant.2 v.shut_values) _ (as_bit _),
      start_next _ l.upper-index,
      sym (start_before _ (get_or a.args.val_ends.now l.upper-index 0) (λ z. omega arith)),
    )

pub returns : goal.returns
returns c = let w = c.loop-upper.invariant in record { open_lists = listed_end _ _ _ _ _ w.0 c.loop-upper-test.false; shut_lists = listed_end _ _ _ _ _ w.1 c.loop-upper-test.false }
