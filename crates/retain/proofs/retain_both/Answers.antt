-- `retain::retain_both` meets its contract: by how many are open.
use Prim.Native.Nat.{ℕ, ◌-◌}
use mathlib.Core.Path.{◌≡◌, sym, ◌∙◌}
use native.Mathlib.Omega.{arith}
use Rattle.retain.specs.Frontier.{is_open}
use Rattle.retain.specs.Keep.{is_shut}
use Rattle.retain.proofs.Whole.{whole_chunk, no_chunk}
use Rattle.retain.proofs.retain_both.Goals as goal

none_left : (n all : ℕ) → n ≡ all → all - n ≡ 0
none_left n all e = omega arith

all_left : (n all : ℕ) → n ≡ 0 → all - n ≡ all
all_left n all e = omega arith

pub returns-then-open-all : goal.returns-then-open-all
returns-then-open-all c =
    let h = c.args.chunk in
    let q = c.requires in
    let e = c.if-open-all.true in (
      c.copy_into.ensures ∙ whole_chunk (is_open c.args.corners.times.now) h.words.now q.sound.0 c.args.kept.now _ (sym q.counted.0 ∙ e ∙ h.placed.time_count) c.whole.ensures h.placed.within q.room.0,
      c.write_table.ensures ∙ no_chunk (is_shut c.args.corners.times.now) h.words.now q.sound.0 c.args.shipped.now (sym q.counted.1.1 ∙ none_left _ _ e) (omega (arith, q.room.1)),
    )

pub returns-then-open-eq0 : goal.returns-then-open-eq0
returns-then-open-eq0 c =
    let h = c.args.chunk in
    let q = c.requires in
    let e = c.if-open-eq0.true in (
      c.write_table-then-open-eq0.ensures ∙ no_chunk (is_open c.args.corners.times.now) h.words.now q.sound.0 c.args.kept.now (sym q.counted.0 ∙ e) (omega (arith, q.room.0)),
      c.copy_into-then-open-eq0.ensures ∙ whole_chunk (is_shut c.args.corners.times.now) h.words.now q.sound.0 c.args.shipped.now _ (sym q.counted.1.1 ∙ all_left _ _ e ∙ h.placed.time_count) c.whole-then-open-eq0.ensures h.placed.within q.room.1,
    )

pub retain_items-requires : goal.retain_items-requires
retain_items-requires c = let q = c.requires in record { formed = q.sound.0; room = q.room.0; counted = (q.counted.0, c.both_of-left.ensures.open_lists) }

pub retain_items-requires-2 : goal.retain_items-requires-2
retain_items-requires-2 c = let q = c.requires in record { formed = q.sound.0; room = q.room.1; counted = (q.counted.1.1, c.both_of-left.ensures.shut_lists) }
