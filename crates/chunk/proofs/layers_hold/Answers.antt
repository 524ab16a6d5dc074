-- `chunk::layers_hold` meets its contract: each test that fails is one of the ten of a well formed slice, and the last leaves them all held.
use Prim.Native.Nat.{ℕ}
use mathlib.Core.Path.{◌≡◌, sym, ◌∙◌}
use mathlib.Core.Bool.{Bool, true, false, ◌&&◌}
use mathlib.Core.List.{List}
use native.Mathlib.Omega.{arith}
use borrow.Author.Tests.{le-leb}
use lib.ListN.{length}
use lib.Dec.{leb}
use Rattle.chunk.specs.declared.Contents.{Contents}
use Rattle.chunk.specs.Entry.{every}
use Rattle.chunk.specs.Words.{well_formed, nv, nt, nd, limit, table_size, size, ends_rise, ends_step, rises, lists, key_body, val_end_body, val_body, time_end_body, time_body, diff_end_body, diff_body}
use Rattle.chunk.specs.Contents.{Placed}
use Rattle.chunk.specs.Beside.{changes_hold}
use Rattle.chunk.specs.Rows.{Counted}
use Rattle.chunk.proofs.Tests.{by_test, true-not-false, and_left, and_right, and_both}
use Rattle.chunk.proofs.WellFormed.{whole, refuted}
use Rattle.chunk.proofs.Rowing.{alike}
use Rattle.chunk.proofs.Placed.{length_vals, length_times, length_diffs}
use Rattle.chunk.proofs.layers_hold.Goals as goal

no : {b : Bool} → b ≡ true → b ≡ false → ⊥
no h k = true-not-false (sym h ∙ k)

-- what each test says of a chunk
module _ (f : Contents) (w : List ℕ) (p : Placed f w) where
  vals : (r : Bool) → r ≡ (ends_rise 0 (val_end_body w) (length (val_body w)) && every rises (lists 0 (val_end_body w) (val_body w))) → r ≡ (ends_rise 0 (val_end_body w) (nv w) && every rises (lists 0 (val_end_body w) (val_body w)))
  vals r h = h ∙ rw (length_vals f w p)

  lower :
      (r : Bool)
      → r ≡ (changes_hold 0 (diff_end_body w) (diff_body w) (length (diff_body w)) && (ends_rise 0 (time_end_body w) (length (time_body w)) && every rises (lists 0 (time_end_body w) (time_body w))))
      → r ≡ (changes_hold 0 (diff_end_body w) (diff_body w) (nd w) && (ends_rise 0 (time_end_body w) (nt w) && every rises (lists 0 (time_end_body w) (time_body w))))
  lower r h = h ∙ rw (length_diffs f w p, length_times f w p)

  -- the last test decides, once the others hold
  last :
      (counted : Counted f)
      (lowered : (changes_hold 0 (diff_end_body w) (diff_body w) (nd w) && (ends_rise 0 (time_end_body w) (nt w) && every rises (lists 0 (time_end_body w) (time_body w)))) ≡ true)
      (valued : (ends_rise 0 (val_end_body w) (nv w) && every rises (lists 0 (val_end_body w) (val_body w))) ≡ true)
      → (r : Bool) → r ≡ rises (key_body w) → r ≡ well_formed w
  last counted lowered valued r h =
      let changed : changes_hold 0 (diff_end_body w) (diff_body w) (nd w) ≡ true = and_left _ _ lowered in
      let timed : _ ≡ true = and_right (changes_hold 0 (diff_end_body w) (diff_body w) (nd w)) _ lowered in
      by_test r
      (λ k. k ∙ sym (whole w (record {
        table_fits = and_both (leb table_size (length w)) _ (le-leb _ _ p.table) (le-leb (size w) (length w) p.within);
        few = le-leb (nt w) limit (omega (arith, p.time_count, counted.few));
        counts = alike f w p counted;
        val_ends_rise = and_left _ _ valued;
        time_ends_rise = and_left _ _ timed;
        keys_rise = sym h ∙ k;
        vals_rise = and_right (ends_rise 0 (val_end_body w) (nv w)) _ valued;
        times_rise = and_right (ends_rise 0 (time_end_body w) (nt w)) _ timed;
        diff_ends_step = and_left _ _ changed;
        diffs_stand = and_right (ends_step 0 (diff_end_body w) (nd w)) _ changed;
      })))
      (λ k. k ∙ refuted w (λ q. no q.keys_rise (sym h ∙ k)))

pub returns-then-not-lower_holds : goal.returns-then-not-lower_holds
returns-then-not-lower_holds c =
    let h = c.args.chunk in
    let w = h.words.now in
    let e = rw (c.time_ends.ensures, c.times.ensures, c.diff_ends.ensures, c.diffs.ensures) at c.lower_holds.ensures in
    refuted _ (λ p. no (and_both _ _ (and_both _ _ p.diff_ends_step p.diffs_stand) (and_both _ _ p.time_ends_rise p.times_rise)) (sym (lower h.contents w h.placed _ e) ∙ c.if-not-lower_holds.true))

pub returns-then-not-layer_rises : goal.returns-then-not-layer_rises
returns-then-not-layer_rises c =
    let h = c.args.chunk in
    let e = rw (c.val_ends.ensures, c.vals.ensures) at c.layer_rises.ensures in
    refuted _ (λ p. no (and_both _ _ p.val_ends_rise p.vals_rise) (sym (vals h.contents h.words.now h.placed _ e) ∙ c.if-not-layer_rises.true))

pub returns : goal.returns
returns c =
    let h = c.args.chunk in
    let w = h.words.now in
    let d = rw (c.time_ends.ensures, c.times.ensures, c.diff_ends.ensures, c.diffs.ensures) at c.lower_holds.ensures in
    let e = rw (c.val_ends.ensures, c.vals.ensures) at c.layer_rises.ensures in
    last h.contents w h.placed c.requires
    (sym (lower h.contents w h.placed _ d) ∙ c.if-not-lower_holds.false)
    (sym (vals h.contents w h.placed _ e) ∙ c.if-not-layer_rises.false)
    _
    (rw c.keys.ensures at c.items_rise.ensures)
