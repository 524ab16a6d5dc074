-- Well formed, taken apart into its ten tests and put together again.
use Prim.Native.Nat.{ℕ}
use mathlib.Core.Path.{◌≡◌, sym, ◌∙◌}
use mathlib.Core.Bool.{true, false, not}
use mathlib.Core.List.{List}
use lib.Dec.{leb, eqb}
use Rattle.chunk.specs.Entry.{every}
use Rattle.chunk.specs.Words.{well_formed, table_fits, nk, nv, nt, nd, limit, all_or_none, ends_rise, ends_step, rises, lists, key_body, val_end_body, val_body, time_end_body, time_body, diff_end_body, diff_body}
use Rattle.chunk.proofs.Tests.{by_test, true-not-false, and_left, and_right}

-- the ten tests of a well formed slice
pub record Parts (w : List ℕ) : Type 0 where
  pub table_fits : table_fits w ≡ true
  pub few : leb (nt w) limit ≡ true
  pub counts : all_or_none (nk w) (nv w) (nt w) ≡ true
  pub val_ends_rise : ends_rise 0 (val_end_body w) (nv w) ≡ true
  pub time_ends_rise : ends_rise 0 (time_end_body w) (nt w) ≡ true
  pub keys_rise : rises (key_body w) ≡ true
  pub vals_rise : every rises (lists 0 (val_end_body w) (val_body w)) ≡ true
  pub times_rise : every rises (lists 0 (time_end_body w) (time_body w)) ≡ true
  pub diff_ends_step : ends_step 0 (diff_end_body w) (nd w) ≡ true
  pub diffs_stand : every (λ (d : ℕ). not (eqb d 0)) (diff_body w) ≡ true

pub parts : (w : List ℕ) → well_formed w ≡ true → Parts w
unfolding well_formed
parts w h =
    let h1 : _ ≡ true = and_right (table_fits w) _ h in
    let h2 : _ ≡ true = and_right (leb (nt w) limit) _ h1 in
    let h3 : _ ≡ true = and_right (all_or_none (nk w) (nv w) (nt w)) _ h2 in
    let h4 : _ ≡ true = and_right (ends_rise 0 (val_end_body w) (nv w)) _ h3 in
    let h5 : _ ≡ true = and_right (ends_rise 0 (time_end_body w) (nt w)) _ h4 in
    let h6 : _ ≡ true = and_right (rises (key_body w)) _ h5 in
    let h7 : _ ≡ true = and_right (every rises (lists 0 (val_end_body w) (val_body w))) _ h6 in
    let h8 : _ ≡ true = and_right (every rises (lists 0 (time_end_body w) (time_body w))) _ h7 in
    record {
      table_fits = and_left (table_fits w) _ h;
      few = and_left (leb (nt w) limit) _ h1;
      counts = and_left (all_or_none (nk w) (nv w) (nt w)) _ h2;
      val_ends_rise = and_left (ends_rise 0 (val_end_body w) (nv w)) _ h3;
      time_ends_rise = and_left (ends_rise 0 (time_end_body w) (nt w)) _ h4;
      keys_rise = and_left (rises (key_body w)) _ h5;
      vals_rise = and_left (every rises (lists 0 (val_end_body w) (val_body w))) _ h6;
      times_rise = and_left (every rises (lists 0 (time_end_body w) (time_body w))) _ h7;
      diff_ends_step = and_left (ends_step 0 (diff_end_body w) (nd w)) _ h8;
      diffs_stand = and_right (ends_step 0 (diff_end_body w) (nd w)) _ h8;
    }

pub whole : (w : List ℕ) → Parts w → well_formed w ≡ true
unfolding well_formed
whole w p = simp (p.table_fits, p.few, p.counts, p.val_ends_rise, p.time_ends_rise, p.keys_rise, p.vals_rise, p.times_rise, p.diff_ends_step, p.diffs_stand)

-- not well formed, where one of them fails
pub refuted : (w : List ℕ) → (Parts w → ⊥) → false ≡ well_formed w
refuted w f = by_test (well_formed w) (λ h. absurd (f (parts w h))) (λ h. sym h)

-- words whose table doesn't fit are not well formed
pub unfitting : (w : List ℕ) → table_fits w ≡ false → well_formed w ≡ false
unfitting w h = sym (refuted w (λ p. true-not-false (sym p.table_fits ∙ h)))
