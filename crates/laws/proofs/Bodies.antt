-- The bodies of a well formed slice: those of its entries, how they stand one below the other, and the parts of the words that they are.
use Prim.Native.Nat.{ℕ, ◌≤◌}
use mathlib.Core.Path.{◌≡◌, sym, ◌∙◌, ap}
use mathlib.Core.Bool.{true}
use mathlib.Core.List.{List}
use native.Mathlib.Omega.{arith}
use lib.ListN.{length}
use Rattle.chunk.specs.Entry.{Entry}
use Rattle.chunk.specs.Bodies.{keys, vals, times, diffs, val_ends, time_ends, diff_ends}
use Rattle.chunk.specs.Words.{well_formed, entries, key_body, val_end_body, val_body, time_end_body, time_body, diff_end_body, diff_body, nk, nv, nt}
use Rattle.chunk.specs.declared.Contents.{Contents}
use Rattle.chunk.specs.Contents.{contents_in, Placed}
use Rattle.chunk.proofs.Placed.{placed, length_keys, length_val_ends, length_vals, length_time_ends, length_times}
use Rattle.laws.specs.Picked.{Over, part}
use Rattle.laws.proofs.OneChunk.{bodies_in}
use Rattle.laws.proofs.Layers.{Seven}
use Rattle.laws.proofs.Frame.{parts}
use Rattle.chunk.proofs.Falling.{capped}
use Rattle.laws.proofs.Ends.{rise_rises, rise_last}

module _ (w : List ℕ) (f : well_formed w ≡ true) where
  abbrev es : List Entry
  es = entries w

  -- the bodies of its entries
  pub keys_in_lem : keys es ≡ key_body w
  keys_in_lem = ap (λ (s : Seven). s.key_list) (bodies_in w f)

  pub val_ends_in_lem : val_ends es ≡ val_end_body w
  val_ends_in_lem = ap (λ (s : Seven). s.val_end_list) (bodies_in w f)

  pub vals_in_lem : vals es ≡ val_body w
  vals_in_lem = ap (λ (s : Seven). s.val_list) (bodies_in w f)

  pub time_ends_in_lem : time_ends es ≡ time_end_body w
  time_ends_in_lem = ap (λ (s : Seven). s.time_end_list) (bodies_in w f)

  pub times_in_lem : times es ≡ time_body w
  times_in_lem = ap (λ (s : Seven). s.time_list) (bodies_in w f)

  pub diff_ends_in_lem : diff_ends es ≡ diff_end_body w
  diff_ends_in_lem = ap (λ (s : Seven). s.diff_end_list) (bodies_in w f)

  pub diffs_in_lem : diffs es ≡ diff_body w
  diffs_in_lem = ap (λ (s : Seven). s.diff_list) (bodies_in w f)

  -- where they stand
  pub its_place : Placed (contents_in w) w
  its_place = placed w (parts w f).table_fits

  pub val_rows : length (key_body w) ≡ length (val_end_body w)
  val_rows = length_keys (contents_in w) w its_place ∙ sym (length_val_ends (contents_in w) w its_place)

  pub time_rows_lem : length (val_body w) ≡ length (time_end_body w)
  time_rows_lem = length_vals (contents_in w) w its_place ∙ sym (length_time_ends (contents_in w) w its_place)

  -- the values stand below the keys, and the times below the values
  pub over_vals_lem : Over (key_body w) (val_end_body w) (length (val_body w))
  over_vals_lem = record { rows = val_rows; rises = record { rise = rise_rises 0 (val_end_body w) (nv w) (parts w f).val_ends_rise; last = rise_last (val_end_body w) (nv w) (parts w f).val_ends_rise ∙ sym (length_vals (contents_in w) w its_place) } }

  pub over_times_lem : Over (val_body w) (time_end_body w) (length (time_body w))
  over_times_lem = record { rows = time_rows_lem; rises = record { rise = rise_rises 0 (time_end_body w) (nt w) (parts w f).time_ends_rise; last = rise_last (time_end_body w) (nt w) (parts w f).time_ends_rise ∙ sym (length_times (contents_in w) w its_place) } }

  -- no more keys than values, and no more values than times
  pub keys_few_lem : nk w ≤ nv w
  keys_few_lem = let a = capped 0 (nv w) (val_end_body w) (parts w f).val_ends_rise in let b = length_val_ends (contents_in w) w its_place in omega arith

  pub vals_few_lem : nv w ≤ nt w
  vals_few_lem = let a = capped 0 (nt w) (time_end_body w) (parts w f).time_ends_rise in let b = length_time_ends (contents_in w) w its_place in omega arith

-- ---- the parts that are cut out

module _ (found : Contents) (w : List ℕ) where
  abbrev pub key_part : List ℕ
  key_part = part found.keys_at found.val_ends_at w

  abbrev pub val_end_part : List ℕ
  val_end_part = part found.val_ends_at found.vals_at w

  abbrev pub val_part : List ℕ
  val_part = part found.vals_at found.time_ends_at w

  abbrev pub time_end_part : List ℕ
  time_end_part = part found.time_ends_at found.times_at w

  abbrev pub time_part : List ℕ
  time_part = part found.times_at found.diff_ends_at w

  abbrev pub diff_end_part : List ℕ
  diff_end_part = part found.diff_ends_at found.diffs_at w

  abbrev pub diff_part : List ℕ
  diff_part = part found.diffs_at found.size w
