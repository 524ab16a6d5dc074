-- What a well formed slice holds: each body of its words is that body of its entries.
use Rattle.std.proofs.Common.{◌≡◌, ℕ, true, List, length, sym, ap, ◌∙◌}
use Rattle.chunk.specs.Entry.{Entry}
use Rattle.chunk.specs.Bodies.{keys, vals, times, diffs, val_ends, time_ends, diff_ends}
use Rattle.chunk.specs.Words.{well_formed, entries, nk, nv, nt, nd, key_body, val_end_body, val_body, time_end_body, time_body, diff_end_body, diff_body}
use Rattle.chunk.specs.Contents.{contents_in}
use Rattle.chunk.proofs.Placed.{length_keys, length_vals, length_diffs}
use Rattle.laws.proofs.OneChunk.{front_is_chunk}
use Rattle.laws.proofs.Bodies.{its_place, keys_in_lem, val_ends_in_lem, vals_in_lem, time_ends_in_lem, times_in_lem, diff_ends_in_lem, diffs_in_lem}

-- the counts and the bodies of its words
pub record Bodied (w : List ℕ) (es : List Entry) : Type 0 where
  pub key_count : nk w ≡ length (keys es)
  pub val_count : nv w ≡ length (vals es)
  pub time_count : nt w ≡ length es
  pub diff_count : nd w ≡ length (diffs es)
  pub keys_in : key_body w ≡ keys es
  pub val_ends_in : val_end_body w ≡ val_ends es
  pub vals_in : val_body w ≡ vals es
  pub time_ends_in : time_end_body w ≡ time_ends es
  pub times_in : time_body w ≡ times es
  pub diff_ends_in : diff_end_body w ≡ diff_ends es
  pub diffs_in : diff_body w ≡ diffs es

pub bodied : (w : List ℕ) → well_formed w ≡ true → Bodied w (entries w)
bodied w h =
    let p = its_place w h in
    record {
      key_count = sym (length_keys (contents_in w) w p) ∙ ap length (sym (keys_in_lem w h));
      val_count = sym (length_vals (contents_in w) w p) ∙ ap length (sym (vals_in_lem w h));
      time_count = sym (front_is_chunk w h).counted;
      diff_count = sym (length_diffs (contents_in w) w p) ∙ ap length (sym (diffs_in_lem w h));
      keys_in = sym (keys_in_lem w h);
      val_ends_in = sym (val_ends_in_lem w h);
      vals_in = sym (vals_in_lem w h);
      time_ends_in = sym (time_ends_in_lem w h);
      times_in = sym (times_in_lem w h);
      diff_ends_in = sym (diff_ends_in_lem w h);
      diffs_in = sym (diffs_in_lem w h);
    }
