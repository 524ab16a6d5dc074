-- The bodies of a chunk as ranges of its words.
use Prim.Native.Nat.{ℕ, ◌+◌, ◌-◌, ◌*◌, ◌≤◌}
use mathlib.Core.Path.{◌≡◌, refl, sym, ◌∙◌, ap}
use mathlib.Core.Bool.{true}
use mathlib.Core.List.{List, [], ◌∷◌}
use native.Mathlib.Omega.{arith}
use lib.Dec.{ltb, leb}
use lib.ListN.{length}
use borrow.Author.Tests.{leb-true}
use Rattle.laws.proofs.Tests.{and_left, and_right, and_both}
use Rattle.chunk.specs.Words.{rises, rises_from, ends_rise, body, table_size, size, nk, nv, nt, nd, limit, entries, val_end_body, time_end_body}
use Rattle.chunk.specs.Bodies.{keys, vals, times, diffs, val_ends, time_ends, diff_ends}
use Rattle.chunk.specs.Contents.{layout_of}
use Rattle.chunk.specs.declared.Contents.{Contents}
use Rattle.chunk.proofs.WellFormed.{Parts, parts}
use Rattle.laws.proofs.Layers.{Seven, of_entries}
use Rattle.laws.proofs.Frame.{in_words}
use Rattle.laws.proofs.OneChunk.{bodies_in, front_is_chunk}
use Rattle.reports.specs.Gallop.{between, Rises}
use Rattle.reports.specs.Read.{Read}

body-between : (at to n : ℕ) (w : List ℕ) → at + n ≡ to → between at to w ≡ body at n w
body-between at to n w e = let f : to - at ≡ n = omega arith in rw f

ends-rises : (low : ℕ) (ends : List ℕ) (top : ℕ) → ends_rise low ends top ≡ true → rises_from low ends ≡ true
unfolding ends_rise rises_from
ends-rises low [] top h = refl
ends-rises low (e ∷ ends) top h = and_both (ltb low e) _ (and_left (ltb low e) _ h) (ends-rises e ends top (and_right (ltb low e) _ h))

ends-rise : (ends : List ℕ) (top : ℕ) → ends_rise 0 ends top ≡ true → rises ends ≡ true
unfolding rises ends_rise
ends-rise [] top h = refl
ends-rise (e ∷ ends) top h = ends-rises e ends top (and_right (ltb 0 e) _ h)

-- the bodies of the entries stand in the words, from each place to the next
pub record Reading (w : List ℕ) (c : Contents) : Type 0 where
  pub key_words : between c.keys_at c.val_ends_at w ≡ keys (entries w)
  pub val_end_words : between c.val_ends_at c.vals_at w ≡ val_ends (entries w)
  pub val_words : between c.vals_at c.time_ends_at w ≡ vals (entries w)
  pub time_end_words : between c.time_ends_at c.times_at w ≡ time_ends (entries w)
  pub time_words : between c.times_at c.diff_ends_at w ≡ times (entries w)
  pub diff_end_words : between c.diff_ends_at c.diffs_at w ≡ diff_ends (entries w)
  pub diff_words : between c.diffs_at c.size w ≡ diffs (entries w)
  pub val_ends-rise : Rises w c.val_ends_at c.vals_at
  pub time_ends-rise : Rises w c.time_ends_at c.times_at
  pub counted : length (entries w) ≡ c.nt
  pub small : c.nt ≤ limit
  pub key_placed : c.keys_at ≡ table_size
  pub val_end_place : c.val_ends_at ≡ c.keys_at + c.nk
  pub val_placed : c.vals_at ≡ c.val_ends_at + c.nk
  pub time_end_place : c.time_ends_at ≡ c.vals_at + c.nv
  pub time_placed : c.times_at ≡ c.time_ends_at + c.nv
  pub diff_end_place : c.diff_ends_at ≡ c.times_at + c.nt
  pub diff_place : c.diffs_at ≡ c.diff_ends_at + c.nt
  pub end_place : c.size ≡ c.diffs_at + c.nd
  pub whole : c.size ≤ length w
  pub its_size : c.size ≡ size w
  pub its_keys : c.nk ≡ nk w
  pub its_vals : c.nv ≡ nv w
  pub its_times : c.nt ≡ nt w
  pub its_diffs : c.nd ≡ nd w

pub reading : (w : List ℕ) (c : Contents) → Read w c → Reading w c
reading w c r = rw r.contents at_places
  where
    p : Parts w
    p = parts w r.formed

    b : of_entries (entries w) ≡ in_words w
    b = bodies_in w r.formed

    long : size w ≤ length w
    long = leb-true _ _ (and_right (leb table_size (length w)) _ p.table_fits)

    at_places : Reading w (layout_of (nk w) (nv w) (nt w) (nd w))
    at_places =
        record {
          key_words = body-between table_size (table_size + nk w) (nk w) w refl ∙ sym (ap (λ (s : Seven). s.key_list) b);
          val_end_words = body-between (table_size + nk w) (table_size + 2 * nk w) (nk w) w (omega arith) ∙ sym (ap (λ (s : Seven). s.val_end_list) b);
          val_words = body-between (table_size + 2 * nk w) (table_size + 2 * nk w + nv w) (nv w) w refl ∙ sym (ap (λ (s : Seven). s.val_list) b);
          time_end_words = body-between (table_size + 2 * nk w + nv w) (table_size + 2 * nk w + 2 * nv w) (nv w) w (omega arith) ∙ sym (ap (λ (s : Seven). s.time_end_list) b);
          time_words = body-between (table_size + 2 * nk w + 2 * nv w) (table_size + 2 * nk w + 2 * nv w + nt w) (nt w) w refl ∙ sym (ap (λ (s : Seven). s.time_list) b);
          diff_end_words = body-between (table_size + 2 * nk w + 2 * nv w + nt w) (table_size + 2 * nk w + 2 * nv w + 2 * nt w) (nt w) w (omega arith) ∙ sym (ap (λ (s : Seven). s.diff_end_list) b);
          diff_words = body-between (table_size + 2 * nk w + 2 * nv w + 2 * nt w) (table_size + 2 * nk w + 2 * nv w + 2 * nt w + nd w) (nd w) w refl ∙ sym (ap (λ (s : Seven). s.diff_list) b);
          val_ends-rise = record { ordered = omega arith; within = omega (arith, long); rise = ap rises (body-between (table_size + nk w) (table_size + 2 * nk w) (nk w) w (omega arith)) ∙ ends-rise (val_end_body w) (nv w) p.val_ends_rise };
          time_ends-rise = record { ordered = omega arith; within = omega (arith, long); rise = ap rises (body-between (table_size + 2 * nk w + nv w) (table_size + 2 * nk w + 2 * nv w) (nv w) w (omega arith)) ∙ ends-rise (time_end_body w) (nt w) p.time_ends_rise };
          counted = (front_is_chunk w r.formed).counted;
          small = leb-true _ _ p.few;
          key_placed = refl;
          val_end_place = refl;
          val_placed = omega arith;
          time_end_place = refl;
          time_placed = omega arith;
          diff_end_place = refl;
          diff_place = omega arith;
          end_place = refl;
          whole = long;
          its_size = refl;
          its_keys = refl;
          its_vals = refl;
          its_times = refl;
          its_diffs = refl;
        }
