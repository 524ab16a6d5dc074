-- The chunk of a range of a settled chunk's entries, from a range of each of its bodies.
use Prim.Native.Nat.{ℕ, ◌-◌, ◌≤◌}
use mathlib.Core.Path.{◌≡◌, refl, sym, ◌∙◌, ap}
use mathlib.Core.Bool.{Bool, true}
use mathlib.Core.List.{List, map, append_assoc}
use native.Mathlib.Omega.{arith}
use lib.ListN.{length, drop, length-map}
use borrow.Author.Tests.{leb-true, eqb-true}
use Rattle.chunk.specs.declared.Range.{Range}
use Rattle.chunk.specs.Contents.{contents_in, start_of}
use Rattle.chunk.specs.Entry.{Entry, every, stands, rising, keep}
use Rattle.chunk.specs.Bodies.{keys, vals, times, diffs, val_ends, time_ends, diff_ends, chunk_of}
use Rattle.chunk.specs.Words.{well_formed, settled, entries, key_body, val_end_body, val_body, time_end_body, time_body, diff_body, nt, nd, limit}
use Rattle.chunk.proofs.Placed.{length_keys, length_vals, length_times, length_diffs}
use Rattle.laws.proofs.OneChunk.{front_is_chunk, settled_stands}
use Rattle.laws.proofs.Frame.{parts}
use Rattle.laws.specs.Picked.{count_up, list_kept, pick, part}
use Rattle.split.specs.Ranges.{within, Span, cut_ends, ranges_out}
use Rattle.laws.proofs.Picked.{picked-keys, picked-val_ends, picked-vals, picked-time_ends, diff_ends_up, keep_all}
use Rattle.split.proofs.Records.{take-every, drop-every}
use Rattle.laws.proofs.Bodies.{its_place, keys_in_lem, val_ends_in_lem, vals_in_lem, time_ends_in_lem, times_in_lem, diffs_in_lem, over_vals_lem, over_times_lem, keys_few_lem, vals_few_lem}
use Rattle.split.proofs.Spans.{Layered, pick-part, part-map, length_part, list_within, range_items, range_ends}

module _ (w : List ℕ) (f : well_formed w ≡ true) (s : settled w ≡ true) where
  -- its bodies belong together
  pub its_layers : Layered w
  its_layers =
      let p = its_place w f in
      let e : nd w ≡ nt w = eqb-true _ _ s in
      let few : nt w ≤ limit = leb-true _ _ (parts w f).few in
      let fk = keys_few_lem w f in
      let fv = vals_few_lem w f in
      record {
        over_vals = over_vals_lem w f;
        over_times = over_times_lem w f;
        keys_all = length_keys (contents_in w) w p;
        vals_all = length_vals (contents_in w) w p;
        times_all = length_times (contents_in w) w p;
        diffs_all = length_diffs (contents_in w) w p ∙ e;
        settles = e;
        few_keys = omega arith;
        few_vals = omega arith;
        few_times = omega arith;
      }

  module _ (ks vs ts : Range) (pk : Span (val_end_body w) vs ks) (pv : Span (time_end_body w) ts vs) (h : ts.upper ≤ nt w) where
    abbrev es : List Entry
    es = entries w

    abbrev fs : List Entry
    fs = part ts.lower ts.upper es

    abbrev time_stays : ℕ → Bool
    time_stays = within ts.lower ts.upper

    order : ts.lower ≤ ts.upper
    order = omega (arith, pv.filled)

    rise : rising es ≡ true
    rise = (front_is_chunk w f).rise

    stand : every stands es ≡ true
    stand = sym (settled_stands w f) ∙ s

    few : ts.upper ≤ length es
    few = let c = (front_is_chunk w f).counted in omega arith

    picks : {B : Type 0} (g : List Entry → B) → g fs ≡ g (pick time_stays 0 es)
    picks g = ap g (sym (pick-part time_stays ts.lower ts.upper order (λ k. refl) es))

    -- whether a value has a time of the range
    values : (k : ℕ) → list_kept time_stays (time_end_body w) k ≡ within vs.lower vs.upper k
    values = list_within time_stays (val_body w) (time_end_body w) its_layers.over_times.rows its_layers.over_times.rises.rise ts vs pv (λ k. refl)

    out-vals : vals fs ≡ part vs.lower vs.upper (val_body w)
    out-vals =
        picks vals ∙ picked-vals time_stays es rise ∙ simp (vals_in_lem w f, time_ends_in_lem w f)
        (range_items time_stays (val_body w) (time_end_body w) its_layers.over_times.rows its_layers.over_times.rises.rise ts vs pv (λ k. refl))

    out-time_ends : time_ends fs ≡ cut_ends ts (part vs.lower vs.upper (time_end_body w))
    out-time_ends =
        picks time_ends ∙ picked-time_ends time_stays es rise ∙ simp (vals_in_lem w f, time_ends_in_lem w f)
        (range_ends time_stays (val_body w) (time_end_body w) its_layers.over_times.rows its_layers.over_times.rises.rise ts vs pv (λ k. refl))

    out-keys : keys fs ≡ part ks.lower ks.upper (key_body w)
    out-keys =
        picks keys ∙ picked-keys time_stays es rise ∙ simp (keys_in_lem w f, val_ends_in_lem w f, time_ends_in_lem w f)
        (range_items (list_kept time_stays (time_end_body w)) (key_body w) (val_end_body w) its_layers.over_vals.rows its_layers.over_vals.rises.rise vs ks pk values)

    out-val_ends : val_ends fs ≡ cut_ends vs (part ks.lower ks.upper (val_end_body w))
    out-val_ends =
        picks val_ends ∙ picked-val_ends time_stays es rise ∙ simp (keys_in_lem w f, val_ends_in_lem w f, time_ends_in_lem w f)
        (range_ends (list_kept time_stays (time_end_body w)) (key_body w) (val_end_body w) its_layers.over_vals.rows its_layers.over_vals.rises.rise vs ks pk values)

    out-times : times fs ≡ part ts.lower ts.upper (time_body w)
    out-times = part-map (λ (e : Entry). e.time) ts.lower ts.upper es order ∙ ap (part ts.lower ts.upper) (times_in_lem w f)

    stays : every stands fs ≡ true
    stays = take-every stands (ts.upper - ts.lower) (drop ts.lower es) (drop-every stands ts.lower es stand)

    count : length fs ≡ ts.upper - ts.lower
    count = length_part ts.lower ts.upper es few

    out-diff_ends : diff_ends fs ≡ count_up 0 (ts.upper - ts.lower)
    out-diff_ends = diff_ends_up 0 fs stays ∙ ap (count_up 0) count

    out-diffs : diffs fs ≡ part ts.lower ts.upper (diff_body w)
    out-diffs =
        ap (map (λ (e : Entry). e.diff)) (keep_all stands fs stays)
        ∙ part-map (λ (e : Entry). e.diff) ts.lower ts.upper es order
        ∙ ap (part ts.lower ts.upper) (ap (map (λ (e : Entry). e.diff)) (sym (keep_all stands es stand)) ∙ diffs_in_lem w f)

    -- the words of the range are its chunk
    pub its_range : ranges_out w ks vs ts ≡ chunk_of fs
    unfolding chunk_of
    its_range =
        let k : length (keys fs) ≡ ks.upper - ks.lower = ap length out-keys ∙ length_part ks.lower ks.upper (key_body w) (omega (arith, pk.within, its_layers.over_vals.rows)) in
        let v : length (vals fs) ≡ vs.upper - vs.lower = ap length out-vals ∙ length_part vs.lower vs.upper (val_body w) (omega (arith, pv.within, its_layers.over_times.rows)) in
        let t : length (times fs) ≡ ts.upper - ts.lower = length-map fs (λ (e : Entry). e.time) ∙ count in
        let d : length (diffs fs) ≡ ts.upper - ts.lower = length-map (keep stands fs) (λ (e : Entry). e.diff) ∙ ap length (keep_all stands fs stays) ∙ count in
        sym (simp (k, v, t, d) (simp (out-keys, out-val_ends, out-vals, out-time_ends, out-times, out-diff_ends, out-diffs, append_assoc)))

  -- a range of the times, and the values that have one of them
  pub times-within : (tr : Range) → tr.upper ≤ nt w → tr.upper ≤ start_of (time_end_body w) (length (time_end_body w))
  times-within tr h = let e = its_layers.over_times.rises.last in let l = its_layers.times_all in omega arith

  pub vals-within : (tr vr : Range) → Span (time_end_body w) tr vr → vr.upper ≤ start_of (val_end_body w) (length (val_end_body w))
  vals-within tr vr v = let e = its_layers.over_vals.rises.last in let l = its_layers.over_times.rows in let b = v.within in omega arith
