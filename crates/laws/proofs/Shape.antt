-- Seven bodies that fit together are the bodies of one tree whose lists rise, and back.
use Prim.Native.Nat.{ℕ}
use native.Mathlib.Nat.{zero-add}
use mathlib.Core.Path.{◌≡◌, sym, ap, ◌∙◌}
use mathlib.Core.Bool.{Bool, true, ◌&&◌}
use mathlib.Core.List.{List, map, flatten}
use lib.ListN.{length, length-map}
use Rattle.chunk.specs.Entry.{every}
use Rattle.chunk.specs.Words.{lists, ends_rise, ends_step, rises}
use Rattle.laws.proofs.Tests.{and_left, and_right, and_both}
use Rattle.laws.proofs.Lists.{full, pairs, firsts, seconds, every-and, every_map, every-flatten, firsts-pairs, seconds-pairs, pairs_apart}
use Rattle.laws.proofs.Cuts.{ends_at, climbs, length-sums, rise_climbs, step_climbs, length-lists, lists-ends, lists_flat, lists-sums, lists-full, full_rises, map-lists, nonzero, short, short-nonzero, lists-short, short_steps}
use Rattle.laws.proofs.Tries.{Timed, Valued, Keyed, ok_time, ok_val, ok}
use Rattle.laws.proofs.Layers.{Seven, valued_of, timed_of, of_trie}

-- what document 01 asks of the seven bodies, beside the table
pub record Formed (s : Seven) : Type 0 where
  pub val_count : length s.val_end_list ≡ length s.key_list
  pub time_count : length s.time_end_list ≡ length s.val_list
  pub diff_count : length s.diff_end_list ≡ length s.time_list
  pub val_ends_rise : ends_rise 0 s.val_end_list (length s.val_list) ≡ true
  pub time_ends_rise : ends_rise 0 s.time_end_list (length s.time_list) ≡ true
  pub keys_rise : rises s.key_list ≡ true
  pub vals_rise : every rises (lists 0 s.val_end_list s.val_list) ≡ true
  pub times_rise : every rises (lists 0 s.time_end_list s.time_list) ≡ true
  pub diff_ends_step : ends_step 0 s.diff_end_list (length s.diff_list) ≡ true
  pub diffs_stand : every nonzero s.diff_list ≡ true

-- the tree of seven bodies, layer by layer
abbrev pub timed_in : Seven → List Timed
timed_in s = pairs s.time_list (lists 0 s.diff_end_list s.diff_list)

abbrev pub valued_in : Seven → List Valued
valued_in s = pairs s.val_list (lists 0 s.time_end_list (timed_in s))

abbrev pub trie_of : Seven → List Keyed
trie_of s = pairs s.key_list (lists 0 s.val_end_list (valued_in s))

-- ---- one layer: firsts, each with a list

module _ {C : Type 0} where
  length-ends : (ps : List (ℕ × List C)) → length (ends_at 0 (seconds ps)) ≡ length (firsts ps)
  length-ends ps =
      length-sums 0 (map length (seconds ps)) ∙ length-map (seconds ps) length ∙ length-map ps (λ (p : ℕ × List C). p.1)
      ∙ sym (length-map ps (λ (p : ℕ × List C). p.0))

  -- a layer is its firsts, its ends and its items
  rebuilt : (ps : List (ℕ × List C)) → pairs (firsts ps) (lists 0 (ends_at 0 (seconds ps)) (flatten (seconds ps))) ≡ ps
  rebuilt ps = ap (pairs (firsts ps)) (lists-ends 0 (seconds ps)) ∙ pairs_apart ps

  -- a layer put together from firsts, ends and items has these
  module _ (hs ends : List ℕ) (items : List C) (l : length ends ≡ length hs) where
    fits : length (lists 0 ends items) ≡ length hs
    fits = length-lists 0 ends items ∙ l

    its_firsts : firsts (pairs hs (lists 0 ends items)) ≡ hs
    its_firsts = firsts-pairs hs (lists 0 ends items) fits

    its_lists : seconds (pairs hs (lists 0 ends items)) ≡ lists 0 ends items
    its_lists = seconds-pairs hs (lists 0 ends items) fits

    its_length : length (pairs hs (lists 0 ends items)) ≡ length hs
    its_length = sym (length-map (pairs hs (lists 0 ends items)) (λ (p : ℕ × List C). p.0)) ∙ ap length its_firsts

    its_items : climbs 0 ends (length items) ≡ true → flatten (seconds (pairs hs (lists 0 ends items))) ≡ items
    its_items c = ap flatten its_lists ∙ lists_flat 0 ends (length items) items c (zero-add (length items))

    its_ends : climbs 0 ends (length items) ≡ true → ends_at 0 (seconds (pairs hs (lists 0 ends items))) ≡ ends
    its_ends c = ap (ends_at 0) its_lists ∙ lists-sums 0 ends (length items) items c (zero-add (length items))

-- a layer's lists are full and rise, and what is asked of their items holds: as one test of each, or of all together
abbrev ok_list : {C : Type 0} → (ℕ × C → Bool) → ℕ × List (ℕ × C) → Bool
ok_list q p = full p.1 && (rises (firsts p.1) && every q p.1)

module _ {C : Type 0} (q : ℕ × C → Bool) (ps : List (ℕ × List (ℕ × C))) where
  every-ok : every (ok_list q) ps ≡ (every full (seconds ps) && (every rises (map firsts (seconds ps)) && every q (flatten (seconds ps))))
  every-ok =
      let sec : ℕ × List (ℕ × C) → List (ℕ × C) = λ p. p.1 in
      every-and (λ (p : ℕ × List (ℕ × C)). full p.1) (λ (p : ℕ × List (ℕ × C)). rises (firsts p.1) && every q p.1) ps
      ∙ (λ i. sym (every_map sec full ps) i
      && (every-and (λ (p : ℕ × List (ℕ × C)). rises (firsts p.1)) (λ (p : ℕ × List (ℕ × C)). every q p.1) ps
      ∙ (λ j. sym (every_map firsts rises (seconds ps) ∙ every_map sec (λ (l : List (ℕ × C)). rises (firsts l)) ps) j
      && sym (every-flatten q (seconds ps) ∙ every_map sec (every q) ps) j)) i)

-- a layer's lists of firsts, cut from all the firsts of its items
cut_firsts : {C : Type 0} (ps : List (ℕ × List (ℕ × C))) → lists 0 (ends_at 0 (seconds ps)) (firsts (flatten (seconds ps))) ≡ map firsts (seconds ps)
cut_firsts {C} ps =
    sym (map-lists (λ (p : ℕ × C). p.0) 0 (ends_at 0 (seconds ps)) (flatten (seconds ps))) ∙ ap (map firsts) (lists-ends 0 (seconds ps))

-- the ends of a layer rise to the count of its items
rise_to : {C : Type 0} (ps : List (ℕ × List (ℕ × C))) → every full (seconds ps) ≡ true
    → ends_rise 0 (ends_at 0 (seconds ps)) (length (firsts (flatten (seconds ps)))) ≡ true
rise_to {C} ps h =
    full_rises 0 (seconds ps) (length (firsts (flatten (seconds ps)))) h
    (zero-add _ ∙ sym (length-map (flatten (seconds ps)) (λ (p : ℕ × C). p.0)))

-- ---- from a tree to its bodies, and back to the tree

module _ (ks : List Keyed) (o : ok ks ≡ true) where
  keys_all : (every full (seconds ks) && (every rises (map firsts (seconds ks)) && every ok_val (valued_of ks))) ≡ true
  keys_all = sym (every-ok ok_val ks) ∙ and_right (rises (firsts ks)) _ o

  keys_rest : (every rises (map firsts (seconds ks)) && every ok_val (valued_of ks)) ≡ true
  keys_rest = and_right (every full (seconds ks)) _ keys_all

  vals_all : (every full (seconds (valued_of ks)) && (every rises (map firsts (seconds (valued_of ks))) && every ok_time (timed_of ks))) ≡ true
  vals_all = sym (every-ok ok_time (valued_of ks)) ∙ and_right (every rises (map firsts (seconds ks))) _ keys_rest

  vals_rest : (every rises (map firsts (seconds (valued_of ks))) && every ok_time (timed_of ks)) ≡ true
  vals_rest = and_right (every full (seconds (valued_of ks))) _ vals_all

  times_all : every short (seconds (timed_of ks)) ≡ true
  times_all =
      every_map (λ (t : Timed). t.1) short (timed_of ks) ∙ and_right (every rises (map firsts (seconds (valued_of ks)))) _ vals_rest

  pub trie_formed : Formed (of_trie ks)
  trie_formed =
      record {
        val_count = length-ends ks;
        time_count = length-ends (valued_of ks);
        diff_count = length-ends (timed_of ks);
        val_ends_rise = rise_to ks (and_left _ _ keys_all);
        time_ends_rise = rise_to (valued_of ks) (and_left _ _ vals_all);
        keys_rise = and_left _ _ o;
        vals_rise = ap (every rises) (cut_firsts ks) ∙ and_left _ _ keys_rest;
        times_rise = ap (every rises) (cut_firsts (valued_of ks)) ∙ and_left _ _ vals_rest;
        diff_ends_step = short_steps 0 (seconds (timed_of ks)) (length (flatten (seconds (timed_of ks)))) times_all (zero-add _);
        diffs_stand = short-nonzero (seconds (timed_of ks)) times_all;
      }

pub trie_again : (ks : List Keyed) → trie_of (of_trie ks) ≡ ks
trie_again ks =
    ap (λ (ts : List Timed). pairs (firsts ks) (lists 0 (ends_at 0 (seconds ks)) (pairs (firsts (valued_of ks)) (lists 0 (ends_at 0 (seconds (valued_of ks))) ts))))
    (rebuilt (timed_of ks))
    ∙ ap (λ (vs : List Valued). pairs (firsts ks) (lists 0 (ends_at 0 (seconds ks)) vs)) (rebuilt (valued_of ks))
    ∙ rebuilt ks

-- ---- from bodies to their tree, and back to the bodies

module _ (s : Seven) (f : Formed s) where
  timed_count : length (timed_in s) ≡ length s.time_list
  timed_count = its_length s.time_list s.diff_end_list s.diff_list f.diff_count

  valued_count : length (valued_in s) ≡ length s.val_list
  valued_count = its_length s.val_list s.time_end_list (timed_in s) f.time_count

  time_rise : ends_rise 0 s.time_end_list (length (timed_in s)) ≡ true
  time_rise = rw timed_count f.time_ends_rise

  val_rise : ends_rise 0 s.val_end_list (length (valued_in s)) ≡ true
  val_rise = rw valued_count f.val_ends_rise

  diff_climbs : climbs 0 s.diff_end_list (length s.diff_list) ≡ true
  diff_climbs = step_climbs _ _ _ f.diff_ends_step

  time_climbs : climbs 0 s.time_end_list (length (timed_in s)) ≡ true
  time_climbs = rise_climbs _ _ _ time_rise

  val_climbs : climbs 0 s.val_end_list (length (valued_in s)) ≡ true
  val_climbs = rise_climbs _ _ _ val_rise

  timed_firsts : firsts (timed_in s) ≡ s.time_list
  timed_firsts = its_firsts s.time_list s.diff_end_list s.diff_list f.diff_count

  valued_firsts : firsts (valued_in s) ≡ s.val_list
  valued_firsts = its_firsts s.val_list s.time_end_list (timed_in s) f.time_count

  keyed_firsts : firsts (trie_of s) ≡ s.key_list
  keyed_firsts = its_firsts s.key_list s.val_end_list (valued_in s) f.val_count

  the_valued : valued_of (trie_of s) ≡ valued_in s
  the_valued = its_items s.key_list s.val_end_list (valued_in s) f.val_count val_climbs

  the_timed_in : flatten (seconds (valued_in s)) ≡ timed_in s
  the_timed_in = its_items s.val_list s.time_end_list (timed_in s) f.time_count time_climbs

  the_timed : timed_of (trie_of s) ≡ timed_in s
  the_timed = ap (λ (vs : List Valued). flatten (seconds vs)) the_valued ∙ the_timed_in

  -- the bodies of the tree of bodies
  pub bodies_again : of_trie (trie_of s) ≡ s
  bodies_again =
      λ i. record {
        key_list = keyed_firsts i;
        val_end_list = its_ends s.key_list s.val_end_list (valued_in s) f.val_count val_climbs i;
        val_list = (ap {B = List ℕ} firsts the_valued ∙ valued_firsts) i;
        time_end_list =
            (ap (λ (vs : List Valued). ends_at 0 (seconds vs)) the_valued
            ∙ its_ends s.val_list s.time_end_list (timed_in s) f.time_count time_climbs) i;
        time_list = (ap {B = List ℕ} firsts the_timed ∙ timed_firsts) i;
        diff_end_list =
            (ap (λ (ts : List Timed). ends_at 0 (seconds ts)) the_timed
            ∙ its_ends s.time_list s.diff_end_list s.diff_list f.diff_count diff_climbs) i;
        diff_list =
            (ap (λ (ts : List Timed). flatten (seconds ts)) the_timed
            ∙ its_items s.time_list s.diff_end_list s.diff_list f.diff_count diff_climbs) i;
      }

  times_ok : every ok_time (timed_in s) ≡ true
  times_ok =
      sym (every_map (λ (t : Timed). t.1) short (timed_in s))
      ∙ ap (every short) (its_lists s.time_list s.diff_end_list s.diff_list f.diff_count)
      ∙ lists-short 0 s.diff_end_list (length s.diff_list) s.diff_list f.diff_ends_step (zero-add _) f.diffs_stand

-- one layer's lists are full and rise
layer_ok : {C : Type 0} (q : ℕ × C → Bool) (hs ends : List ℕ) (items : List (ℕ × C)) → length ends ≡ length hs
    → ends_rise 0 ends (length items) ≡ true → every rises (lists 0 ends (firsts items)) ≡ true → every q items ≡ true
    → every (ok_list q) (pairs hs (lists 0 ends items)) ≡ true
layer_ok {C} q hs ends items l r v h =
    let ps : List (ℕ × List (ℕ × C)) = pairs hs (lists 0 ends items) in
    let e : seconds ps ≡ lists 0 ends items = its_lists hs ends items l in
    every-ok q ps
    ∙ and_both _ _ (ap (every full) e ∙ lists-full 0 ends (length items) items r (zero-add _))
    (and_both _ _ (ap (λ (x : List (List (ℕ × C))). every rises (map firsts x)) e ∙ ap (every rises) (map-lists (λ (p : ℕ × C). p.0) 0 ends items) ∙ v)
    (ap (every q) (its_items hs ends items l (rise_climbs _ _ _ r)) ∙ h))

pub formed_ok : (s : Seven) → Formed s → ok (trie_of s) ≡ true
formed_ok s f =
    and_both _ _ (ap rises (keyed_firsts s f) ∙ f.keys_rise)
    (layer_ok ok_val s.key_list s.val_end_list (valued_in s) f.val_count (val_rise s f)
    (ap (λ (l : List ℕ). every rises (lists 0 s.val_end_list l)) (valued_firsts s f) ∙ f.vals_rise)
    (layer_ok ok_time s.val_list s.time_end_list (timed_in s) f.time_count (time_rise s f)
    (ap (λ (l : List ℕ). every rises (lists 0 s.time_end_list l)) (timed_firsts s f) ∙ f.times_rise)
    (times_ok s f)))
