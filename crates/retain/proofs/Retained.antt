-- What is retained of a chunk: the layers that are written are the chunk of the entries that are picked.
use Prim.Native.Nat.{ℕ, zero, suc, ◌+◌, ◌*◌, ◌<◌, ◌≤◌}
use mathlib.Core.Path.{◌≡◌, refl, sym, ◌∙◌, ap}
use mathlib.Core.Bool.{Bool, true, ◌&&◌, ◌||◌}
use mathlib.Core.List.{List, [], ◌∷◌, ◌++◌, map, append_assoc}
use native.Mathlib.Omega.{arith}
use lib.Dec.{eqb}
use lib.ListN.{length, length-map, get_or}
use Rattle.chunk.specs.Entry.{Entry, every, rising, stands, keep}
use Rattle.chunk.specs.Bodies.{keys, vals, times, diffs, val_ends, time_ends, diff_ends, chunk_of}
use Rattle.chunk.specs.Words.{well_formed, settled, entries, key_body, val_end_body, val_body, time_end_body, time_body, diff_end_body, diff_body, nv, nt, nd, limit, table_size, ends_step, size}
use Rattle.chunk.specs.Contents.{start_of, table_of, contents_in}
use Rattle.chunk.proofs.Placed.{length_keys, length_val_ends, length_vals, length_time_ends, length_times, length_diff_ends, length_diffs}
use borrow.Author.Tests.{ltb-true, eqb-true, leb-true}
use Rattle.laws.proofs.Tests.{by_test, and_left, and_right}
use Rattle.laws.proofs.OneChunk.{front_is_chunk}
use Rattle.laws.proofs.Frame.{parts}
use Rattle.laws.specs.Picked.{count_kept, pick, count_up, nodes, item_of, end_of, list_kept, RisesTo}
use Rattle.retain.specs.Layers.{pick_at, has_diff, nodes_out, leaves_out, EndsWithin, EndsStep, AllDiffs, ListsLeft, Bodies, Left, layers_out}
use Rattle.retain.specs.Keep.{all_times, time_kept, retained_of, ListsOf}
use Rattle.laws.proofs.Picked.{picked-keys, picked-val_ends, picked-vals, picked-time_ends, diff_ends_up, keep_all, nodes-pick}
use Rattle.retain.proofs.Filtered.{pick_at_list, pick_at-diffs, picked_stands, length-pick, picked_few}
use Rattle.retain.proofs.Counts.{count_most}
use Rattle.chunk.proofs.Falling.{capped}
use Rattle.laws.proofs.Ends.{start_as, rise_last}
use Rattle.laws.proofs.Bodies.{keys_in_lem, val_ends_in_lem, vals_in_lem, time_ends_in_lem, times_in_lem, diff_ends_in_lem, diffs_in_lem, its_place, val_rows, time_rows_lem, over_vals_lem, over_times_lem}
use Rattle.retain.proofs.Steps.{count-diffs, count_full}

-- a layer's nodes are as many as its lists that have an item left
pub nodes_count : (m : ℕ → Bool) (items ends : List ℕ) → length items ≡ length ends → length (nodes m item_of 0 0 items ends) ≡ count_kept (list_kept m ends) 0 (length items)
nodes_count m items ends h = ap length (nodes-pick m ends items ends 0 0 0 refl refl h) ∙ length-pick (list_kept m ends) 0 items

-- ends that step up to the last one are at most it
step_low : (low : ℕ) (ends : List ℕ) (top : ℕ) → ends_step low ends top ≡ true → low ≤ top
unfolding ends_step
step_low low [] top h = let e : low ≡ top = eqb-true _ _ h in omega arith
step_low low (e ∷ ends) top h =
    let i : e ≤ top = step_low e ends top (and_right (eqb e low || eqb e (suc low)) _ h) in
    by_test (eqb e low)
    (λ k. let q : e ≡ low = eqb-true _ _ k in omega arith)
    (λ k. let o : (eqb e low || eqb e (suc low)) ≡ true = and_left _ _ h in
    let q : e ≡ suc low = eqb-true _ _ (simp k at o) in omega arith)

-- and end with it
step_last : (low : ℕ) (ends : List ℕ) (top : ℕ) → ends_step low ends top ≡ true → get_or (low ∷ ends) (length ends) 0 ≡ top
unfolding ends_step
step_last low [] top h = eqb-true _ _ h
step_last low (e ∷ ends) top h = step_last e ends top (and_right (eqb e low || eqb e (suc low)) _ h)

step_most : (low : ℕ) (ends : List ℕ) (top i : ℕ) → ends_step low ends top ≡ true → get_or ends i 0 ≤ top
unfolding ends_step
step_most low [] top i h = omega arith
step_most low (e ∷ ends) top zero h = step_low e ends top (and_right (eqb e low || eqb e (suc low)) _ h)
step_most low (e ∷ ends) top (suc i) h = step_most e ends top i (and_right (eqb e low || eqb e (suc low)) _ h)

-- and each is the one before it or one more
step-at : (low : ℕ) (ends : List ℕ) (top i : ℕ) → ends_step low ends top ≡ true → i < length ends
    → (get_or (low ∷ ends) i 0 ≤ get_or ends i 0) × (get_or ends i 0 ≤ suc (get_or (low ∷ ends) i 0))
unfolding ends_step
step-at low [] top i h k = absurd (omega arith)
step-at low (e ∷ ends) top zero h k =
    by_test (eqb e low)
    (λ m. let q : e ≡ low = eqb-true _ _ m in (omega arith, omega arith))
    (λ m. let o : (eqb e low || eqb e (suc low)) ≡ true = and_left _ _ h in
    let q : e ≡ suc low = eqb-true _ _ (simp m at o) in (omega arith, omega arith))
step-at low (e ∷ ends) top (suc i) h k = step-at e ends top i (and_right (eqb e low || eqb e (suc low)) _ h) (omega arith)

ends_step_lem : (ends : List ℕ) (top : ℕ) → ends_step 0 ends top ≡ true → EndsStep ends
ends_step_lem ends top h zero k = step-at 0 ends top 0 h k
ends_step_lem ends top h (suc i) k = step-at 0 ends top (suc i) h k

module _ (w : List ℕ) (f : well_formed w ≡ true) (leaf : ℕ → Bool) where
  abbrev es : List Entry
  es = entries w

  -- whether a time, a value and a key stay
  abbrev pub time_stays : ℕ → Bool
  time_stays i = has_diff (diff_end_body w) i && leaf i

  abbrev pub value_stays : ℕ → Bool
  value_stays = list_kept time_stays (time_end_body w)

  abbrev pub key_stays : ℕ → Bool
  key_stays = list_kept value_stays (val_end_body w)

  abbrev fs : List Entry
  fs = pick time_stays 0 es

  rise : rising es ≡ true
  rise = (front_is_chunk w f).rise

  out-keys : keys fs ≡ nodes value_stays item_of 0 0 (key_body w) (val_end_body w)
  out-keys = picked-keys time_stays es rise ∙ simp (keys_in_lem w f, val_ends_in_lem w f, time_ends_in_lem w f)

  out-val_ends : val_ends fs ≡ nodes value_stays end_of 0 0 (key_body w) (val_end_body w)
  out-val_ends = picked-val_ends time_stays es rise ∙ simp (keys_in_lem w f, val_ends_in_lem w f, time_ends_in_lem w f)

  out-vals : vals fs ≡ nodes time_stays item_of 0 0 (val_body w) (time_end_body w)
  out-vals = picked-vals time_stays es rise ∙ simp (vals_in_lem w f, time_ends_in_lem w f)

  out-time_ends : time_ends fs ≡ nodes time_stays end_of 0 0 (val_body w) (time_end_body w)
  out-time_ends = picked-time_ends time_stays es rise ∙ simp (vals_in_lem w f, time_ends_in_lem w f)

  pub count-times : length es ≡ length (time_body w)
  count-times = sym (length-map es (λ (e : Entry). e.time)) ∙ ap length (times_in_lem w f)

  out-times : times fs ≡ pick_at time_stays (λ (t : ℕ). get_or (time_body w) t 0) 0 (length (time_body w))
  out-times =
      sym (pick_at_list time_stays (time_body w) (λ (e : Entry). e.time) es 0 (sym (times_in_lem w f)))
      ∙ ap (λ (n : ℕ). pick_at time_stays (λ (t : ℕ). get_or (time_body w) t 0) 0 n) count-times

  stand : every stands fs ≡ true
  stand = picked_stands leaf (diff_end_body w) es 0 0 (sym (diff_ends_in_lem w f)) refl

  pub out_count : length fs ≡ count_kept time_stays 0 (length (time_body w))
  out_count = length-pick time_stays 0 es ∙ ap (λ (n : ℕ). count_kept time_stays 0 n) count-times

  out-diff_ends : diff_ends fs ≡ count_up 0 (count_kept time_stays 0 (length (time_body w)))
  out-diff_ends = diff_ends_up 0 fs stand ∙ ap (count_up 0) out_count

  out-diffs : diffs fs ≡ pick_at time_stays (λ (t : ℕ). get_or (diff_body w) (start_of (diff_end_body w) t) 0) 0 (length (time_body w))
  out-diffs =
      ap (map (λ (e : Entry). e.diff)) (keep_all stands fs stand)
      ∙ sym (pick_at-diffs leaf (diff_end_body w) (diff_body w) es 0 0 (sym (diff_ends_in_lem w f)) refl (sym (diffs_in_lem w f)))
      ∙ ap (λ (n : ℕ). pick_at time_stays (λ (t : ℕ). get_or (diff_body w) (start_of (diff_end_body w) t) 0) 0 n) count-times

  -- the words: the table, the keys and their ends, the values and theirs, the times, theirs and the diffs
  pub retained : chunk_of fs
      ≡ table_of (count_kept key_stays 0 (length (key_body w))) (count_kept value_stays 0 (length (val_body w))) (count_kept time_stays 0 (length (time_body w))) (count_kept time_stays 0 (length (time_body w)))
      ++ (nodes_out value_stays (key_body w) (val_end_body w) ++ (nodes_out time_stays (val_body w) (time_end_body w) ++ leaves_out time_stays (time_body w) (diff_end_body w) (diff_body w)))
  unfolding chunk_of
  retained =
      let k : length (keys fs) ≡ count_kept key_stays 0 (length (key_body w)) = ap length out-keys ∙ nodes_count value_stays (key_body w) (val_end_body w) (val_rows w f) in
      let v : length (vals fs) ≡ count_kept value_stays 0 (length (val_body w)) = ap length out-vals ∙ nodes_count time_stays (val_body w) (time_end_body w) (time_rows_lem w f) in
      let t : length (times fs) ≡ count_kept time_stays 0 (length (time_body w)) = length-map fs (λ (e : Entry). e.time) ∙ out_count in
      let d : length (diffs fs) ≡ count_kept time_stays 0 (length (time_body w)) = length-map (keep stands fs) (λ (e : Entry). e.diff) ∙ ap length (keep_all stands fs stand) ∙ out_count in
      simp (k, v, t, d) (simp (out-keys, out-val_ends, out-vals, out-time_ends, out-times, out-diff_ends, out-diffs, append_assoc))

  pub diffs-within : EndsWithin (diff_end_body w) (length (diff_body w))
  diffs-within i h =
      let s = step_most 0 (diff_end_body w) (nd w) i (parts w f).diff_ends_step in
      let l = length_diffs (contents_in w) w (its_place w f) in
      let k : start_of (diff_end_body w) i < get_or (diff_end_body w) i 0 = ltb-true _ _ h in
      omega arith

  pub its_bodies : Bodies (key_body w) (val_end_body w) (val_body w) (time_end_body w) (time_body w) (diff_end_body w) (diff_body w)
  its_bodies =
      record {
        over_vals = over_vals_lem w f;
        over_times = over_times_lem w f;
        time_rows = length_diff_ends (contents_in w) w (its_place w f) ∙ sym (length_times (contents_in w) w (its_place w f));
        diffs_within = diffs-within;
        diffs_step = ends_step_lem (diff_end_body w) (nd w) (parts w f).diff_ends_step;
      }

  -- as many entries stand as there are diffs
  pub stand_count : length (keep stands es) ≡ nd w
  stand_count = sym (length-map (keep stands es) (λ (e : Entry). e.diff)) ∙ ap length (diffs_in_lem w f) ∙ length_diffs (contents_in w) w (its_place w f)

  few-times : count_kept time_stays 0 (length (time_body w)) ≤ nd w
  few-times =
      let a : length fs ≤ length (keep stands es) = picked_few leaf (diff_end_body w) es 0 0 (sym (diff_ends_in_lem w f)) refl in
      let b = stand_count in
      let d = out_count in omega arith

  -- the lists and items counted are those of the bodies
  its_keys : (k v : ℕ) → ListsLeft value_stays (val_end_body w) k v → k ≡ count_kept key_stays 0 (length (key_body w))
  its_keys k v l = l.lists ∙ ap (count_kept key_stays 0) (sym (val_rows w f))

  its_vals : (k v : ℕ) → ListsLeft value_stays (val_end_body w) k v → v ≡ count_kept value_stays 0 (length (val_body w))
  its_vals k v l = l.items ∙ ap (count_kept value_stays 0) (rise_last (val_end_body w) (nv w) (parts w f).val_ends_rise ∙ sym (length_vals (contents_in w) w (its_place w f)))

  pub its_left : (k v t room : ℕ) → ListsLeft value_stays (val_end_body w) k v → t ≡ length fs → size w ≤ room
      → Left time_stays (key_body w) (val_end_body w) (val_body w) (time_end_body w) (time_body w) k v t × (table_size + 2 * k + 2 * v + 2 * t + t ≤ room)
  its_left k v t room l ht h =
      let gk : k ≡ count_kept key_stays 0 (length (key_body w)) = its_keys k v l in
      let gv : v ≡ count_kept value_stays 0 (length (val_body w)) = its_vals k v l in
      let gt : t ≡ count_kept time_stays 0 (length (time_body w)) = ht ∙ out_count in
      let mk = count_most key_stays 0 (length (key_body w)) in
      let mv = count_most value_stays 0 (length (val_body w)) in
      let mt = count_most time_stays 0 (length (time_body w)) in
      let lk = length_keys (contents_in w) w (its_place w f) in
      let lv = length_vals (contents_in w) w (its_place w f) in
      let lt = length_times (contents_in w) w (its_place w f) in
      let lke = length_val_ends (contents_in w) w (its_place w f) in
      let lve = length_time_ends (contents_in w) w (its_place w f) in
      let bk = capped 0 (nv w) (val_end_body w) (parts w f).val_ends_rise in
      let bv = capped 0 (nt w) (time_end_body w) (parts w f).time_ends_rise in
      let bt : nt w ≤ limit = leb-true _ _ (parts w f).few in
      let bd = few-times in (
        record {
          keys_left = gk ∙ sym (nodes_count value_stays (key_body w) (val_end_body w) (val_rows w f));
          vals_left = gv ∙ sym (nodes_count time_stays (val_body w) (time_end_body w) (time_rows_lem w f));
          times_left = gt;
          few_keys = omega arith;
          few_vals = omega arith;
          few_times = omega arith;
        },
        omega arith,
      )

  -- what is written is the chunk
  pub its_words : (k v t : ℕ) → ListsLeft value_stays (val_end_body w) k v → t ≡ length fs
      → layers_out time_stays (key_body w) (val_end_body w) (val_body w) (time_end_body w) (time_body w) (diff_end_body w) (diff_body w) k v t ≡ chunk_of fs
  its_words k v t l ht =
      (λ i. layers_out time_stays (key_body w) (val_end_body w) (val_body w) (time_end_body w) (time_body w) (diff_end_body w) (diff_body w) (its_keys k v l i) (its_vals k v l i) ((ht ∙ out_count) i))
      ∙ sym retained

-- where each end steps up to as many as there are, each list has an item
all_step : (ends : List ℕ) → ends_step 0 ends (length ends) ≡ true → (i : ℕ) → i < length ends → has_diff ends i ≡ true
all_step ends h i k =
    let c : count_kept (has_diff ends) 0 (length ends) + 0 ≡ start_of ends (0 + length ends) = count-diffs ends 0 (length ends) (ends_step_lem ends (length ends) h) (omega arith) in
    let z : 0 + length ends ≡ length ends = omega arith in
    let l : start_of ends (length ends) ≡ length ends = start_as ends (length ends) ∙ step_last 0 ends (length ends) h in
    let q = ap (start_of ends) z in
    count_full (has_diff ends) 0 (length ends) (omega arith) i (omega arith) (omega arith)

-- ends that rise to as many as these
pub rises_as : (ends : List ℕ) (n m : ℕ) → RisesTo ends n → n ≡ m → RisesTo ends m
rises_as ends n m r e = record { rise = r.rise; last = r.last ∙ e }

-- ---- what is read of a chunk

module _ (w : List ℕ) (f : well_formed w ≡ true) where
  pub settled_diffs : settled w ≡ true → AllDiffs (time_body w) (diff_end_body w)
  settled_diffs s i h =
      let lt = length_times (contents_in w) w (its_place w f) in
      let ld = length_diff_ends (contents_in w) w (its_place w f) in
      let e : nd w ≡ length (diff_end_body w) = eqb-true _ _ s ∙ sym ld in
      all_step (diff_end_body w) (ap (ends_step 0 (diff_end_body w)) (sym e) ∙ (parts w f).diff_ends_step) i (omega arith)

  module _ (p : ℕ → Bool) where
    pub left_in : (nk nv nt room : ℕ) → ListsOf p w nk nv → nt ≡ length (retained_of p w) → size w ≤ room
        → Left (time_kept p (time_body w) (diff_end_body w)) (key_body w) (val_end_body w) (val_body w) (time_end_body w) (time_body w) nk nv nt
        × (table_size + 2 * nk + 2 * nv + 2 * nt + nt ≤ room)
    unfolding retained_of
    left_in = its_left w f (λ i. p (get_or (time_body w) i 0))

    -- what is written is the chunk of what stays
    pub written_of : (nk nv nt : ℕ) → ListsOf p w nk nv → nt ≡ length (retained_of p w)
        → layers_out (time_kept p (time_body w) (diff_end_body w)) (key_body w) (val_end_body w) (val_body w) (time_end_body w) (time_body w) (diff_end_body w) (diff_body w) nk nv nt
        ≡ chunk_of (retained_of p w)
    unfolding retained_of
    written_of = its_words w f (λ i. p (get_or (time_body w) i 0))

  -- those that have a diff are those that stay of a filter
  pub standing_lists : (k v : ℕ) → ListsLeft (list_kept (has_diff (diff_end_body w)) (time_end_body w)) (val_end_body w) k v → ListsOf all_times w k v
  standing_lists k v l =
      let e : has_diff (diff_end_body w) ≡ time_kept all_times (time_body w) (diff_end_body w) = λ j i. and-true (has_diff (diff_end_body w) i) j in
      rw (sym e) l
    where
      and-true : (b : Bool) → b ≡ (b && true)
      and-true b = by_test b (λ k. simp k) (λ k. simp k)
