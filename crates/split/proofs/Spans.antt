-- A range of the records is a range of each layer: the lists that have an item of it, and their ends counted from its start.
use Prim.Native.Nat.{ℕ, zero, suc, ◌+◌, ◌-◌, ◌<◌, ◌≤◌, min}
use Rattle.std.specs.Prelude.{◌^◌}
use mathlib.Core.Path.{◌≡◌, refl, sym, ◌∙◌, ap}
use mathlib.Core.Bool.{Bool, true, false}
use mathlib.Core.List.{List, [], ◌∷◌, ◌++◌, map}
use native.Mathlib.Omega.{arith}
use native.Mathlib.Nat.{sub-zero}
use lib.Dec.{ltb, leb}
use lib.ListN.{length, get_or, take, drop, set, length-map, length-append, length-drop, get_or-eq_default}
use lib.Seq.{take-nil, drop-nil, length-take-le, get_or-take, get_or-drop, sets}
use borrow.Author.Tests.{lt-ltb, le-ltb, le-leb, lt-leb, ltb-true, ltb-false, leb-true, leb-false}
use Rattle.std.specs.List.Sorted.{IsPartitionPoint}
use Rattle.chunk.specs.declared.Range.{Range}
use Rattle.chunk.specs.Words.{rises_from, limit, nk, nv, nt, nd, key_body, val_end_body, val_body, time_end_body, time_body, diff_body}
use Rattle.chunk.specs.declared.Contents.{Contents}
use Rattle.chunk.specs.Contents.{start_of, layout_of}
use Rattle.laws.proofs.Tests.{by_test, and_left, and_right}
use Rattle.laws.specs.Picked.{count_kept, pick, count_up, nodes, item_of, end_of, list_kept, part, Over}
use Rattle.split.specs.Ranges.{within, EndsParted, Span, cut_ends, range_out, Ranged}
use Rattle.laws.proofs.Picked.{nodes-pick, pick-map, length-count_up}
use Rattle.laws.proofs.Ends.{start_below, start_as}
use Rattle.laws.proofs.Stores.{fill_two, fill_three, sets_past}
use Rattle.laws.proofs.Parts.{OutCuts, out_cuts}

-- a range
abbrev pub from_to : ℕ → ℕ → Range
from_to a b = record { lower = a; upper = b }

module _ (m : ℕ → Bool) (lo hi : ℕ) (h : lo ≤ hi) (q : (k : ℕ) → m k ≡ within lo hi k) where
  early : (k : ℕ) → k < lo → m k ≡ false
  early k l = q k ∙ simp (lt-leb lo k l)

  inside : (k : ℕ) → lo ≤ k → k < hi → m k ≡ true
  inside k l r = q k ∙ simp (le-leb lo k l, lt-ltb k hi r)

  late : (k : ℕ) → hi ≤ k → m k ≡ false
  late k r = q k ∙ simp (le-leb lo k (omega arith), le-ltb k hi r)

  -- how many of the range are before an index
  abbrev sofar : ℕ → ℕ
  sofar i = min i hi - lo

  step_early : (i : ℕ) → i < lo → sofar i ≡ sofar (suc i)
  step_early i l = omega arith

  step_inside : (i : ℕ) → lo ≤ i → i < hi → sofar (suc i) ≡ suc (sofar i)
  step_inside i l r = omega arith

  step_late : (i : ℕ) → hi ≤ i → sofar i ≡ sofar (suc i)
  step_late i r = omega arith

  count_range : (i n : ℕ) → sofar i + count_kept m i n ≡ sofar (i + n)
  unfolding count_kept
  count_range i zero = let e : i + 0 ≡ i = omega arith in simp e (omega arith)
  count_range i (suc n) =
      let ih : sofar (suc i) + count_kept m (suc i) n ≡ sofar (suc i + n) = count_range (suc i) n in
      let z : suc i + n ≡ i + suc n = omega arith in
      by_test (ltb i lo)
      (λ k. let l : i < lo = ltb-true _ _ k in let b : sofar i ≡ sofar (suc i) = step_early i l in simp (early i l, b) (ih ∙ ap sofar z))
      (λ k. let l : lo ≤ i = ltb-false _ _ k in
      by_test (ltb i hi)
      (λ j. let r : i < hi = ltb-true _ _ j in let b : sofar (suc i) ≡ suc (sofar i) = step_inside i l r in simp (inside i l r) (omega (arith, ih ∙ ap sofar z)))
      (λ j. let r : hi ≤ i = ltb-false _ _ j in let b : sofar i ≡ sofar (suc i) = step_late i r in simp (late i r, b) (ih ∙ ap sofar z)))

  -- the items of a range, by index
  pick_range_lem : {A : Type 0} (i : ℕ) (xs : List A) → pick m i xs ≡ part (lo - i) (hi - i) xs
  unfolding pick
  pick_range_lem i [] = sym (ap (take (hi - i - (lo - i))) (drop-nil (lo - i)) ∙ take-nil (hi - i - (lo - i)))
  pick_range_lem i (x ∷ xs) =
      let ih : pick m (suc i) xs ≡ part (lo - suc i) (hi - suc i) xs = pick_range_lem (suc i) xs in
      by_test (ltb i lo)
      (λ k. let l : i < lo = ltb-true _ _ k in
      let s : lo - i ≡ suc (lo - suc i) = omega arith in
      let t : hi - i ≡ suc (hi - suc i) = omega arith in
      let u : suc (hi - suc i) - suc (lo - suc i) ≡ hi - suc i - (lo - suc i) = omega arith in
      simp (early i l, s, t, u) ih)
      (λ k. let l : lo ≤ i = ltb-false _ _ k in
      let s : lo - i ≡ 0 = omega arith in
      let u : lo - suc i ≡ 0 = omega arith in
      by_test (ltb i hi)
      (λ j. let r : i < hi = ltb-true _ _ j in
      let t : hi - i ≡ suc (hi - suc i) = omega arith in
      simp (inside i l r, s, t, ih, u, sub-zero))
      (λ j. let r : hi ≤ i = ltb-false _ _ j in
      let t : hi - i ≡ 0 = omega arith in
      let v : hi - suc i ≡ 0 = omega arith in
      simp (late i r, s, t, ih, u, v)))

  -- and of the whole list
  pub pick-part : {A : Type 0} (xs : List A) → pick m 0 xs ≡ part lo hi xs
  pick-part xs = let a : lo - 0 ≡ lo = omega arith in let b : hi - 0 ≡ hi = omega arith in pick_range_lem 0 xs ∙ (λ j. part (a j) (b j) xs)

  nodes_cut : (i : ℕ) (xs ends : List ℕ) → rises_from i ends ≡ true → length xs ≡ length ends
      → nodes m end_of i (sofar i) xs ends ≡ nodes m item_of i (sofar i) (map sofar ends) ends
  unfolding nodes rises_from
  nodes_cut i [] [] r n = refl
  nodes_cut i [] (e ∷ ends) r n = absurd (omega arith)
  nodes_cut i (x ∷ xs) [] r n = absurd (omega arith)
  nodes_cut i (x ∷ xs) (e ∷ ends) r n =
      let b : i < e = ltb-true _ _ (and_left _ _ r) in
      let z : i + (e - i) ≡ e = omega arith in
      let c : sofar i + count_kept m i (e - i) ≡ sofar e = count_range i (e - i) ∙ ap sofar z in
      let ih : nodes m end_of e (sofar e) xs ends ≡ nodes m item_of e (sofar e) (map sofar ends) ends = nodes_cut e xs ends (and_right (ltb i e) _ r) (omega arith) in
      simp (c, ih)

-- a part of what f makes of a list
pub part-map : {A B : Type 0} (f : A → B) (a b : ℕ) (l : List A) → a ≤ b → map f (part a b l) ≡ part a b (map f l)
part-map f a b l h =
    ap (map f) (sym (pick-part (within a b) a b h (λ k. refl) l)) ∙ pick-map f (within a b) 0 l ∙ pick-part (within a b) a b h (λ k. refl) (map f l)

pub length_part : {A : Type 0} (a b : ℕ) (l : List A) → b ≤ length l → length (part a b l) ≡ b - a
length_part a b l h = length-take-le (b - a) (drop a l) (let d = length-drop a l in omega arith)

-- ---- one layer

module _ (m : ℕ → Bool) (items ends : List ℕ) (rows : length items ≡ length ends) (rise : rises_from 0 ends ≡ true) (r s : Range) (p : Span ends r s)
    (q : (k : ℕ) → m k ≡ within r.lower r.upper k) where
  order : r.lower ≤ r.upper
  order = omega (arith, p.filled)

  start_low : (k : ℕ) → k < s.upper → start_of ends k < r.upper
  start_low zero h = omega (arith, p.filled)
  start_low (suc j) h = p.below j h

  start_high : (k : ℕ) → s.upper ≤ k → k < length ends → r.upper ≤ start_of ends k
  start_high zero h l = absurd (omega (arith, p.some))
  start_high (suc j) h l = p.late j h (omega arith)

  abbrev before : ℕ → ℕ
  before = sofar m r.lower r.upper order q

  -- what a list has of the range, with what is before it
  list_count : (k : ℕ) → k < length ends → (start_of ends k < get_or ends k 0) × (before (start_of ends k) + count_kept m (start_of ends k) (get_or ends k 0 - start_of ends k) ≡ before (get_or ends k 0))
  list_count k l =
      let b : start_of ends k < get_or ends k 0 = rw start_as (start_below 0 ends k rise l) in
      let z : start_of ends k + (get_or ends k 0 - start_of ends k) ≡ get_or ends k 0 = omega arith in
      (b, count_range m r.lower r.upper order q (start_of ends k) (get_or ends k 0 - start_of ends k) ∙ ap before z)

  -- the lists that have an item of the range are those of its span
  pub list_within : (k : ℕ) → list_kept m ends k ≡ within s.lower s.upper k
  unfolding list_kept count_kept
  list_within k =
      let f = p.filled in
      by_test (ltb k (length ends))
      (λ t. let l : k < length ends = ltb-true _ _ t in
      let c = list_count k l in
      let n : ℕ = count_kept m (start_of ends k) (get_or ends k 0 - start_of ends k) in
      by_test (ltb k s.lower)
      (λ a. let ka : k < s.lower = ltb-true _ _ a in
      let e = p.early k ka in
      le-ltb 0 n (omega (arith, c.0, c.1)) ∙ sym (simp (lt-leb s.lower k ka)))
      (λ a. let ka : s.lower ≤ k = ltb-false _ _ a in
      let e = p.above k ka l in
      by_test (ltb k s.upper)
      (λ b. let kb : k < s.upper = ltb-true _ _ b in
      let g = start_low k kb in
      lt-ltb 0 n (omega (arith, c.0, c.1)) ∙ sym (simp (le-leb s.lower k ka, b)))
      (λ b. let kb : s.upper ≤ k = ltb-false _ _ b in
      let g = start_high k kb l in
      le-ltb 0 n (omega (arith, c.0, c.1)) ∙ sym (simp (le-leb s.lower k ka, b)))))
      (λ t. let l : length ends ≤ k = ltb-false _ _ t in
      let z : get_or ends k 0 ≡ 0 = get_or-eq_default ends 0 l in
      let y : 0 - start_of ends k ≡ 0 = omega arith in
      let w = p.within in let o = p.some in
      simp (z, y, le-leb s.lower k (omega arith), le-ltb k s.upper (omega arith)))

  lists : s.lower ≤ s.upper
  lists = omega (arith, p.some)

  pub range_items : nodes m item_of 0 0 items ends ≡ part s.lower s.upper items
  range_items =
      nodes-pick m ends items ends 0 0 0 refl refl rows ∙ pick-part (list_kept m ends) s.lower s.upper lists list_within items

  pub range_ends : nodes m end_of 0 0 items ends ≡ cut_ends r (part s.lower s.upper ends)
  range_ends =
      let z : 0 ≡ before 0 = omega arith in
      ap (λ (c : ℕ). nodes m end_of 0 c items ends) z ∙ nodes_cut m r.lower r.upper order q 0 items ends rise rows
      ∙ nodes-pick m ends (map before ends) ends 0 (before 0) 0 refl refl (length-map ends before)
      ∙ pick-part (list_kept m ends) s.lower s.upper lists list_within (map before ends)
      ∙ sym (part-map before s.lower s.upper ends lists)

-- ---- the span of a range

-- where the ends at or below a number part from the others
pub ends_parted : (ends : List ℕ) (number n : ℕ) → n ≤ length ends → IsPartitionPoint (λ (e : ℕ). leb e number ≡ true) (λ (e : ℕ). leb e number ≡ false) ends n → EndsParted ends number n
ends_parted ends number n h p =
    record {
      within = h;
      early = λ k l. leb-true _ _ (p.0 k 0 (omega arith) l);
      late = λ k l g. leb-false _ _ (p.1 k 0 l g);
    }

-- some list ends above what is below the last end
parted_inside : (ends : List ℕ) (number n count : ℕ) → EndsParted ends number n → length ends ≡ count → number < start_of ends count → n < length ends
parted_inside ends number n zero p e h = absurd (omega arith)
parted_inside ends number n (suc j) p e h =
    by_test (ltb n (suc j))
    (λ k. let l : n < suc j = ltb-true _ _ k in omega arith)
    (λ k. let l : suc j ≤ n = ltb-false _ _ k in let a : get_or ends j 0 ≤ number = p.early j (omega arith) in absurd (omega arith))

pub spanned : (ends : List ℕ) (r : Range) (a b : ℕ) → r.lower < r.upper → r.upper ≤ start_of ends (length ends)
    → EndsParted ends r.lower a → EndsParted ends (r.upper - 1) b → Span ends r (from_to a (b + 1))
spanned ends r a b f h p q =
    let l : b < length ends = parted_inside ends (r.upper - 1) b (length ends) q refl (omega arith) in
    let o : a ≤ b =
    by_test (leb a b) (λ k. leb-true _ _ k)
    (λ k. let g : b < a = leb-false _ _ k in
    let x : get_or ends b 0 ≤ r.lower = p.early b g in
    let y : r.upper - 1 < get_or ends b 0 = q.late b (omega arith) l in absurd (omega arith)) in
    record {
      filled = f;
      some = omega arith;
      within = omega arith;
      early = p.early;
      above = p.late;
      below = λ k g. let x : get_or ends k 0 ≤ r.upper - 1 = q.early k (omega arith) in omega arith;
      late = λ k g j. let x : r.upper - 1 < get_or ends k 0 = q.late k (omega arith) j in omega arith;
    }

-- ---- a layer as it is written

-- each end less the start of the range, and the last one the range's length
cut_last : (lo hi : ℕ) (l : List ℕ) (n : ℕ) → length l ≡ suc n → ((k : ℕ) → k < n → get_or l k 0 < hi) → hi ≤ get_or l n 0
    → set (map (λ (e : ℕ). e - lo) l) n (hi - lo) ≡ map (λ (e : ℕ). min e hi - lo) l
cut_last lo hi [] n e f h = absurd (omega arith)
cut_last lo hi (x ∷ []) zero e f h = let z : min x hi ≡ hi = omega arith in simp z
cut_last lo hi (x ∷ y ∷ l) zero e f h = absurd (omega arith)
cut_last lo hi (x ∷ l) (suc n) e f h =
    let b : x < hi = f 0 (omega arith) in
    let z : min x hi ≡ x = omega arith in
    simp z (ap (λ (t : List ℕ). (x - lo) ∷ t) (cut_last lo hi l n (omega arith) (λ k g. f (suc k) (omega arith)) h))

module _ (ends : List ℕ) (r s : Range) (p : Span ends r s) where
  abbrev these : List ℕ
  these = part s.lower s.upper ends

  -- an end of the span
  end_at : (k : ℕ) → k < s.upper - s.lower → get_or these k 0 ≡ get_or ends (s.lower + k) 0
  end_at k h = get_or-take (s.upper - s.lower) (drop s.lower ends) k 0 h ∙ get_or-drop s.lower ends k 0

  count : length these ≡ s.upper - s.lower
  count = length_part s.lower s.upper ends p.within

  -- its ends are at or above the start of the range
  pub ends_above : (k : ℕ) → k < length these → r.lower ≤ get_or these k 0
  ends_above k h =
      let w = p.within in let c = count in
      let a : r.lower < get_or ends (s.lower + k) 0 = p.above (s.lower + k) (omega arith) (omega arith) in
      let e = end_at k (omega arith) in omega arith

  pub range_written : (items out : List ℕ) → length items ≡ length ends → length out ≡ (s.upper - s.lower) + (s.upper - s.lower)
      → set (sets (sets out 0 (part s.lower s.upper items)) (s.upper - s.lower) (map (λ (e : ℕ). e - r.lower) these)) (s.upper - s.lower + (s.upper - s.lower) - 1) (r.upper - r.lower)
      ≡ range_out items ends r s
  range_written items out rows h =
      let n : ℕ = s.upper - s.lower in
      let I : List ℕ = part s.lower s.upper items in
      let E : List ℕ = map (λ (e : ℕ). e - r.lower) these in
      let o = p.some in let w = p.within in let c = count in
      let li : length I ≡ s.upper - s.lower = length_part s.lower s.upper items (omega arith) in
      let le : length E ≡ s.upper - s.lower = length-map these (λ (e : ℕ). e - r.lower) ∙ count in
      let z : s.upper - s.lower + (s.upper - s.lower) - 1 ≡ length I + (s.upper - s.lower - 1) = omega arith in
      let last : r.upper ≤ get_or these (s.upper - s.lower - 1) 0 =
      (let e = end_at (s.upper - s.lower - 1) (omega arith) in
      let g : r.upper ≤ get_or ends (s.lower + (s.upper - s.lower - 1)) 0 = p.late (s.lower + (s.upper - s.lower - 1)) (omega arith) (omega arith) in omega arith) in
      ap (λ (l : List ℕ). set l (n + n - 1) (r.upper - r.lower)) (fill_two I E out n (omega arith) (omega arith))
      ∙ ap (λ (k : ℕ). set (I ++ E) k (r.upper - r.lower)) z
      ∙ sets_past ((r.upper - r.lower) ∷ []) I E (n - 1)
      ∙ ap (λ (l : List ℕ). I ++ l) (cut_last r.lower r.upper these (n - 1) (omega arith)
      (λ k g. let e = end_at k (omega arith) in let b : get_or ends (s.lower + k) 0 < r.upper = p.below (s.lower + k) (omega arith) in omega arith) last)

-- ---- the layers' words

pub length-range_out : (items ends : List ℕ) (r s : Range) → length items ≡ length ends → Span ends r s
    → length (range_out items ends r s) ≡ (s.upper - s.lower) + (s.upper - s.lower)
length-range_out items ends r s rows p =
    let w = p.within in
    let li = length_part s.lower s.upper items (omega arith) in
    let le = length_part s.lower s.upper ends w in
    let m = length-map (part s.lower s.upper ends) (λ (e : ℕ). min e r.upper - r.lower) in
    let a = length-append (part s.lower s.upper items) (cut_ends r (part s.lower s.upper ends)) in
    omega arith

-- the times, the ends of their lists and the diffs
abbrev pub run_out : List ℕ → List ℕ → Range → List ℕ
run_out times diffs r =
    part r.lower r.upper times ++ (count_up 0 (r.upper - r.lower) ++ part r.lower r.upper diffs)

module _ (times diffs : List ℕ) (r : Range) (rows : length diffs ≡ length times) (h : r.upper ≤ length times) where
  pub times-count : length (part r.lower r.upper times) ≡ r.upper - r.lower
  times-count = length_part r.lower r.upper times h

  pub diffs-count : length (part r.lower r.upper diffs) ≡ r.upper - r.lower
  diffs-count = length_part r.lower r.upper diffs (omega arith)

  pub run_written : (out after : List ℕ) → length out ≡ (r.upper - r.lower) + ((r.upper - r.lower) + (r.upper - r.lower))
      → after ≡ sets (sets (sets out 0 (part r.lower r.upper times)) (length (part r.lower r.upper times)) (count_up 0 (length (part r.lower r.upper times)))) (length (part r.lower r.upper times) + length (part r.lower r.upper times)) (part r.lower r.upper diffs)
      → after ≡ run_out times diffs r
  run_written out after l q =
      let t = times-count in let d = diffs-count in
      let u : length (count_up 0 (r.upper - r.lower)) ≡ r.upper - r.lower = length-count_up 0 (r.upper - r.lower) in
      q ∙ ap (λ (n : ℕ). sets (sets (sets out 0 (part r.lower r.upper times)) n (count_up 0 n)) (n + n) (part r.lower r.upper diffs)) t
      ∙ fill_three (part r.lower r.upper times) (count_up 0 (r.upper - r.lower)) (part r.lower r.upper diffs) out (r.upper - r.lower) ((r.upper - r.lower) + (r.upper - r.lower)) (omega arith) (omega arith) (omega arith)

  pub length-run_out : length (run_out times diffs r) ≡ (r.upper - r.lower) + ((r.upper - r.lower) + (r.upper - r.lower))
  length-run_out =
      let t = times-count in let d = diffs-count in
      let u = length-count_up 0 (r.upper - r.lower) in
      let a = length-append (part r.lower r.upper times) (count_up 0 (r.upper - r.lower) ++ part r.lower r.upper diffs) in
      let b = length-append (count_up 0 (r.upper - r.lower)) (part r.lower r.upper diffs) in
      omega arith

-- the bodies of a settled chunk, which belong together: lists below the keys and below the values, and one diff to a time
pub record Layered (w : List ℕ) : Type 0 where
  pub over_vals : Over (key_body w) (val_end_body w) (length (val_body w))
  pub over_times : Over (val_body w) (time_end_body w) (length (time_body w))
  pub keys_all : length (key_body w) ≡ nk w
  pub vals_all : length (val_body w) ≡ nv w
  pub times_all : length (time_body w) ≡ nt w
  pub diffs_all : length (diff_body w) ≡ nt w
  pub settles : nd w ≡ nt w
  pub few_keys : nk w ≤ limit
  pub few_vals : nv w ≤ limit
  pub few_times : nt w ≤ limit

-- the output's places
pub range_cuts : {w : List ℕ} {ks vs ts : Range} {room : ℕ} {lay : Contents}
    → Layered w → Ranged w ks vs ts room
    → ((ks.upper - ks.lower ≤ 2 ^ 60) × (vs.upper - vs.lower ≤ 2 ^ 60) × (ts.upper - ts.lower ≤ 2 ^ 60) × (ts.upper - ts.lower ≤ 2 ^ 60) → lay ≡ layout_of (ks.upper - ks.lower) (vs.upper - vs.lower) (ts.upper - ts.lower) (ts.upper - ts.lower))
    → OutCuts lay (ks.upper - ks.lower) (vs.upper - vs.lower) (ts.upper - ts.lower) room
range_cuts {ks = ks} {vs = vs} {ts = ts} {room = room} {lay = lay} l r e =
    let a = r.keys_in.within in let b = r.vals_in.within in let d = r.times_in in
    let fk = l.few_keys in let fv = l.few_vals in let ft = l.few_times in
    let rk = l.over_vals.rows in let rv = l.over_times.rows in let f = r.fits in
    let lk = l.keys_all in let lv = l.vals_all in let s = l.settles in
    out_cuts lay (ks.upper - ks.lower) (vs.upper - vs.lower) (ts.upper - ts.lower) room (e (omega arith, omega arith, omega arith, omega arith)) (omega arith) (omega arith) (omega arith) (omega arith)
