-- A layer on its way: what is written, with what is left to write, is the layer.
use Prim.Native.Nat.{ℕ, zero, suc, ◌+◌, ◌-◌, ◌<◌, ◌≤◌}
use mathlib.Core.Path.{◌≡◌, refl, sym, ◌∙◌, ap}
use mathlib.Core.Bool.{Bool, true, false, cond, ◌&&◌}
use mathlib.Core.List.{List, [], ◌∷◌}
use native.Mathlib.Omega.{arith}
use native.Mathlib.Numerals.{add-one}
use lib.Dec.{ltb}
use lib.ListN.{length, drop, get_or, set, length-set, length-drop, length-append, drop_of_length-le}
use lib.Seq.{sets, drop-cons}
use borrow.Author.Tests.{lt-ltb, le-ltb, ltb-true, ltb-false}
use Rattle.chunk.specs.Words.{rises_from}
use Rattle.chunk.specs.Contents.{start_of}
use Rattle.laws.proofs.Lists.{no_length}
use Rattle.laws.proofs.Tests.{by_test, and_left, and_right}
use Rattle.laws.specs.Picked.{count_kept, nodes, item_of, end_of, list_kept, pick}
use Rattle.retain.specs.Layers.{nodes_out, bit}
use Rattle.retain.specs.Onward.{nodes_from, Writing}
use Rattle.retain.proofs.Counts.{count_most, count_none, count_add}
use Rattle.laws.proofs.Picked.{nodes-pick}
use Rattle.retain.proofs.Filtered.{length-pick}
use Rattle.laws.proofs.Stores.{set-sets, set_over, fill_two}

-- as many items as ends
nodes_lengths : {A B C : Type 0} (m : ℕ → Bool) (g : A → ℕ → B) (h : A → ℕ → C) (i c : ℕ) (xs : List A) (ends : List ℕ)
    → length (nodes m g i c xs ends) ≡ length (nodes m h i c xs ends)
unfolding nodes
nodes_lengths m g h i c [] ends = refl
nodes_lengths m g h i c (x ∷ xs) [] = refl
nodes_lengths m g h i c (x ∷ xs) (e ∷ ends) =
    let n : ℕ = count_kept m i (e - i) in
    let ih : length (nodes m g e (c + n) xs ends) ≡ length (nodes m h e (c + n) xs ends) = nodes_lengths m g h e (c + n) xs ends in
    by_test (ltb 0 n) (λ k. simp (k, ih)) (λ k. simp (k, ih))

module _ (m : ℕ → Bool) (items ends : List ℕ) (rows : length items ≡ length ends) where
  abbrev rest : {B : Type 0} → (ℕ → ℕ → B) → ℕ → ℕ → ℕ → List B
  rest = nodes_from m items ends

  turn : {B : Type 0} (g : ℕ → ℕ → B) (start total i left : ℕ) → i < length items → left ≡ count_kept m start (get_or ends i 0 - start)
      → rest g start total i ≡ cond (ltb 0 left) (g (get_or items i 0) (total + left) ∷ rest g (get_or ends i 0) (total + left) (i + 1)) (rest g (get_or ends i 0) (total + left) (i + 1))
  unfolding nodes
  turn g start total i left h q =
      let he : i < length ends = omega arith in
      rw (add-one, drop-cons items i 0 h, drop-cons ends i 0 he, q)

  pub writing_start : (n : ℕ) (out : List ℕ) → rises_from 0 ends ≡ true → n ≡ length (nodes m item_of 0 0 items ends) → length out ≡ n + n → Writing m items ends n out 0 0 0 0
  writing_start n out r e h =
      let l = nodes_lengths m item_of end_of 0 0 items ends in
      record {
        here = refl;
        rise = r;
        under = omega arith;
        place = omega arith;
        room = h;
        whole = fill_two (nodes m item_of 0 0 items ends) (nodes m end_of 0 0 items ends) out (n + 0) (omega arith) (omega arith);
      }

  -- the next list starts below its end, and the rest rise from there
  pub next_above : (start i : ℕ) → i < length items → rises_from start (drop i ends) ≡ true → (start < get_or ends i 0) × (rises_from (get_or ends i 0) (drop (i + 1) ends) ≡ true)
  unfolding rises_from
  next_above start i h r =
      let he : i < length ends = omega arith in
      let q : (ltb start (get_or ends i 0) && rises_from (get_or ends i 0) (drop (i + 1) ends)) ≡ true = rw add-one (rw (drop-cons ends i 0 he) at r) in
      (ltb-true _ _ (and_left _ _ q), and_right (ltb start (get_or ends i 0)) _ q)

  -- what a list leaves is at most what it has
  pub fits : (n : ℕ) (out : List ℕ) (start total at i left : ℕ) → Writing m items ends n out start total at i → i < length items
      → left ≡ count_kept m start (get_or ends i 0 - start) → total + left ≤ get_or ends i 0
  fits n out start total at i left w h q =
      let a = (next_above start i h w.rise).0 in
      let b = count_most m start (get_or ends i 0 - start) in
      let u = w.under in omega arith

  pub writing_put : (n : ℕ) (out : List ℕ) (start total at i left : ℕ) → Writing m items ends n out start total at i → i < length items
      → left ≡ count_kept m start (get_or ends i 0 - start) → 0 < left
      → Writing m items ends n (set (set out at (get_or items i 0)) (n + at) (total + left)) (get_or ends i 0) (total + left) (at + 1) (i + 1)
  writing_put n out start total at i left w h q k =
      let e : ℕ = get_or ends i 0 in
      let x : ℕ = get_or items i 0 in
      let I : List ℕ = rest item_of e (total + left) (i + 1) in
      let E : List ℕ = rest end_of e (total + left) (i + 1) in
      let ti : rest item_of start total i ≡ x ∷ I = turn item_of start total i left h q ∙ simp (lt-ltb _ _ k) in
      let te : rest end_of start total i ≡ (total + left) ∷ E = turn end_of start total i left h q ∙ simp (lt-ltb _ _ k) in
      let p : at + suc (length I) ≡ n = ap (λ (l : List ℕ). at + length l) (sym ti) ∙ w.place in
      let s1 : at + 1 ≡ suc at = add-one at in
      let s2 : n + suc at ≡ suc (n + at) = omega arith in
      record {
        here = ap (start_of ends) (sym (add-one i));
        rise = (next_above start i h w.rise).1;
        under = fits n out start total at i left w h q;
        place = omega arith;
        room = length-set (set out at x) (n + at) (total + left) ∙ length-set out at x ∙ w.room;
        whole =
            simp (s1, s2)
            (ap (λ (l : List ℕ). sets l (suc (n + at)) E) (sym (set-sets I (set out at x) (suc at) (n + at) (total + left) (omega arith)))
            ∙ sym (ap (λ (l : List ℕ). sets (sets out at l) (n + at) (rest end_of start total i)) ti
            ∙ ap (λ (l : List ℕ). sets (sets out at (x ∷ I)) (n + at) l) te)
            ∙ w.whole);
      }

  pub writing_skip : (n : ℕ) (out : List ℕ) (start total at i left : ℕ) → Writing m items ends n out start total at i → i < length items → at < n
      → left ≡ count_kept m start (get_or ends i 0 - start) → left ≤ 0
      → Writing m items ends n (set (set out at (get_or items i 0)) (n + at) (total + left)) (get_or ends i 0) (total + left) at (i + 1)
  writing_skip n out start total at i left w h g q k =
      let e : ℕ = get_or ends i 0 in
      let x : ℕ = get_or items i 0 in
      let z : left ≡ 0 = omega arith in
      let I : List ℕ = rest item_of e (total + left) (i + 1) in
      let E : List ℕ = rest end_of e (total + left) (i + 1) in
      let ti : rest item_of start total i ≡ I = turn item_of start total i left h q ∙ simp (le-ltb 0 left k) in
      let te : rest end_of start total i ≡ E = turn end_of start total i left h q ∙ simp (le-ltb 0 left k) in
      let p : at + length I ≡ n = ap (λ (l : List ℕ). at + length l) (sym ti) ∙ w.place in
      let l : length I ≡ length E = nodes_lengths m item_of end_of e (total + left) (drop (i + 1) items) (drop (i + 1) ends) in
      let b = next_above start i h w.rise in let u = w.under in
      record {
        here = ap (start_of ends) (sym (add-one i));
        rise = b.1;
        under = omega (arith, b.0);
        place = p;
        room = length-set (set out at x) (n + at) (total + left) ∙ length-set out at x ∙ w.room;
        whole =
            ap (λ (y : List ℕ). sets y (n + at) E) (sym (set-sets I (set out at x) at (n + at) (total + left) (omega arith)))
            ∙ set_over E (sets (set out at x) at I) (n + at) (total + left) (omega arith)
            ∙ ap (λ (y : List ℕ). sets y (n + at) E) (set_over I out at x (omega arith))
            ∙ sym (λ j. sets (sets out at (ti j)) (n + at) (te j))
            ∙ w.whole;
      }

  -- once all are written a list leaves none
  writing_still : (n : ℕ) (out : List ℕ) (start total at i left : ℕ) → Writing m items ends n out start total at i → i < length items → n ≤ at
      → left ≡ count_kept m start (get_or ends i 0 - start) → (left ≡ 0) × Writing m items ends n out (get_or ends i 0) (total + left) at (i + 1)
  writing_still n out start total at i left w h g q =
      let e : ℕ = get_or ends i 0 in
      let I : List ℕ = rest item_of e (total + left) (i + 1) in
      let E : List ℕ = rest end_of e (total + left) (i + 1) in
      let p = w.place in
      let z : left ≡ 0 =
      by_test (ltb 0 left)
      (λ k. let ti : rest item_of start total i ≡ get_or items i 0 ∷ I = turn item_of start total i left h q ∙ simp k in let l = ap length ti in absurd (omega arith))
      (λ k. let b : left ≤ 0 = ltb-false _ _ k in omega arith) in
      let k : left ≤ 0 = omega arith in
      let ti : rest item_of start total i ≡ I = turn item_of start total i left h q ∙ simp (le-ltb 0 left k) in
      let te : rest end_of start total i ≡ E = turn end_of start total i left h q ∙ simp (le-ltb 0 left k) in
      let b = next_above start i h w.rise in let u = w.under in (
        z,
        record {
          here = ap (start_of ends) (sym (add-one i));
          rise = b.1;
          under = omega (arith, b.0);
          place = ap (λ (l : List ℕ). at + length l) (sym ti) ∙ w.place;
          room = w.room;
          whole = sym (λ j. sets (sets out at (ti j)) (n + at) (te j)) ∙ w.whole;
        },
      )

  -- a list is looked at: its item and end are written, and count where it has something left
  pub writing_next : (n : ℕ) (out : List ℕ) (start total at i done : ℕ) → Writing m items ends n out start total at i → i < length items → at < n
      → done ≡ total + count_kept m start (get_or ends i 0 - start)
      → Writing m items ends n (set (set out at (get_or items i 0)) (n + at) done) (get_or ends i 0) done (at + bit (ltb total done)) (i + 1)
  unfolding bit
  writing_next n out start total at i done w h g q =
      let c : ℕ = count_kept m start (get_or ends i 0 - start) in
      by_test (ltb total done)
      (λ k. let b : total < done = ltb-true _ _ k in rw (k, q) (writing_put n out start total at i c w h refl (omega arith)))
      (λ k. let b : done ≤ total = ltb-false _ _ k in let s : at + 0 ≡ at = omega arith in rw (k, s, q) (writing_skip n out start total at i c w h g refl (omega arith)))

  pub writing_past : (n : ℕ) (out : List ℕ) (start total at i done : ℕ) → Writing m items ends n out start total at i → i < length items → n ≤ at
      → done ≡ total + count_kept m start (get_or ends i 0 - start)
      → Writing m items ends n out (get_or ends i 0) done (at + bit (ltb total done)) (i + 1)
  unfolding bit
  writing_past n out start total at i done w h g q =
      let v = writing_still n out start total at i (count_kept m start (get_or ends i 0 - start)) w h g refl in
      let z = v.0 in
      let s : at + 0 ≡ at = omega arith in
      let k : ltb total done ≡ false = le-ltb total done (omega arith) in
      rw (k, s, q) v.1

  -- as many are left to write as lists have something left
  pub writing_left : (n : ℕ) (out : List ℕ) (start total at i : ℕ) → Writing m items ends n out start total at i → i ≤ length items
      → at + count_kept (list_kept m ends) i (length items - i) ≡ n
  writing_left n out start total at i w h =
      let d = length-drop i items in
      let f = length-drop i ends in
      let p : nodes_from m items ends item_of start total i ≡ pick (list_kept m ends) i (drop i items) = nodes-pick m ends (drop i items) (drop i ends) start total i refl (sym w.here) (omega arith) in
      ap (λ (k : ℕ). at + count_kept (list_kept m ends) i k) (sym d) ∙ ap (λ (k : ℕ). at + k) (sym (ap length p ∙ length-pick (list_kept m ends) i (drop i items))) ∙ w.place

  -- once all are written no item of a list to come stays
  pub silent : (d n : ℕ) (out : List ℕ) (start total at i : ℕ) → i + d ≡ length items → Writing m items ends n out start total at i → n ≤ at
      → (start ≤ start_of ends (length ends)) × (count_kept m start (start_of ends (length ends) - start) ≡ 0)
  silent zero n out start total at i s w g =
      let e : start_of ends i ≡ start_of ends (length ends) = (let z : i ≡ length ends = omega arith in ap (start_of ends) z) in
      let h = w.here in
      (omega arith, count_none m start (start_of ends (length ends)) (omega arith))
  silent (suc d) n out start total at i s w g =
      let E : ℕ = start_of ends (length ends) in
      let e : ℕ = get_or ends i 0 in
      let v = writing_still n out start total at i (count_kept m start (e - start)) w (omega arith) g refl in
      let r = silent d n out e (total + count_kept m start (e - start)) at (i + 1) (omega arith) v.1 g in
      let a = (next_above start i (omega arith) w.rise).0 in
      let b = r.0 in
      let z : E - start ≡ (e - start) + (E - e) = omega arith in
      let y : start + (e - start) ≡ e = omega arith in
      let q : count_kept m start (E - start) ≡ count_kept m start (e - start) + count_kept m e (E - e) =
      ap (count_kept m start) z ∙ count_add m start (e - start) (E - e) ∙ ap (λ (k : ℕ). count_kept m start (e - start) + count_kept m k (E - e)) y in
      let v0 = v.0 in let r1 = r.1 in
      (omega arith, omega arith)

  -- while some are left to write there is a list to look at
  pub writing_within : (n : ℕ) (out : List ℕ) (start total at i : ℕ) → Writing m items ends n out start total at i → at < n → i < length items
  unfolding nodes
  writing_within n out start total at i w h =
      by_test (ltb i (length items)) (λ k. ltb-true _ _ k)
      (λ k. let p : at + 0 ≡ n = simp (drop_of_length-le items (ltb-false _ _ k)) at w.place in absurd (omega arith))

  pub writing_end : (n : ℕ) (out : List ℕ) (start total at i : ℕ) → Writing m items ends n out start total at i → n ≤ at → out ≡ nodes_out m items ends
  writing_end n out start total at i w h =
      let p = w.place in
      let l = nodes_lengths m item_of end_of start total (drop i items) (drop i ends) in
      let zi : rest item_of start total i ≡ [] = no_length (rest item_of start total i) (omega arith) in
      let ze : rest end_of start total i ≡ [] = no_length (rest end_of start total i) (omega arith) in
      simp (zi, ze) at w.whole

-- a layer's words: as many items as ends
pub length-nodes_out : (m : ℕ → Bool) (items ends : List ℕ) (n : ℕ) → n ≡ length (nodes m item_of 0 0 items ends) → length (nodes_out m items ends) ≡ n + n
length-nodes_out m items ends n h =
    let l = length-append (nodes m item_of 0 0 items ends) (nodes m end_of 0 0 items ends) in
    let e = nodes_lengths m item_of end_of 0 0 items ends in
    omega arith
