-- The times and their diffs on their way: what is written, with what is left to write and the ends, is the whole.
use Prim.Native.Nat.{ℕ, zero, suc, ◌+◌, ◌-◌, ◌<◌, ◌≤◌}
use mathlib.Core.Path.{◌≡◌, refl, sym, ◌∙◌, ap}
use mathlib.Core.Bool.{Bool, true, false}
use mathlib.Core.List.{List, [], ◌∷◌, ◌++◌}
use native.Mathlib.Omega.{arith}
use lib.Dec.{ltb}
use lib.ListN.{length, get_or, set, length-append, length-set}
use lib.Seq.{sets}
use borrow.Author.Tests.{ltb-true, ltb-false}
use Rattle.chunk.specs.Contents.{start_of}
use Rattle.laws.proofs.Lists.{no_length}
use Rattle.laws.proofs.Tests.{by_test}
use Rattle.laws.proofs.Picked.{length-count_up}
use Rattle.laws.specs.Picked.{count_kept, count_up}
use Rattle.retain.specs.Layers.{pick_at, leaves_out, has_diff, bit, EndsWithin, EndsStep}
use Rattle.retain.specs.Onward.{Leaving}
use Rattle.retain.proofs.Counts.{count_in, count_out, count_none, count_add}
use Rattle.laws.proofs.Stores.{set-sets, set_over, sets-sets, fill_three}

length-pick_at : (m : ℕ → Bool) (f : ℕ → ℕ) (i n : ℕ) → length (pick_at m f i n) ≡ count_kept m i n
unfolding pick_at count_kept
length-pick_at m f i zero = refl
length-pick_at m f i (suc n) = by_test (m i) (λ k. simp (k, length-pick_at m f (suc i) n)) (λ k. simp (k, length-pick_at m f (suc i) n))

-- ---- what is left

pick_in : (m : ℕ → Bool) (f : ℕ → ℕ) (i to : ℕ) → i < to → m i ≡ true → pick_at m f i (to - i) ≡ f i ∷ pick_at m f (i + 1) (to - (i + 1))
unfolding pick_at
pick_in m f i to h k =
    let q : to - i ≡ suc (to - (i + 1)) = omega arith in
    let s : i + 1 ≡ suc i = omega arith in
    simp (q, s, k)

pick_out : (m : ℕ → Bool) (f : ℕ → ℕ) (i to : ℕ) → i < to → m i ≡ false → pick_at m f i (to - i) ≡ pick_at m f (i + 1) (to - (i + 1))
unfolding pick_at
pick_out m f i to h k =
    let q : to - i ≡ suc (to - (i + 1)) = omega arith in
    let s : i + 1 ≡ suc i = omega arith in
    simp (q, s, k)

-- where some are left, one is
some_left : (m : ℕ → Bool) (i n : ℕ) → 0 < count_kept m i n → (k : ℕ) × ((i ≤ k) × ((k < i + n) × (m k ≡ true)))
unfolding count_kept
some_left m i zero h = absurd (omega arith)
some_left m i (suc n) h =
    by_test (m i)
    (λ k. (i, (omega arith, (omega arith, k))))
    (λ k. let w = some_left m (suc i) n (simp k at h) in (w.0, (omega (arith, w.1.0), (omega (arith, w.1.1.0), w.1.1.1))))

-- a list starts no earlier than the ones before it
starts_rise : (ends : List ℕ) (i d : ℕ) → EndsStep ends → i + d ≤ length ends → start_of ends i ≤ start_of ends (i + d)
starts_rise ends i zero s h = let e : i ≡ i + 0 = omega arith in let q = ap (start_of ends) e in omega arith
starts_rise ends i (suc d) s h =
    let r : start_of ends i ≤ start_of ends (i + d) = starts_rise ends i d s (omega arith) in
    let a = (s (i + d) (omega arith)).0 in
    let e : start_of ends (i + suc d) ≡ get_or ends (i + d) 0 = let z : i + suc d ≡ suc (i + d) = omega arith in ap (start_of ends) z in
    omega arith

-- what is counted from i on is what is counted up to j and from there
pub count_from_lem : (m : ℕ → Bool) (i j to : ℕ) → i ≤ j → j ≤ to → count_kept m i (to - i) ≡ count_kept m i (j - i) + count_kept m j (to - j)
count_from_lem m i j to h g =
    let z : to - i ≡ (j - i) + (to - j) = omega arith in
    let y : i + (j - i) ≡ j = omega arith in
    ap (count_kept m i) z ∙ count_add m i (j - i) (to - j) ∙ ap (λ (k : ℕ). count_kept m i (j - i) + count_kept m k (to - j)) y

module _ (m : ℕ → Bool) (times diff_ends diffs : List ℕ) where
  abbrev time : ℕ → ℕ
  time t = get_or times t 0

  abbrev diff : ℕ → ℕ
  diff t = get_or diffs (start_of diff_ends t) 0

  -- how many are left from i on
  abbrev left : ℕ → ℕ
  left i = count_kept m i (length times - i)

  -- what is left to write, from i on
  abbrev rest : (ℕ → ℕ) → ℕ → List ℕ
  rest f i = pick_at m f i (length times - i)

  rest-length : (f : ℕ → ℕ) (i : ℕ) → length (rest f i) ≡ left i
  rest-length f i = length-pick_at m f i (length times - i)

  pub leaving_start : (n : ℕ) (out : List ℕ) → n ≡ count_kept m 0 (length times) → length out ≡ n + (n + n) → Leaving m times diff_ends diffs n out 0 0
  leaving_start n out e h =
      let z : length times - 0 ≡ length times = omega arith in
      let I : List ℕ = pick_at m time 0 (length times) in
      let D : List ℕ = pick_at m diff 0 (length times) in
      let li : length I ≡ count_kept m 0 (length times) = length-pick_at m time 0 (length times) in
      let le : length (count_up 0 n) ≡ n = length-count_up 0 n in
      let ld : length D ≡ count_kept m 0 (length times) = length-pick_at m diff 0 (length times) in
      record {
        place = simp z (omega arith);
        room = h;
        whole =
            simp z
            (sym (sets-sets (count_up 0 n) D (sets out 0 I) n (n + n + 0) (omega arith))
            ∙ fill_three I (count_up 0 n) D out n (n + n + 0) (omega arith) (omega arith) (omega arith)
            ∙ ap (λ (k : ℕ). I ++ (count_up 0 k ++ D)) e);
      }

  pub leaving_within : (n : ℕ) (out : List ℕ) (at i : ℕ) → Leaving m times diff_ends diffs n out at i → at < n → i < length times
  leaving_within n out at i w h =
      by_test (ltb i (length times)) (λ k. ltb-true _ _ k)
      (λ k. let p = w.place in let z = count_none m i (length times) (ltb-false _ _ k) in absurd (omega arith))

  -- a diff is there to be read while one is left
  pub leaving_diff : (n : ℕ) (out : List ℕ) (at i : ℕ) → Leaving m times diff_ends diffs n out at i → at < n → length diff_ends ≡ length times → EndsStep diff_ends → EndsWithin diff_ends (length diffs)
      → ((k : ℕ) → m k ≡ true → has_diff diff_ends k ≡ true) → start_of diff_ends i < length diffs
  leaving_diff n out at i w h rows s b has =
      let p = w.place in
      let l = leaving_within n out at i w h in
      let v = some_left m i (length times - i) (omega arith) in
      let z : i + (v.0 - i) ≡ v.0 = omega (arith, v.1.0) in
      let r : start_of diff_ends i ≤ start_of diff_ends v.0 = (let g = starts_rise diff_ends i (v.0 - i) s (omega (arith, v.1.1.0)) in let y = ap (start_of diff_ends) z in omega arith) in
      let q : start_of diff_ends v.0 < length diffs = b v.0 (has v.0 v.1.1.1) in
      omega arith

  -- a time and its diff are written; they count where the time stays
  leaving_turn : (n : ℕ) (out : List ℕ) (at i : ℕ) → Leaving m times diff_ends diffs n out at i → at < n
      → Leaving m times diff_ends diffs n (set (set out at (time i)) (n + n + at) (diff i)) (at + bit (m i)) (i + 1)
  unfolding bit
  leaving_turn n out at i w h =
      let l : i < length times = leaving_within n out at i w h in
      let o : List ℕ = set (set out at (time i)) (n + n + at) (diff i) in
      let r : length o ≡ n + (n + n) = length-set (set out at (time i)) (n + n + at) (diff i) ∙ length-set out at (time i) ∙ w.room in
      let I : List ℕ = rest time (i + 1) in
      let D : List ℕ = rest diff (i + 1) in
      let li : length I ≡ left (i + 1) = rest-length time (i + 1) in
      let ld : length D ≡ left (i + 1) = rest-length diff (i + 1) in
      let p = w.place in
      by_test (m i)
      (λ k.
      let c : left i ≡ suc (left (i + 1)) = count_in m i (length times) l k in
      let s1 : at + 1 ≡ suc at = omega arith in
      let s2 : n + n + suc at ≡ suc (n + n + at) = omega arith in
      let ti : rest time i ≡ time i ∷ I = pick_in m time i (length times) l k in
      let td : rest diff i ≡ diff i ∷ D = pick_in m diff i (length times) l k in
      simp k
      (record {
        place = omega arith;
        room = r;
        whole =
            simp (s1, s2)
            (ap (λ (x : List ℕ). sets (sets x (suc (n + n + at)) D) n (count_up 0 n)) (sym (set-sets I (set out at (time i)) (suc at) (n + n + at) (diff i) (omega arith)))
            ∙ sym (λ j. sets (sets (sets out at (ti j)) (n + n + at) (td j)) n (count_up 0 n))
            ∙ w.whole);
      }))
      (λ k.
      let c : left i ≡ left (i + 1) = count_out m i (length times) l k in
      let s1 : at + 0 ≡ at = omega arith in
      let ti : rest time i ≡ I = pick_out m time i (length times) l k in
      let td : rest diff i ≡ D = pick_out m diff i (length times) l k in
      simp k
      (record {
        place = omega arith;
        room = r;
        whole =
            simp s1
            (ap (λ (x : List ℕ). sets (sets x (n + n + at) D) n (count_up 0 n)) (sym (set-sets I (set out at (time i)) at (n + n + at) (diff i) (omega arith)))
            ∙ ap (λ (x : List ℕ). sets x n (count_up 0 n)) (set_over D (sets (set out at (time i)) at I) (n + n + at) (diff i) (omega arith))
            ∙ ap (λ (x : List ℕ). sets (sets x (n + n + at) D) n (count_up 0 n)) (set_over I out at (time i) (omega arith))
            ∙ sym (λ j. sets (sets (sets out at (ti j)) (n + n + at) (td j)) n (count_up 0 n))
            ∙ w.whole);
      }))

  pub leaving_next : (n : ℕ) (out : List ℕ) (at i lower b : ℕ) → Leaving m times diff_ends diffs n out at i → at < n → lower ≡ start_of diff_ends i → b ≡ bit (m i)
      → Leaving m times diff_ends diffs n (set (set out at (time i)) (n + n + at) (get_or diffs lower 0)) (at + b) (i + 1)
  leaving_next n out at i lower b w h e q = rw (e, q) (leaving_turn n out at i w h)

  -- once all are written none is left
  pub leaving_done : (n : ℕ) (out : List ℕ) (at i j : ℕ) → Leaving m times diff_ends diffs n out at i → n ≤ at → i ≤ j → j ≤ length times → Leaving m times diff_ends diffs n out at j
  leaving_done n out at i j w h g b =
      let p = w.place in
      let q = count_from_lem m i j (length times) g b in
      let z : (k : ℕ) → left k ≡ 0 → (f : ℕ → ℕ) → rest f k ≡ [] = λ k e f. no_length (rest f k) (let l = rest-length f k in omega arith) in
      let zi : left i ≡ 0 = omega arith in
      let zj : left j ≡ 0 = omega arith in
      record {
        place = omega arith;
        room = w.room;
        whole = (λ k. sets (sets (sets out at ((z j zj time ∙ sym (z i zi time)) k)) (n + n + at) ((z j zj diff ∙ sym (z i zi diff)) k)) n (count_up 0 n)) ∙ w.whole;
      }

  -- so many more are written as stay in between
  pub leaving_more : (n : ℕ) (out out' : List ℕ) (at at' i j : ℕ) → Leaving m times diff_ends diffs n out at i → Leaving m times diff_ends diffs n out' at' j → i ≤ j → j ≤ length times
      → at' ≡ at + count_kept m i (j - i)
  leaving_more n out out' at at' i j w v g b =
      let p = w.place in
      let r = v.place in
      let q = count_from_lem m i j (length times) g b in omega arith

  pub leaving_end : (n : ℕ) (out : List ℕ) (at i : ℕ) → Leaving m times diff_ends diffs n out at i → n ≤ at → sets out n (count_up 0 n) ≡ leaves_out m times diff_ends diffs
  leaving_end n out at i w h =
      let p = w.place in
      let z : (f : ℕ → ℕ) → rest f i ≡ [] = λ f. no_length (rest f i) (let l = rest-length f i in omega arith) in
      simp (z time, z diff) at w.whole

-- the leaves' words: a time, an end and a diff of each
pub length-leaves_out : (m : ℕ → Bool) (times diff_ends diffs : List ℕ) (n : ℕ) → n ≡ count_kept m 0 (length times) → length (leaves_out m times diff_ends diffs) ≡ n + (n + n)
length-leaves_out m times diff_ends diffs n h =
    let I : List ℕ = pick_at m (λ (t : ℕ). get_or times t 0) 0 (length times) in
    let E : List ℕ = count_up 0 (count_kept m 0 (length times)) in
    let D : List ℕ = pick_at m (λ (t : ℕ). get_or diffs (start_of diff_ends t) 0) 0 (length times) in
    let li : length I ≡ count_kept m 0 (length times) = length-pick_at m (λ (t : ℕ). get_or times t 0) 0 (length times) in
    let le : length E ≡ count_kept m 0 (length times) = length-count_up 0 (count_kept m 0 (length times)) in
    let ld : length D ≡ count_kept m 0 (length times) = length-pick_at m (λ (t : ℕ). get_or diffs (start_of diff_ends t) 0) 0 (length times) in
    let l1 : length (I ++ (E ++ D)) ≡ length I + length (E ++ D) = length-append I (E ++ D) in
    let l2 : length (E ++ D) ≡ length E + length D = length-append E D in
    omega arith
