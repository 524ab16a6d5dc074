-- The reports of a layer name each of its items once and in order, so they are the lists of the next; and reports written are reports read.
use Prim.Native.Nat.{ℕ, zero, suc, ◌+◌, ◌-◌, ◌<◌, ◌≤◌}
use mathlib.Core.Path.{◌≡◌, refl, sym, ◌∙◌, ap}
use mathlib.Core.Bool.{true}
use mathlib.Core.List.{List, [], ◌∷◌, ◌++◌, append_assoc}
use native.Mathlib.Omega.{arith}
use native.Mathlib.Nat.{add-zero}
use lib.Dec.{ltb, eqb}
use lib.ListN.{length, get_or, take, drop, length-append, length-drop}
use lib.Seq.{get_or-append-add, drop-drop}
use borrow.Author.Tests.{lt-ltb, ltb-true, ltb-false, eqb-false, eqb-true}
use Rattle.laws.proofs.Tests.{by_test, and_left, and_right}
use Rattle.chunk.specs.Entry.{every}
use Rattle.chunk.specs.Words.{ends_rise, rises, lists}
use Rattle.chunk.specs.Contents.{start_of}
use Rattle.reports.specs.Survey.{Report, this, that, both, below, rest_of, reports_from}
use Rattle.reports.specs.Gallop.{between}
use Rattle.reports.specs.Scratch.{placed, words_of, report_words, report, report_at, reports_at, pair_of, survey_of, surveyed, Layer, Covers}
use Rattle.reports.proofs.Galloping.{length-between}
use Rattle.reports.proofs.Surveying.{starts_apart, start_within, start_up}

-- covered to a place, and then from that place on
covers_join : (n m p q i j : ℕ) (rs ts : List Report) → p ≤ n → q ≤ m → Covers p q i j rs → Covers n m p q ts → Covers n m i j (rs ++ ts)
covers_join n m p q i j [] ts a b c d = rw (c.0, c.1) d
covers_join n m p q i j (this l h ∷ rs) ts a b c d = (c.0, c.1, omega (arith, c.2), covers_join n m p q h j rs ts a b c.3 d)
covers_join n m p q i j (that l h ∷ rs) ts a b c d = (c.0, c.1, omega (arith, c.2), covers_join n m p q i h rs ts a b c.3 d)
covers_join n m p q i j (both x y ∷ rs) ts a b c d = (c.0, c.1, omega (arith, c.2), omega (arith, c.3), covers_join n m p q (suc i) (suc j) rs ts a b c.4 d)

below_length : (x : ℕ) (l : List ℕ) → below x l ≤ length l
unfolding below
below_length x [] = omega arith
below_length x (a ∷ l) =
    let ih : below x l ≤ length l = below_length x l in
    by_test (ltb a x) (λ h. rw h (omega arith)) (λ h. rw h (omega arith))

-- the reports of two ranges name all their items
covers_from : (n i j p q : ℕ) (xs ys : List ℕ) → length xs + length ys ≤ n → i + length xs ≡ p → j + length ys ≡ q → Covers p q i j (reports_from n i j xs ys)
unfolding reports_from rest_of below
covers_from zero i j p q [] [] h a b = (omega arith, omega arith)
covers_from zero i j p q [] (y ∷ ys) h a b = absurd (omega arith)
covers_from zero i j p q (x ∷ xs) ys h a b = absurd (omega arith)
covers_from (suc n) i j p q [] [] h a b = (omega arith, omega arith)
covers_from (suc n) i j p q [] (y ∷ ys) h a b = (refl, omega arith, omega arith, (omega arith, b))
covers_from (suc n) i j p q (x ∷ xs) [] h a b = (refl, omega arith, omega arith, (a, omega arith))
covers_from (suc n) i j p q (x ∷ xs) (y ∷ ys) h a b =
    by_test (eqb x y)
    (λ e. rw e (refl, refl, omega arith, omega arith, covers_from n (suc i) (suc j) p q xs ys (omega arith) (omega arith) (omega arith)))
    (λ e. by_test (ltb x y)
    (λ f. let c : below y xs ≤ length xs = below_length y xs in
    let d : length (drop (below y xs) xs) ≡ length xs - below y xs = length-drop (below y xs) xs in
    rw (e, f) (refl, omega arith, omega arith, covers_from n (i + suc (below y xs)) j p q (drop (below y xs) xs) (y ∷ ys) (omega arith) (omega arith) b))
    (λ f. let o : ltb y x ≡ true = lt-ltb y x (omega (arith, ltb-false x y f, eqb-false x y e)) in
    let c : below x ys ≤ length ys = below_length x ys in
    let d : length (drop (below x ys) ys) ≡ length ys - below x ys = length-drop (below x ys) ys in
    rw (e, f, o) (refl, omega arith, omega arith, covers_from n i (j + suc (below x ys)) p q (x ∷ xs) (drop (below x ys) ys) (omega arith) a (omega arith))))

pub pair_covers : (items0 : List ℕ) (l0 u0 : ℕ) (items1 : List ℕ) (l1 u1 : ℕ) → l0 ≤ u0 → u0 ≤ length items0 → l1 ≤ u1 → u1 ≤ length items1
    → Covers u0 u1 l0 l1 (pair_of items0 l0 u0 items1 l1 u1)
unfolding pair_of
pair_covers items0 l0 u0 items1 l1 u1 a b c d =
    let e : length (between l0 u0 items0) ≡ u0 - l0 = length-between l0 u0 items0 b in
    let f : length (between l1 u1 items1) ≡ u1 - l1 = length-between l1 u1 items1 d in
    covers_from (u0 - l0 + (u1 - l1)) l0 l1 u0 u1 (between l0 u0 items0) (between l1 u1 items1) (omega arith) (omega arith) (omega arith)

-- the last list ends with the items
pub ends_last : (low top : ℕ) (ends : List ℕ) (j : ℕ) → ends_rise low ends top ≡ true → length ends ≡ suc j → get_or ends j 0 ≡ top
unfolding ends_rise
ends_last low top [] j h e = absurd (omega arith)
ends_last low top (a ∷ []) zero h e = eqb-true _ _ (and_right (ltb low a) _ h)
ends_last low top (a ∷ b ∷ ends) zero h e = absurd (omega arith)
ends_last low top (a ∷ ends) (suc j) h e = ends_last a top ends j (and_right (ltb low a) _ h) (omega arith)

ends-none : (ends : List ℕ) (top : ℕ) → length ends ≡ 0 → ends_rise 0 ends top ≡ true → 0 ≡ top
unfolding ends_rise
ends-none [] top e h = eqb-true _ _ h
ends-none (a ∷ ends) top e h = absurd (omega arith)

last_start : (ends items : List ℕ) → Layer ends items → start_of ends (length ends) ≡ length items
last_start ends items y = go (length ends) refl
  where
    go : (n : ℕ) → length ends ≡ n → start_of ends n ≡ length items
    go zero e = ends-none ends (length items) e y.ends-rise
    go (suc j) e = ends_last 0 (length items) ends j y.ends-rise e

-- the reports of a layer's survey name all its items
module _ (e0 x0 e1 x1 : List ℕ) (y0 : Layer e0 x0) (y1 : Layer e1 x1) where
  before_end : (h : ℕ) (ends : List ℕ) → 0 < h → get_or ends (h - 1) 0 ≡ start_of ends h
  before_end zero ends k = absurd (omega arith)
  before_end (suc h) ends k = ap (λ (n : ℕ). get_or ends n 0) (omega arith)

  pub survey_covers : (i j : ℕ) (rs : List Report) → i ≤ length e0 → j ≤ length e1 → Covers (length e0) (length e1) i j rs
      → Covers (length x0) (length x1) (start_of e0 i) (start_of e1 j) (surveyed e0 x0 e1 x1 rs)
  unfolding surveyed survey_of
  survey_covers i j [] a b c = (ap (start_of e0) c.0 ∙ last_start e0 x0 y0, ap (start_of e1) c.1 ∙ last_start e1 x1 y1)
  survey_covers i j (this l h ∷ rs) a b c =
      let k : get_or e0 (h - 1) 0 ≡ start_of e0 h = before_end h e0 (omega (arith, c.1)) in
      let up : start_of e0 l < start_of e0 h = starts_apart e0 x0 y0 l h c.1 c.2 in
      let top : start_of e0 h ≤ length x0 = start_within e0 x0 y0 h c.2 in
      (ap (start_of e0) c.0, omega arith, omega arith, rw k (survey_covers h j rs c.2 b c.3))
  survey_covers i j (that l h ∷ rs) a b c =
      let k : get_or e1 (h - 1) 0 ≡ start_of e1 h = before_end h e1 (omega (arith, c.1)) in
      let up : start_of e1 l < start_of e1 h = starts_apart e1 x1 y1 l h c.1 c.2 in
      let top : start_of e1 h ≤ length x1 = start_within e1 x1 y1 h c.2 in
      (ap (start_of e1) c.0, omega arith, omega arith, rw k (survey_covers i h rs a c.2 c.3))
  survey_covers i j (both p q ∷ rs) a b c =
      let up0 : start_of e0 i < get_or e0 i 0 = starts_apart e0 x0 y0 i (suc i) (omega arith) c.2 in
      let up1 : start_of e1 j < get_or e1 j 0 = starts_apart e1 x1 y1 j (suc j) (omega arith) c.3 in
      let top0 : get_or e0 i 0 ≤ length x0 = start_within e0 x0 y0 (suc i) c.2 in
      let top1 : get_or e1 j 0 ≤ length x1 = start_within e1 x1 y1 (suc j) c.3 in
      rw (c.0, c.1)
      (covers_join (length x0) (length x1) (get_or e0 i 0) (get_or e1 j 0) (start_of e0 i) (start_of e1 j) (pair_of x0 (start_of e0 i) (get_or e0 i 0) x1 (start_of e1 j) (get_or e1 j 0))
      (surveyed e0 x0 e1 x1 rs) top0 top1
      (pair_covers x0 (start_of e0 i) (get_or e0 i 0) x1 (start_of e1 j) (get_or e1 j 0) (omega arith) top0 (omega arith) top1)
      (survey_covers (suc i) (suc j) rs c.2 c.3 c.4))

-- ---- the layers of a chunk

-- where a list starts, counted on from a place
start_from : ℕ → List ℕ → ℕ → ℕ
start_from low ends zero = low
start_from low ends (suc i) = get_or ends i 0

start_over : (low top : ℕ) (ends : List ℕ) (i : ℕ) → ends_rise low ends top ≡ true → i < length ends → low ≤ start_from low ends i
unfolding start_from ends_rise
start_over low top ends zero h k = omega arith
start_over low top [] (suc i) h k = absurd (omega arith)
start_over low top (e ∷ ends) (suc zero) h k = let a : low < e = ltb-true _ _ (and_left (ltb low e) _ h) in omega arith
start_over low top (e ∷ ends) (suc (suc i)) h k =
    let a : low < e = ltb-true _ _ (and_left (ltb low e) _ h) in
    omega (arith, start_over e top ends (suc i) (and_right (ltb low e) _ h) (omega arith))

start_next : (low e : ℕ) (ends : List ℕ) (i : ℕ) → start_from low (e ∷ ends) (suc i) ≡ start_from e ends i
unfolding start_from
start_next low e ends zero = refl
start_next low e ends (suc i) = refl

-- the list at an index rises where all of them do
list_rises : (low top : ℕ) (ends items : List ℕ) (i : ℕ) → ends_rise low ends top ≡ true → every rises (lists low ends items) ≡ true → i < length ends
    → rises (take (get_or ends i 0 - start_from low ends i) (drop (start_from low ends i - low) items)) ≡ true
unfolding every lists start_from ends_rise
list_rises low top [] items i h r k = absurd (omega arith)
list_rises low top (e ∷ ends) items zero h r k = let z : low - low ≡ 0 = omega arith in rw z (and_left (rises (take (e - low) items)) _ r)
list_rises low top (e ∷ ends) items (suc i) h r k =
    let a : low < e = ltb-true _ _ (and_left (ltb low e) _ h) in
    let ih : rises (take (get_or ends i 0 - start_from e ends i) (drop (start_from e ends i - e) (drop (e - low) items))) ≡ true =
    list_rises e top ends (drop (e - low) items) i (and_right (ltb low e) _ h) (and_right (rises (take (e - low) items)) _ r) (omega arith) in
    let o : e ≤ start_from e ends i = start_over e top ends i (and_right (ltb low e) _ h) (omega arith) in
    let q : e - low + (start_from e ends i - e) ≡ start_from e ends i - low = omega arith in
    let d : drop (start_from e ends i - e) (drop (e - low) items) ≡ drop (start_from e ends i - low) items =
    drop-drop (start_from e ends i - e) (e - low) items ∙ ap (λ (n : ℕ). drop n items) q in
    rw (start_next low e ends i) (rw d at ih)

start_same : (ends : List ℕ) (i : ℕ) → start_from 0 ends i ≡ start_of ends i
unfolding start_from
start_same ends zero = refl
start_same ends (suc i) = refl

pub layer_of : (ends items : List ℕ) (top : ℕ) → ends_rise 0 ends top ≡ true → every rises (lists 0 ends items) ≡ true → length items ≡ top → Layer ends items
layer_of ends items top h r e =
    record {
      ends-rise = rw e h;
      lists_rise = λ i k.
          let u = start_up ends top i h k in
          record { ordered = omega (arith, u.0); within = omega (arith, u.1); rise = rw (start_same ends i, off i) at (list_rises 0 top ends items i h r k) };
    }
  where
    off : (i : ℕ) → start_of ends i - 0 ≡ start_of ends i
    off i = omega arith

-- ---- reports written are reports read

report_words_lem : (r : Report) (rest : List ℕ) (pre : List ℕ) → report_at (pre ++ (words_of r ++ rest)) (length pre) ≡ r
report_words_lem r rest pre =
    (λ i. report (first i) (get_or-append-add pre (words_of r ++ rest) 1 0 i) (get_or-append-add pre (words_of r ++ rest) 2 0 i)) ∙ three r
  where
    first : get_or (pre ++ (words_of r ++ rest)) (length pre) 0 ≡ get_or (words_of r ++ rest) 0 0
    first = ap (λ (n : ℕ). get_or (pre ++ (words_of r ++ rest)) n 0) (sym (add-zero (length pre))) ∙ get_or-append-add pre (words_of r ++ rest) 0 0

    three : (r : Report) → report (get_or (words_of r ++ rest) 0 0) (get_or (words_of r ++ rest) 1 0) (get_or (words_of r ++ rest) 2 0) ≡ r
    three (this l h) = refl
    three (that l h) = refl
    three (both l h) = refl

words_three : (r : Report) → length (words_of r) ≡ 3
words_three (this l h) = refl
words_three (that l h) = refl
words_three (both i j) = refl

pub words_read : (rs : List Report) (pre rest : List ℕ) → reports_at (pre ++ (report_words rs ++ rest)) (length pre) (length rs) ≡ rs
unfolding reports_at report_words
words_read [] pre rest = refl
words_read (r ∷ rs) pre rest =
    let ih : reports_at ((pre ++ words_of r) ++ (report_words rs ++ rest)) (length (pre ++ words_of r)) (length rs) ≡ rs = words_read rs (pre ++ words_of r) rest in
    let n : length (pre ++ words_of r) ≡ length pre + 3 = length-append pre (words_of r) ∙ ap (λ (k : ℕ). length pre + k) (words_three r) in
    let a : (pre ++ words_of r) ++ (report_words rs ++ rest) ≡ pre ++ (words_of r ++ (report_words rs ++ rest)) = append_assoc pre (words_of r) (report_words rs ++ rest) in
    let b : words_of r ++ report_words rs ++ rest ≡ words_of r ++ (report_words rs ++ rest) = append_assoc (words_of r) (report_words rs) rest in
    let g : reports_at (pre ++ (words_of r ++ (report_words rs ++ rest))) (length pre) (suc (length rs)) ≡ r ∷ rs =
    λ i. report_words_lem r (report_words rs ++ rest) pre i ∷ (rw (a, n) at ih) i in
    ap (λ (ws : List ℕ). reports_at (pre ++ ws) (length pre) (suc (length rs))) b ∙ g

-- reports placed at a place are the reports there
pub placed_read : (at : ℕ) (rs : List Report) (s : List ℕ) → at ≤ length s → reports_at (placed at (report_words rs) s) at (length rs) ≡ rs
unfolding placed
placed_read at rs s h =
    let n : length (take at s) ≡ at = lib.Seq.length-take-le at s h in
    rw n at (words_read rs (take at s) (drop (at + length (report_words rs)) s))
