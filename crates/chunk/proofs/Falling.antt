-- Lists rise where every fall is at the start of a list: the falls are those at the starts and those within the lists.
use Prim.Native.Nat.{ℕ, zero, suc, ◌<◌, ◌≤◌, ◌+◌, ◌-◌}
use mathlib.Core.Path.{◌≡◌, refl, sym, ◌∙◌, ap}
use mathlib.Core.Bool.{true, ◌&&◌}
use mathlib.Core.List.{List, [], ◌∷◌}
use native.Mathlib.Omega.{arith}
use native.Mathlib.Nat.{zero-add}
use native.Mathlib.Numerals.{add-one}
use borrow.Author.Tests.{eq-eqb, ne_eqb, ltb-true, ltb-false, eqb-true, eqb-false}
use lib.ListN.{length, take, drop, get_or, length-drop, drop_of_length-le}
use lib.Seq.{drop-cons, drop-drop, get_or-drop, take_all}
use lib.Dec.{ltb, eqb}
use Rattle.chunk.specs.Entry.{every}
use Rattle.chunk.specs.Words.{ends_rise, rises, rises_from, lists}
use Rattle.chunk.specs.Falls.{fall, falls_from, falls_of, falls_at_from, falls_at}
use Rattle.chunk.proofs.Tests.{by_test, true-not-false, and_left, and_right}
use Rattle.chunk.proofs.Counting.{steep}

-- items rise where there is no fall
flat_from : (a : ℕ) (l : List ℕ) → rises_from a l ≡ eqb (falls_from a l) 0
unfolding rises_from falls_from
flat_from a [] = sym (eq-eqb 0 0 refl)
flat_from a (b ∷ l) =
    by_test (ltb a b)
    (λ k. simp (k, flat_from b l, zero-add))
    (λ k. simp k (sym (ne_eqb (1 + falls_from b l) 0 (λ p. omega arith))))

pub unfallen : (l : List ℕ) → rises l ≡ eqb (falls_of l) 0
unfolding rises falls_of
unfallen [] = sym (eq-eqb 0 0 refl)
unfallen (a ∷ l) = flat_from a l

-- the falls within lists
within : List (List ℕ) → ℕ
within [] = 0
within (l ∷ ls) = falls_of l + within ls

-- two counts are 0 where their sum is
both_none : (m n : ℕ) → (eqb m 0 && eqb n 0) ≡ eqb (m + n) 0
both_none m n =
    by_test (eqb m 0)
    (λ k. let q : m ≡ 0 = eqb-true _ _ k in simp (q, zero-add))
    (λ k. let q : m ≡ 0 → ⊥ = eqb-false _ _ k in simp k (sym (ne_eqb (m + n) 0 (λ p. q (omega arith)))))

all_rise : (ls : List (List ℕ)) → every rises ls ≡ eqb (within ls) 0
unfolding every within
all_rise [] = sym (eq-eqb 0 0 refl)
all_rise (l ∷ ls) = simp (unfallen l, all_rise ls, both_none)

-- items cut in two: the falls of both, and the one between them
cut_from : (a : ℕ) (l : List ℕ) (j : ℕ) → j < length l → falls_from a l ≡ falls_from a (take j l) + (fall (get_or (a ∷ l) j 0) (get_or l j 0) + falls_of (drop j l))
unfolding falls_from falls_of
cut_from a [] j h = absurd (omega arith)
cut_from a (b ∷ l) zero h = simp zero-add
cut_from a (b ∷ l) (suc j) h = let r : _ ≡ _ = cut_from b l j (omega arith) in omega arith

cut : (l : List ℕ) (k : ℕ) → 0 < k → k < length l → falls_of l ≡ falls_of (take k l) + (fall (get_or l (k - 1) 0) (get_or l k 0) + falls_of (drop k l))
unfolding falls_of
cut [] k g h = absurd (omega arith)
cut (a ∷ l) zero g h = absurd (omega arith)
cut (a ∷ l) (suc j) g h = let q : suc j - 1 ≡ j = omega arith in simp q (cut_from a l j (omega arith))

-- a fall is one at most
pub once : (a b : ℕ) → fall a b ≤ 1
once a b = by_test (ltb a b) (λ k. simp k (omega arith)) (λ k. simp k (omega arith))

-- ends that rise to a top don't pass it
pub capped : (low top : ℕ) (ends : List ℕ) → ends_rise low ends top ≡ true → low + length ends ≤ top
capped low top ends h =
    by_test (ltb top (low + length ends))
    (λ k. absurd (true-not-false (sym h ∙ steep low top ends (ltb-true _ _ k))))
    (λ k. ltb-false _ _ k)

-- items cut at an end
seam :
    (items : List ℕ) (low e : ℕ) → low < e → e < length items
    → falls_of (drop low items) ≡ falls_of (take (e - low) (drop low items)) + (fall (get_or items (e - 1) 0) (get_or items e 0) + falls_of (drop e items))
seam items low e g h =
    let p : low + (e - low - 1) ≡ e - 1 = omega arith in
    let q : low + (e - low) ≡ e = omega arith in
    simp (get_or-drop, drop-drop, p, q) at (cut (drop low items) (e - low) (omega arith) (simp length-drop (omega arith)))

-- the falls from a list on
parted : (low : ℕ) (ends items : List ℕ) → ends_rise low ends (length items) ≡ true → falls_of (drop low items) ≡ falls_at ends items + within (lists low ends (drop low items))
unfolding ends_rise falls_of falls_at falls_at_from lists within
parted low [] items h =
    let q : low ≡ length items = eqb-true _ _ h in
    let k : length items ≤ low = omega arith in
    simp (drop_of_length-le items k)
parted low (e ∷ []) items h =
    let q : e ≡ length items = eqb-true _ _ (and_right (ltb low e) _ h) in
    simp (take_all (e - low) (drop low items) (simp length-drop (omega arith))) (omega arith)
parted low (e ∷ f ∷ ends) items h =
    let g : low < e = ltb-true _ _ (and_left (ltb low e) _ h) in
    let k : ends_rise e (f ∷ ends) (length items) ≡ true = and_right (ltb low e) _ h in
    let m : e + suc (length ends) ≤ length items = capped e (length items) (f ∷ ends) k in
    let q : low + (e - low) ≡ e = omega arith in
    let d : drop (e - low) (drop low items) ≡ drop e items = simp (drop-drop, q) in
    simp d (omega (arith, seam items low e g (omega arith), parted e (f ∷ ends) items k))

-- an amount more is none more where it is 0
pub more : (m n : ℕ) → eqb n 0 ≡ eqb (m + n) m
more m n =
    by_test (eqb n 0)
    (λ k. let q : n ≡ 0 = eqb-true _ _ k in k ∙ sym (eq-eqb (m + n) m (omega arith)))
    (λ k. let q : n ≡ 0 → ⊥ = eqb-false _ _ k in k ∙ sym (ne_eqb (m + n) m (λ p. q (omega arith))))

-- so the lists from one on rise where all falls are at their starts
pub started : (low : ℕ) (ends items : List ℕ) → ends_rise low ends (length items) ≡ true → every rises (lists low ends (drop low items)) ≡ eqb (falls_of (drop low items)) (falls_at ends items)
started low ends items h =
    all_rise _ ∙ more (falls_at ends items) _ ∙ ap (λ (n : ℕ). eqb n (falls_at ends items)) (sym (parted low ends items h))

-- the first item
pub first : (items : List ℕ) → 0 < length items → falls_of items ≡ falls_from (get_or items 0 0) (drop 1 items)
unfolding falls_of
first [] h = absurd (omega arith)
first (a ∷ items) h = refl

-- one item more
pub turn : (items : List ℕ) (last i : ℕ) → i < length items → falls_from last (drop i items) ≡ fall last (get_or items i 0) + falls_from (get_or items i 0) (drop (i + 1) items)
unfolding falls_from
turn items last i h = rw (add-one, drop-cons items i 0)

-- the first end
pub first_end : (ends items : List ℕ) → 0 < length ends → falls_at ends items ≡ falls_at_from (get_or ends 0 0) (drop 1 ends) items
unfolding falls_at
first_end [] items h = absurd (omega arith)
first_end (e ∷ ends) items h = refl

-- one end more
pub turn_end : (ends items : List ℕ) (e i : ℕ) → i < length ends → falls_at_from e (drop i ends) items ≡ fall (get_or items (e - 1) 0) (get_or items e 0) + falls_at_from (get_or ends i 0) (drop (i + 1) ends) items
unfolding falls_at_from
turn_end ends items e i h = rw (add-one, drop-cons ends i 0)

-- of ends that rise, those from one on
pub climb : (ends : List ℕ) (low top i : ℕ) → i < length ends → ends_rise low (drop i ends) top ≡ (ltb low (get_or ends i 0) && ends_rise (get_or ends i 0) (drop (i + 1) ends) top)
unfolding ends_rise
climb ends low top i h = rw (add-one, drop-cons ends i 0)

-- where they rise, the next is above the one before it, which is below the top
module _ (ends : List ℕ) (low top i : ℕ) (h : i < length ends) (k : ends_rise low (drop i ends) top ≡ true) where
  climbs : (ltb low (get_or ends i 0) && ends_rise (get_or ends i 0) (drop (i + 1) ends) top) ≡ true
  climbs = sym (climb ends low top i h) ∙ k

  pub above : low < get_or ends i 0
  above = ltb-true _ _ (and_left _ _ climbs)

  pub goes_on : ends_rise (get_or ends i 0) (drop (i + 1) ends) top ≡ true
  goes_on = and_right (ltb low (get_or ends i 0)) _ climbs

  pub inside : low < top
  inside = omega (arith, simp length-drop at (capped low top (drop i ends) k))
