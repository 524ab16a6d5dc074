-- Ends that follow one another are counted up from the first.
use Prim.Native.Nat.{ℕ, zero, suc, ◌+◌, ◌-◌, ◌^◌, ◌%◌, ◌<◌, ◌≤◌}
use mathlib.Core.Path.{◌≡◌, refl, sym, ◌∙◌, ap}
use mathlib.Core.Bool.{true}
use mathlib.Core.List.{List, [], ◌∷◌}
use native.Mathlib.Omega.{arith}
use lib.Dec.{ltb}
use lib.ListN.{length, get_or, take, drop, length-map, get_or-map}
use lib.Seq.{ext_get_or}
use borrow.Author.Tests.{ltb-true}
use borrow.Rule.Slice.PartMut.{put_mid}
use Rattle.laws.proofs.Tests.{and_left, and_right}
use Rattle.laws.proofs.Tries.{rises_tail}
use Rattle.chunk.specs.Words.{rises, rises_from}
use Rattle.meld.specs.Copy.{shifted, shifted_all, counted_on}
use Rattle.meld.proofs.Copy.{length_counted, get_or_counted, copied_whole}
use Rattle.reports.specs.Scratch.{placed}
use Rattle.reports.specs.Write.{InRow}
use Rattle.reports.proofs.WriteRuns.{length_range, put_ends_placed}

-- a rising list goes up by one a place at least
above : (a : ℕ) (l : List ℕ) (j : ℕ) → rises_from a l ≡ true → j < length l → a + suc j ≤ get_or l j 0
unfolding rises_from
above a [] j h k = absurd (omega arith)
above a (b ∷ l) zero h k = let m : a < b = ltb-true _ _ (and_left (ltb a b) _ h) in omega arith
above a (b ∷ l) (suc j) h k =
    let m : a < b = ltb-true _ _ (and_left (ltb a b) _ h) in
    omega (arith, above b l j (and_right (ltb a b) _ h) (omega arith))

pub goes_up : (l : List ℕ) (i j : ℕ) → rises l ≡ true → i ≤ j → j < length l → get_or l i 0 + (j - i) ≤ get_or l j 0
unfolding rises
goes_up [] i j h o k = absurd (omega arith)
goes_up (a ∷ l) zero zero h o k = omega arith
goes_up (a ∷ l) zero (suc j) h o k = omega (arith, above a l j h (omega arith))
goes_up (a ∷ l) (suc i) zero h o k = absurd (omega arith)
goes_up (a ∷ l) (suc i) (suc j) h o k = omega (arith, goes_up l i j (rises_tail a l h) (omega arith) (omega arith))

-- so does a part of it
rises_front : (a : ℕ) (l : List ℕ) (n : ℕ) → rises_from a l ≡ true → rises_from a (take n l) ≡ true
unfolding rises_from
rises_front a l zero h = refl
rises_front a [] (suc n) h = refl
rises_front a (b ∷ l) (suc n) h =
    let p : ltb a b ≡ true = and_left (ltb a b) _ h in rw p (rises_front b l n (and_right (ltb a b) _ h))

rises_take : (n : ℕ) (l : List ℕ) → rises l ≡ true → rises (take n l) ≡ true
unfolding rises
rises_take zero l h = refl
rises_take (suc n) [] h = refl
rises_take (suc n) (a ∷ l) h = rises_front a l n h

pub part_rises : (n k : ℕ) (l : List ℕ) → rises l ≡ true → rises (take n (drop k l)) ≡ true
part_rises n zero l h = rises_take n l h
part_rises n (suc k) [] h = rises_take n [] h
part_rises n (suc k) (a ∷ l) h = part_rises n k l (rises_tail a l h)

-- ends whose last is just as far above the first as it stands past it follow one another
module _ (w : List ℕ) (rise : rises w ≡ true) (row : InRow w) where
  follows : (i : ℕ) → i < length w → get_or w i 0 ≡ get_or w 0 0 + i
  follows i h =
      omega (arith, row.last, goes_up w 0 i rise (omega arith) (omega arith), goes_up w i (length w - 1) rise (omega arith) (omega arith))

  sums : (by i : ℕ) → i < length w → ((get_or w 0 0 + by) % 2 ^ 64 + i) % 2 ^ 64 ≡ shifted by (get_or w i 0)
  sums by i h = let e : get_or w i 0 ≡ get_or w 0 0 + i = follows i h in rw e (omega arith)

  row_counted : (by : ℕ) → counted_on ((get_or w 0 0 + by) % 2 ^ 64) (length w) ≡ shifted_all by w
  row_counted by =
      let n : length (counted_on ((get_or w 0 0 + by) % 2 ^ 64) (length w)) ≡ length w = length_counted _ (length w) in
      ext_get_or (shifted by 0) (counted_on ((get_or w 0 0 + by) % 2 ^ 64) (length w)) (shifted_all by w)
      (n ∙ sym (length-map w (shifted by)))
      (λ i h. sym (get_or_counted _ (length w) i _ (omega arith)) ∙ sums by i (omega arith) ∙ sym (get_or-map (shifted by) w i 0))

-- counted up, they stand in their place
pub row-placed : (at end by first : ℕ) (ends out p : List ℕ) → end ≡ at + length ends → end ≤ length out → rises ends ≡ true → InRow ends
    → first ≡ (get_or ends 0 0 + by) % 2 ^ 64 → p ≡ counted_on first (length (take (end - at) (drop at out)))
    → put_mid at (end - at) out p ≡ placed at (shifted_all by ends) out
row-placed at end by first ends out p e h rise row f q =
    let n : length (take (end - at) (drop at out)) ≡ length ends = length_range at end out (omega arith) h ∙ (omega arith) in
    let s : List ℕ = shifted_all by ends in
    let c : counted_on first (length (take (end - at) (drop at out))) ≡ s = (λ i. counted_on (f i) (n i)) ∙ row_counted ends rise row by in
    put_ends_placed at end by ends out p e h
    (q ∙ c ∙ sym (copied_whole (take (end - at) (drop at out)) s (ap length (sym c) ∙ length_counted first (length (take (end - at) (drop at out))))))
