-- Counting the items that pass, one by one.
use Prim.Native.Nat.{ℕ, zero, suc, ◌+◌, ◌-◌, ◌<◌, ◌≤◌}
use mathlib.Core.Path.{◌≡◌, refl, sym, ◌∙◌, ap}
use mathlib.Core.Bool.{Bool, true, false, cond}
use mathlib.Core.List.{List}
use native.Mathlib.Omega.{arith}
use lib.Dec.{ltb}
use lib.ListN.{length, get_or}
use borrow.Author.Tests.{lt-ltb}
use Rattle.chunk.specs.declared.Range.{Range}
use Rattle.chunk.specs.Contents.{start_of, child_range}
use Rattle.laws.proofs.Ends.{start_below, start_as}
use Rattle.laws.proofs.Tests.{by_test}
use Rattle.retain.specs.Layers.{bit, ListsLeft}
use Rattle.laws.specs.Picked.{count_kept, list_kept}
use Rattle.chunk.specs.Words.{rises_from}

-- one item more, counted or not
pub count_turn : (m : ℕ → Bool) (i to : ℕ) → i < to → count_kept m i (to - i) ≡ cond (m i) (suc (count_kept m (i + 1) (to - (i + 1)))) (count_kept m (i + 1) (to - (i + 1)))
unfolding count_kept
count_turn m i to h =
    let q : to - i ≡ suc (to - (i + 1)) = omega arith in
    let s : i + 1 ≡ suc i = omega arith in
    simp (q, s)

pub count_in : (m : ℕ → Bool) (i to : ℕ) → i < to → m i ≡ true → count_kept m i (to - i) ≡ suc (count_kept m (i + 1) (to - (i + 1)))
count_in m i to h k = count_turn m i to h ∙ simp k

pub count_out : (m : ℕ → Bool) (i to : ℕ) → i < to → m i ≡ false → count_kept m i (to - i) ≡ count_kept m (i + 1) (to - (i + 1))
count_out m i to h k = count_turn m i to h ∙ simp k

pub count_none : (m : ℕ → Bool) (i to : ℕ) → to ≤ i → count_kept m i (to - i) ≡ 0
unfolding count_kept
count_none m i to h = let q : to - i ≡ 0 = omega arith in simp q

-- no more are counted than there are
pub count_most : (m : ℕ → Bool) (i n : ℕ) → count_kept m i n ≤ n
unfolding count_kept
count_most m i zero = omega arith
count_most m i (suc n) =
    let ih : count_kept m (suc i) n ≤ n = count_most m (suc i) n in
    by_test (m i) (λ k. simp k (omega arith)) (λ k. simp k (omega arith))

-- a count on its way: what is counted before i, with what is left, is the count of all
pub record Counted (m : ℕ → Bool) (from to count i : ℕ) : Type 0 where
  pub within : count ≤ i
  pub whole : count_kept m from (to - from) ≡ count + count_kept m i (to - i)

pub counted_start : (m : ℕ → Bool) (from to : ℕ) → Counted m from to 0 from
counted_start m from to = record { within = omega arith; whole = omega arith }

-- one more is looked at
pub counted-bit : (m : ℕ → Bool) (from to count i b : ℕ) → Counted m from to count i → i < to → b ≡ bit (m i) → Counted m from to (count + b) (i + 1)
unfolding bit
counted-bit m from to count i b w h e =
    let a = w.within in let v = w.whole in
    by_test (m i)
    (λ k. let q : b ≡ 1 = simp k at e in let d = count_in m i to h k in record { within = omega arith; whole = omega arith })
    (λ k. let q : b ≡ 0 = simp k at e in let d = count_out m i to h k in record { within = omega arith; whole = omega arith })

pub counted_end : (m : ℕ → Bool) (from to count i : ℕ) → Counted m from to count i → to ≤ i → count ≡ count_kept m from (to - from)
counted_end m from to count i w h = let b = w.whole in let d = count_none m i to h in omega arith

-- so does what counts from where the list starts
pub start_counts : (m : ℕ → Bool) (ends : List ℕ) (i lower n : ℕ) → lower ≡ start_of ends i → n ≡ count_kept m lower (get_or ends i 0 - lower)
    → n ≡ count_kept m (start_of ends i) (get_or ends i 0 - start_of ends i)
start_counts m ends i lower n p q = q ∙ ap (λ (x : ℕ). count_kept m x (get_or ends i 0 - x)) p

-- whether a list has an item that stays, from the count over it
pub list_left : (m : ℕ → Bool) (ends : List ℕ) (i n b : ℕ) → n ≡ count_kept m (start_of ends i) (get_or ends i 0 - start_of ends i) → b ≡ bit (ltb 0 n) → b ≡ bit (list_kept m ends i)
unfolding list_kept count_kept
list_left m ends i n b q e = e ∙ ap (λ (x : ℕ). bit (ltb 0 x)) q

-- where a list that is there starts, and where it ends
pub range_lower : (ends : List ℕ) (i : ℕ) (r : Range) → r ≡ child_range ends i → i < length ends → r.lower ≡ start_of ends i
unfolding child_range
range_lower ends i r e h = simp (e, lt-ltb i (length ends) h)

-- ---- lists and their items together

pub count_add : (m : ℕ → Bool) (i a b : ℕ) → count_kept m i (a + b) ≡ count_kept m i a + count_kept m (i + a) b
unfolding count_kept
count_add m i zero b = let e : i ≡ i + 0 = omega arith in let z : 0 + b ≡ b = omega arith in (λ j. count_kept m (e j) (z j)) ∙ omega arith
count_add m i (suc a) b =
    let e : suc i + a ≡ i + suc a = omega arith in
    let z : suc a + b ≡ suc (a + b) = omega arith in
    let ih : count_kept m (suc i) (a + b) ≡ count_kept m (suc i) a + count_kept m (i + suc a) b = count_add m (suc i) a b ∙ ap (λ (x : ℕ). count_kept m (suc i) a + count_kept m x b) e in
    ap (count_kept m i) z ∙ by_test (m i) (λ k. simp k (omega arith)) (λ k. simp k (omega arith))

-- the next list starts where this one ends
pub start_next : (ends : List ℕ) (i : ℕ) → get_or ends i 0 ≡ start_of ends (i + 1)
start_next ends i = let s : suc i ≡ i + 1 = omega arith in ap (start_of ends) s

-- the lists before i, and their items
pub record Listed (m : ℕ → Bool) (ends : List ℕ) (lists items i : ℕ) : Type 0 where
  pub counted : Counted (list_kept m ends) 0 (length ends) lists i
  pub onward : i ≤ length ends
  pub rising : rises_from 0 ends ≡ true
  pub sofar : items ≡ count_kept m 0 (start_of ends i)

pub listed_start : (m : ℕ → Bool) (ends : List ℕ) → rises_from 0 ends ≡ true → Listed m ends 0 0 0
unfolding count_kept
listed_start m ends r = record { counted = counted_start (list_kept m ends) 0 (length ends); onward = omega arith; rising = r; sofar = refl }

module _ (m : ℕ → Bool) (ends : List ℕ) (lists items i : ℕ) (w : Listed m ends lists items i) (h : i < length ends) (n : ℕ)
    (q : n ≡ count_kept m (start_of ends i) (get_or ends i 0 - start_of ends i)) where
  listed_more : items + n ≡ count_kept m 0 (get_or ends i 0)
  listed_more =
      let b : start_of ends i < get_or ends i 0 = rw start_as (start_below 0 ends i w.rising h) in
      let z : start_of ends i + (get_or ends i 0 - start_of ends i) ≡ get_or ends i 0 = omega arith in
      let y : 0 + start_of ends i ≡ start_of ends i = omega arith in
      let s = w.sofar in
      let t : count_kept m 0 (get_or ends i 0) ≡ count_kept m 0 (start_of ends i) + count_kept m (start_of ends i) (get_or ends i 0 - start_of ends i) =
      ap (count_kept m 0) (sym z) ∙ count_add m 0 (start_of ends i) (get_or ends i 0 - start_of ends i) ∙ ap (λ (x : ℕ). count_kept m 0 (start_of ends i) + count_kept m x (get_or ends i 0 - start_of ends i)) y in
      omega arith

  pub listed_room : items + n ≤ get_or ends i 0
  listed_room = let a = listed_more in let b = count_most m 0 (get_or ends i 0) in omega arith

  pub listed_next : (b : ℕ) → b ≡ bit (ltb 0 n) → Listed m ends (lists + b) (items + n) (i + 1)
  listed_next b e =
      record {
        counted = counted-bit (list_kept m ends) 0 (length ends) lists i b w.counted h (list_left m ends i n b q e);
        onward = omega arith;
        rising = w.rising;
        sofar = listed_more ∙ ap (count_kept m 0) (start_next ends i);
      }

pub listed_end : (m : ℕ → Bool) (ends : List ℕ) (lists items i : ℕ) → Listed m ends lists items i → length ends ≤ i → ListsLeft m ends lists items
listed_end m ends lists items i w h =
    let o = w.onward in
    let e : i ≡ length ends = omega arith in
    let z : length ends - 0 ≡ length ends = omega arith in
    record {
      lists = counted_end (list_kept m ends) 0 (length ends) lists i w.counted h ∙ ap (count_kept (list_kept m ends) 0) z;
      items = w.sofar ∙ ap (λ (x : ℕ). count_kept m 0 (start_of ends x)) e;
    }
