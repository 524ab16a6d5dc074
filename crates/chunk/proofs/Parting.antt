-- Lists tested part by part: ends that rise rise in each part, and each part's lists rise where its falls are at their starts.
use Prim.Native.Nat.{ℕ, zero, suc, ◌<◌, ◌≤◌, ◌+◌, ◌-◌}
use mathlib.Core.Path.{◌≡◌, refl, sym, ◌∙◌, ap, subst}
use mathlib.Core.Bool.{Bool, true, false, ◌&&◌}
use mathlib.Core.List.{List, [], ◌∷◌}
use native.Mathlib.Omega.{arith}
use native.Mathlib.Nat.{zero-add, suc-add}
use borrow.Author.Tests.{eq-eqb, ltb-true}
use denote.Bor.{Bor}
use Rattle.std.specs.Prelude.{Some}
use Rattle.std.specs.declared.slice.Chunks.{Chunks}
use Rattle.std.specs.Slice.Iter.{chunks_rest, chunks_size, chunks_steps}
use lib.ListN.{length, take, drop, get_or, get_or-append, length-append}
use lib.Seq.{drop-drop, take-take, length-take-le, take-nil, take-append_seam, drop-append_seam}
use lib.Dec.{ltb, eqb}
use Rattle.chunk.specs.Entry.{every}
use Rattle.chunk.specs.Words.{ends_rise, rises, lists}
use Rattle.chunk.specs.Falls.{falls_of, falls_at, Ahead}
use Rattle.chunk.proofs.Tests.{and_left, and_right, and-true, and_joins}
use Rattle.chunk.proofs.Falling.{capped, started, above, goes_on}

-- ends in two parts, of which the first has one more than `m`
pub record Cut (low top : ℕ) (ends : List ℕ) (m : ℕ) : Type 0 where
  pub front : ends_rise low (take (suc m) ends) (get_or ends m 0) ≡ true
  pub back : ends_rise (get_or ends m 0) (drop (suc m) ends) top ≡ true
  pub higher : low < get_or ends m 0

cut : (low top : ℕ) (ends : List ℕ) (m : ℕ) → m < length ends → ends_rise low ends top ≡ true → Cut low top ends m
unfolding ends_rise
cut low top [] m h k = absurd (omega arith)
cut low top (e ∷ ends) zero h k =
    record { front = simp (and_left (ltb low e) _ k, eq-eqb e e refl); back = and_right (ltb low e) _ k; higher = ltb-true _ _ (and_left (ltb low e) _ k) }
cut low top (e ∷ ends) (suc m) h k =
    let r : Cut e top ends m = cut e top ends m (omega arith) (and_right (ltb low e) _ k) in
    let l : low < e = ltb-true _ _ (and_left (ltb low e) _ k) in
    record { front = simp (and_left (ltb low e) _ k) r.front; back = r.back; higher = omega (arith, r.higher) }

-- lists in two parts
divided :
    (low top : ℕ) (ends items : List ℕ) (m : ℕ) → m < length ends → ends_rise low ends top ≡ true
    → every rises (lists low ends items) ≡ (every rises (lists low (take (suc m) ends) items) && every rises (lists (get_or ends m 0) (drop (suc m) ends) (drop (get_or ends m 0 - low) items)))
unfolding ends_rise lists every
divided low top [] items m h k = absurd (omega arith)
divided low top (e ∷ ends) items zero h k = simp and-true
divided low top (e ∷ ends) items (suc m) h k =
    let l : low < e = ltb-true _ _ (and_left (ltb low e) _ k) in
    let r : Cut e top ends m = cut e top ends m (omega arith) (and_right (ltb low e) _ k) in
    let g : e < get_or ends m 0 = r.higher in
    let q : (e - low) + (get_or ends m 0 - e) ≡ get_or ends m 0 - low = omega arith in
    let d : drop (get_or ends m 0 - e) (drop (e - low) items) ≡ drop (get_or ends m 0 - low) items = simp (drop-drop, q) in
    ap (λ (b : Bool). rises (take (e - low) items) && b)
    (simp d at (divided e top ends (drop (e - low) items) m (omega arith) (and_right (ltb low e) _ k)))
    ∙ and_joins (rises (take (e - low) items)) _ _

-- words cut behind, then before
pub drop-take : (k n : ℕ) (l : List ℕ) → drop k (take (k + n) l) ≡ take n (drop k l)
drop-take zero n l = rw (zero-add n)
drop-take (suc k) n [] = rw (suc-add k n) (sym (take-nil n))
drop-take (suc k) n (x ∷ l) = rw (suc-add k n) (drop-take k n l)

-- the lists up to an end need no items past it
enough : (low high : ℕ) (ends items : List ℕ) → ends_rise low ends high ≡ true → lists low ends (take (high - low) items) ≡ lists low ends items
unfolding ends_rise lists
enough low high [] items h = refl
enough low high (e ∷ ends) items h =
    let l : low < e = ltb-true _ _ (and_left (ltb low e) _ h) in
    let k : ends_rise e ends high ≡ true = and_right (ltb low e) _ h in
    let m : e + length ends ≤ high = capped e high ends k in
    let q : high - low ≡ (e - low) + (high - e) = omega arith in
    let t : take (e - low) (take (high - low) items) ≡ take (e - low) items = take-take (e - low) (high - low) items (omega arith) in
    let d : drop (e - low) (take (high - low) items) ≡ take (high - e) (drop (e - low) items) = rw q (drop-take (e - low) (high - e) items) in
    simp (t, d, enough e high ends (drop (e - low) items) k)

-- one part of the lists that are left: those from `low` on, `m` and one more
module _ (ends items : List ℕ) (low m : ℕ) (h : m < length ends) (k : ends_rise low ends (length items) ≡ true) where
  c : Cut low (length items) ends m
  c = cut low (length items) ends m h k

  pub high-within : get_or ends m 0 ≤ length items
  high-within = omega (arith, capped (get_or ends m 0) (length items) (drop (suc m) ends) c.back)

  long : length (take (get_or ends m 0) items) ≡ get_or ends m 0
  long = length-take-le _ items high-within

  front : ends_rise low (take (suc m) ends) (length (take (get_or ends m 0) items)) ≡ true
  front = rw long c.front

  -- its falls are all at starts where its lists rise
  pub part_rises : every rises (lists low (take (suc m) ends) (drop low items)) ≡ eqb (falls_of (take (get_or ends m 0 - low) (drop low items))) (falls_at (take (suc m) ends) (take (get_or ends m 0) items))
  part_rises =
      let l : low < get_or ends m 0 = c.higher in
      let q : low + (get_or ends m 0 - low) ≡ get_or ends m 0 = omega arith in
      let d : drop low (take (get_or ends m 0) items) ≡ take (get_or ends m 0 - low) (drop low items) = subst (λ (n : ℕ). drop low (take n items) ≡ take (get_or ends m 0 - low) (drop low items)) q (drop-take low (get_or ends m 0 - low) items) in
      sym (ap (every rises) (enough low (get_or ends m 0) (take (suc m) ends) (drop low items) c.front))
      ∙ ap (λ (x : List ℕ). every rises (lists low (take (suc m) ends) x)) (sym d)
      ∙ started low (take (suc m) ends) (take (get_or ends m 0) items) front
      ∙ ap (λ (x : List ℕ). eqb (falls_of x) (falls_at (take (suc m) ends) (take (get_or ends m 0) items))) d

  -- its starts are those of items
  pub ahead : Ahead (take (suc m) ends) (take (get_or ends m 0) items)
  ahead =
      let s : length (take (suc m) ends) ≡ suc m = length-take-le (suc m) ends h in
      let o : 0 < length (take (suc m) ends) = omega arith in
      record { some = o; starts = omega (arith, above (take (suc m) ends) low _ 0 o front); rise = goes_on (take (suc m) ends) low _ 0 o front }

  -- the whole is that part, and what is left after it
  pub rest : every rises (lists low ends (drop low items)) ≡ (every rises (lists low (take (suc m) ends) (drop low items)) && every rises (lists (get_or ends m 0) (drop (suc m) ends) (drop (get_or ends m 0) items)))
  rest =
      let l : low < get_or ends m 0 = c.higher in
      let q : low + (get_or ends m 0 - low) ≡ get_or ends m 0 = omega arith in
      let d : drop (get_or ends m 0 - low) (drop low items) ≡ drop (get_or ends m 0) items = simp (drop-drop, q) in
      simp d at (divided low (length items) ends (drop low items) m h k)

-- a part whose last end is past the items before it, and whose lists are all of items
pub record Next (items part : List ℕ) (low : ℕ) : Type 0 where
  pub higher : low < get_or part (length part - 1) 0
  pub within : get_or part (length part - 1) 0 ≤ length items
  pub ahead : Ahead part (take (get_or part (length part - 1) 0) items)

-- the test on its way: the parts that are left, and the items up to `low` done
pub record Tested (ends items : List ℕ) (left : Chunks ℕ) (low : ℕ) : Type 0 where
  pub sized : 0 < chunks_size left
  pub rise : ends_rise low (chunks_rest left) (length items) ≡ true
  pub whole : every rises (lists 0 ends items) ≡ every rises (lists low (chunks_rest left) (drop low items))

-- the next part, whose last end is `high`, and those after it
module _ {ends items : List ℕ} {parts : Chunks ℕ} {low : ℕ} (after : Chunks ℕ) (next_part : Bor (List ℕ)) (t : Tested ends items parts low) (step : chunks_steps parts (Some next_part) after) where
  abbrev left : List ℕ
  left = chunks_rest parts

  abbrev part : List ℕ
  part = next_part.now

  abbrev m : ℕ
  m = length part - 1

  abbrev high : ℕ
  high = get_or part m 0

  size : suc m ≡ length part
  size = omega (arith, t.sized, step.1.1, step.1.2)

  few : m < length left
  few = rw step.1.0 (simp length-append (omega (arith, size)))

  last : get_or left m 0 ≡ high
  last = rw step.1.0 (get_or-append part (chunks_rest after) 0 m (omega (arith, size)))

  front-part : take (suc m) left ≡ part
  front-part = rw (step.1.0, size) (take-append_seam part (chunks_rest after))

  on : drop (suc m) left ≡ chunks_rest after
  on = rw (step.1.0, size) (drop-append_seam part (chunks_rest after))

  -- it ends past the items before it, and its starts are those of items
  pub next : Next items part low
  next =
      record {
        higher = rw (sym last) (cut low (length items) left m few t.rise).higher;
        within = rw (sym last) (high-within left items low m few t.rise);
        ahead = rw (front-part, last) at (ahead left items low m few t.rise);
      }

  tested : every rises (lists 0 ends items) ≡ (eqb (falls_of (take (high - low) (drop low items))) (falls_at part (take high items)) && every rises (lists high (chunks_rest after) (drop high items)))
  tested =
      rw (front-part, last, on) at
      (t.whole ∙ rest left items low m few t.rise ∙ ap (λ (b : Bool). b && every rises (lists (get_or left m 0) (drop (suc m) left) (drop (get_or left m 0) items))) (part_rises left items low m few t.rise))

  -- where a part has a fall within a list the whole fails, and else it goes on
  pub falls_within : eqb (falls_of (take (high - low) (drop low items))) (falls_at part (take high items)) ≡ false → every rises (lists 0 ends items) ≡ false
  falls_within h = tested ∙ simp h

  pub tested_more : eqb (falls_of (take (high - low) (drop low items))) (falls_at part (take high items)) ≡ true → Tested ends items after high
  tested_more h = record { sized = rw step.0 t.sized; rise = rw (on, last) at (cut low (length items) left m few t.rise).back; whole = tested ∙ simp h }
