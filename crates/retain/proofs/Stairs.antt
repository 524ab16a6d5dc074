-- Corners in order: ignitions rise and ticks fall, so the last corner whose ignition is at or below a time's decides whether it is open.
use Prim.Native.Nat.{ℕ, zero, suc, ◌+◌, ◌-◌, ◌*◌, ◌/◌, ◌%◌, ◌^◌, ◌<◌, ◌≤◌}
use mathlib.Core.Path.{◌≡◌, refl, sym, ◌∙◌, ap}
use mathlib.Core.Bool.{Bool, true, false, cond, not, ◌&&◌}
use mathlib.Core.List.{List, [], ◌∷◌}
use native.Mathlib.Omega.{arith}
use mir.Val.{bool_byte}
use mir.Val.{bool_byte}
use lib.Dec.{ltb, leb, eqb}
use lib.ListN.{length, get_or}
use borrow.Author.Tests.{eqb-true, eqb-false, ltb-true, ltb-false, leb-true, leb-false, le-leb, lt-leb}
use Rattle.chunk.specs.Entry.{ignition, tick}
use Rattle.chunk.specs.Time.{at_or_below}
use Rattle.laws.proofs.Tests.{by_test, and_left, and_right, and-false}
use Rattle.retain.specs.Frontier.{any, is_open, ordered}
use Rattle.retain.specs.Found.{Stair, PartedAt, LastAt}
use Rattle.retain.specs.Layers.{bit}

-- some item passes if one that is named does; none if none does
pub any_some : (p : ℕ → Bool) (l : List ℕ) (k : ℕ) → k < length l → p (get_or l k 0) ≡ true → any p l ≡ true
unfolding any
any_some p [] k h q = absurd (omega arith)
any_some p (a ∷ l) zero h q = simp q
any_some p (a ∷ l) (suc k) h q = by_test (p a) (λ t. simp t) (λ t. simp t (any_some p l k (omega arith) q))

pub any_none : (p : ℕ → Bool) (l : List ℕ) → ((k : ℕ) → k < length l → p (get_or l k 0) ≡ false) → any p l ≡ false
unfolding any
any_none p [] f = refl
any_none p (a ∷ l) f = simp (f zero (omega arith)) (any_none p l (λ k h. f (suc k) (omega arith)))

pub ordered_tail : (a : ℕ) (l : List ℕ) → ordered (a ∷ l) ≡ true → ordered l ≡ true
unfolding ordered
ordered_tail a [] h = refl
ordered_tail a (b ∷ l) h = and_right (ltb (ignition a) (ignition b) && ltb (tick b) (tick a)) _ h

pub ordered_next : (a b : ℕ) (l : List ℕ) → ordered (a ∷ b ∷ l) ≡ true → Stair a b
unfolding ordered
ordered_next a b l h =
    let q : (ltb (ignition a) (ignition b) && ltb (tick b) (tick a)) ≡ true = and_left _ _ h in
    record { right = ltb-true _ _ (and_left _ _ q); down = ltb-true _ _ (and_right (ltb (ignition a) (ignition b)) _ q) }

pub stairs : (a b c : ℕ) → Stair a b → Stair b c → Stair a c
stairs a b c p q =
    let r1 = p.right in let r2 = q.right in let d1 = p.down in let d2 = q.down in
    record { right = omega arith; down = omega arith }

ordered_head : (a : ℕ) (l : List ℕ) → ordered (a ∷ l) ≡ true → (j : ℕ) → j < length l → Stair a (get_or l j 0)
ordered_head a [] h j k = absurd (omega arith)
ordered_head a (b ∷ l) h zero k = ordered_next a b l h
ordered_head a (b ∷ l) h (suc j) k =
    stairs a b (get_or l j 0) (ordered_next a b l h) (ordered_head b l (ordered_tail a (b ∷ l) h) j (omega arith))

pub ordered_at : (l : List ℕ) → ordered l ≡ true → (i j : ℕ) → i < j → j < length l → Stair (get_or l i 0) (get_or l j 0)
ordered_at [] h i j p q = absurd (omega arith)
ordered_at (a ∷ l) h i zero p q = absurd (omega arith)
ordered_at (a ∷ l) h zero (suc j) p q = ordered_head a l h j (omega arith)
ordered_at (a ∷ l) h (suc i) (suc j) p q = ordered_at l (ordered_tail a l h) i j (omega arith) (omega arith)

-- later, or lower in neither
at_later : (c t : ℕ) → ignition t < ignition c → at_or_below c t ≡ false
at_later c t h = simp (lt-leb _ _ h)

at_higher : (c t : ℕ) → tick t < tick c → at_or_below c t ≡ false
at_higher c t h = simp (lt-leb _ _ h, and-false)

pub open_none : (corners : List ℕ) (t : ℕ) → PartedAt corners t 0 → false ≡ is_open corners t
unfolding is_open
open_none corners t w = sym (any_none _ corners (λ k h. at_later _ t (w.late k (omega arith) h)))

pub open_last : (corners : List ℕ) (t n : ℕ) → ordered corners ≡ true → PartedAt corners t (suc n) → leb (tick (get_or corners n 0)) (tick t) ≡ is_open corners t
unfolding is_open
open_last corners t n o w =
    let d : suc n ≤ length corners = w.within in
    by_test (leb (tick (get_or corners n 0)) (tick t))
    (λ h. h ∙ sym (any_some _ corners n (omega arith) (simp (h, le-leb _ _ (w.early n (omega arith))))))
    (λ h. let hi : tick t < tick (get_or corners n 0) = leb-false _ _ h in
    h ∙ sym (any_none _ corners (λ k b.
    by_test (ltb k (suc n))
    (λ q. let kn : k < suc n = ltb-true _ _ q in
    by_test (eqb k n)
    (λ e. let at : get_or corners k 0 ≡ get_or corners n 0 = ap (λ (x : ℕ). get_or corners x 0) (eqb-true k n e) in at_higher _ t (omega arith))
    (λ e. at_higher _ t (let ne : k ≡ n → ⊥ = eqb-false _ _ e in let f : tick (get_or corners n 0) < tick (get_or corners k 0) = (ordered_at corners o k n (omega arith) (omega arith)).down in omega arith)))
    (λ q. at_later _ t (w.late k (ltb-false _ _ q) b)))))

-- halving: the place lies at or before `middle`, or past it
pub part_early : (corners : List ℕ) (t middle : ℕ) → ordered corners ≡ true → middle < length corners → ignition (get_or corners middle 0) ≤ ignition t
    → (k : ℕ) → k < suc middle → ignition (get_or corners k 0) ≤ ignition t
part_early corners t middle o w h k b =
    by_test (eqb k middle)
    (λ e. let at : get_or corners k 0 ≡ get_or corners middle 0 = ap (λ (x : ℕ). get_or corners x 0) (eqb-true k middle e) in omega arith)
    (λ e. let ne : k ≡ middle → ⊥ = eqb-false _ _ e in
    let f : ignition (get_or corners k 0) < ignition (get_or corners middle 0) = (ordered_at corners o k middle (omega arith) w).right in omega arith)

pub part_late : (corners : List ℕ) (t middle : ℕ) → ordered corners ≡ true → ignition t < ignition (get_or corners middle 0)
    → (k : ℕ) → middle ≤ k → k < length corners → ignition t < ignition (get_or corners k 0)
part_late corners t middle o h k b w =
    by_test (eqb k middle)
    (λ e. let at : get_or corners k 0 ≡ get_or corners middle 0 = ap (λ (x : ℕ). get_or corners x 0) (eqb-true k middle e) in omega arith)
    (λ e. let ne : k ≡ middle → ⊥ = eqb-false _ _ e in
    let f : ignition (get_or corners middle 0) < ignition (get_or corners k 0) = (ordered_at corners o middle k (omega arith) w).right in omega arith)

-- ---- a test as a number

bit_most : (b : Bool) → bit b ≤ 1
unfolding bit
bit_most b = by_test b (λ k. simp k (omega arith)) (λ k. simp k (omega arith))

pub bit_one : (p : ℕ) (b : Bool) → p ≡ bit b → p ≤ 1
bit_one p b e = let m = bit_most b in omega arith

-- a test that the code counts
pub as_bit : (b : Bool) → bool_byte b ≡ bit b
unfolding bit
as_bit true = refl
as_bit false = refl

pub byte_one : (b : Bool) → bool_byte b ≤ 1
byte_one b = bit_one _ b (as_bit b)

-- all of a number, or none of it
pub times_bit : (n : ℕ) (b : Bool) → n * bit b ≡ cond b n 0
unfolding bit
times_bit n b = by_test b (λ k. simp k (omega arith)) (λ k. simp k (omega arith))

pub times_most : (n p : ℕ) (b : Bool) → p ≡ bit b → n * p ≤ n
times_most n p b e =
    let q : n * p ≡ cond b n 0 = ap (λ (x : ℕ). n * x) e ∙ times_bit n b in
    by_test b (λ k. let z : n * p ≡ n = simp k at q in omega arith) (λ k. let z : n * p ≡ 0 = simp k at q in omega arith)

-- a test as a number is its bit
byte_bit : (b : Bool) → bool_byte b ≡ bit b
unfolding bit
byte_bit true = refl
byte_bit false = refl

-- one half of a time at or below another
pub half-bit : (a b : ℕ) → a < 2 ^ 32 → b < 2 ^ 32 → (b + 4294967296 - a) / 4294967296 ≡ bit (leb a b)
unfolding bit
half-bit a b ha hb =
    by_test (leb a b)
    (λ k. let l : a ≤ b = leb-true _ _ k in simp k (omega arith))
    (λ k. let l : b < a = leb-false _ _ k in simp k (omega arith))

-- ---- halving to the last corner whose ignition is at or below a time's

module _ (corners : List ℕ) (t : ℕ) (o : ordered corners ≡ true) where
  -- it is at `at` or at most so many after it
  pub record Seeking (at left : ℕ) : Type 0 where
    pub within : at + left < length corners
    pub early : 0 < at → ignition (get_or corners at 0) ≤ ignition t
    pub late : (k : ℕ) → at + left < k → k < length corners → ignition t < ignition (get_or corners k 0)

  pub seek_start : (left : ℕ) → 0 < length corners → left ≡ length corners - 1 → Seeking 0 left
  seek_start left h e = record { within = omega arith; early = λ k. absurd (omega arith); late = λ k a b. absurd (omega arith) }

  pub seek_turn : (at left half past : ℕ) → Seeking at left → 0 < left → half ≡ left / 2 + left % 2 → past ≡ bit (leb (ignition (get_or corners (at + half) 0)) (ignition t))
      → Seeking (at + half * past) (left - half)
  seek_turn at left half past w h e p =
      let q : half * past ≡ cond (leb (ignition (get_or corners (at + half) 0)) (ignition t)) half 0 = ap (λ (x : ℕ). half * x) p ∙ times_bit half (leb (ignition (get_or corners (at + half) 0)) (ignition t)) in
      let b = w.within in
      by_test (leb (ignition (get_or corners (at + half) 0)) (ignition t))
      (λ k.
      let z : half * past ≡ half = simp k at q in
      rw z
      (record {
        within = omega arith;
        early = λ j. leb-true _ _ k;
        late = λ j x y. w.late j (omega arith) y;
      }))
      (λ k.
      let z : half * past ≡ 0 = simp k at q in
      let y : at + half * past ≡ at = omega arith in
      rw y
      (record {
        within = omega arith;
        early = w.early;
        late = λ j x v. part_late corners t (at + half) o (leb-false _ _ k) j (omega arith) v;
      }))

  pub seek_end : (at left : ℕ) → Seeking at left → left ≤ 0 → LastAt corners t at
  seek_end at left w h = let b = w.within in record { within = omega arith; early = w.early; late = λ k x y. w.late k (omega arith) y }

  -- the corners part behind it, or before the first
  module _ (at : ℕ) (w : LastAt corners t at) where
    part_here : ignition (get_or corners at 0) ≤ ignition t → PartedAt corners t (suc at)
    part_here h = let b = w.within in record { within = omega arith; early = part_early corners t at o b h; late = λ k x y. w.late k (omega arith) y }

    part_none : ignition t < ignition (get_or corners at 0) → PartedAt corners t 0
    part_none h =
        by_test (ltb 0 at)
        (λ k. let l = w.early (ltb-true _ _ k) in absurd (omega arith))
        (λ k. let z : at ≤ 0 = ltb-false _ _ k in
        record { within = omega arith; early = λ j x. absurd (omega arith); late = λ j x y. part_late corners t at o h j (omega arith) y })

    pub place_by : (past : ℕ) → past ≡ bit (leb (ignition (get_or corners at 0)) (ignition t)) → PartedAt corners t (at + past)
    unfolding bit
    place_by past e =
        by_test (leb (ignition (get_or corners at 0)) (ignition t))
        (λ k. let z : at + past ≡ suc at = (let q : past ≡ 1 = simp k at e in omega arith) in rw z (part_here (leb-true _ _ k)))
        (λ k.
        let l : ignition t < ignition (get_or corners at 0) = leb-false _ _ k in
        let y : at ≡ 0 = by_test (ltb 0 at) (λ j. let x = w.early (ltb-true _ _ j) in absurd (omega arith)) (λ j. let x : at ≤ 0 = ltb-false _ _ j in omega arith) in
        let z : at + past ≡ 0 = (let q : past ≡ 0 = simp k at e in omega arith) in rw z (part_none l))

    -- by it alone, whether a time is open
    open_at : at_or_below (get_or corners at 0) t ≡ is_open corners t
    open_at =
        by_test (leb (ignition (get_or corners at 0)) (ignition t))
        (λ k. simp k (open_last corners t at o (part_here (leb-true _ _ k))))
        (λ k. simp k (open_none corners t (part_none (leb-false _ _ k))))

    pub open_by : (below : Bool) → below ≡ at_or_below (get_or corners at 0) t → bool_byte below ≡ bit (is_open corners t)
    open_by below e = byte_bit below ∙ ap bit (e ∙ open_at)

-- under no corners nothing is open
pub open_empty : (corners : List ℕ) (t : ℕ) → length corners ≡ 0 → 0 ≡ bit (is_open corners t)
unfolding bit
open_empty corners t h = ap bit (open_none corners t (record { within = omega arith; early = λ k b. absurd (omega arith); late = λ k a b. absurd (omega arith) }))

pub bit-true : (n : ℕ) (b : Bool) → n ≡ bit b → eqb n 1 ≡ b
unfolding bit
bit-true n b e = by_test b (λ k. let z : n ≡ 1 = simp k at e in simp (z, k)) (λ k. let z : n ≡ 0 = simp k at e in simp (z, k))

pub bit_not : (n : ℕ) (b : Bool) → n ≡ bit b → 1 - n ≡ bit (not b)
unfolding bit
bit_not n b e = by_test b (λ k. let z : n ≡ 1 = simp k at e in simp (z, k)) (λ k. let z : n ≡ 0 = simp k at e in simp (z, k))
