-- Items cut into lists at their ends, and back: a list of lists is its items and its ends, and nothing else.
use Prim.Native.Nat.{ℕ, zero, suc, ◌+◌, ◌-◌, ◌≤◌, ◌<◌}
use mathlib.Core.Path.{◌≡◌, refl, sym, ap, ◌∙◌}
use mathlib.Core.Bool.{Bool, true, false, ◌&&◌, ◌||◌, not, or-true}
use mathlib.Core.List.{List, [], ◌∷◌, ◌++◌, map, flatten}
use native.Mathlib.Omega.{arith}
use lib.Dec.{leb, ltb, eqb}
use lib.ListN.{length, take, drop, length-append, length-take, length-drop, take-append-drop}
use lib.Seq.{take_at, drop_at}
use borrow.Author.Tests.{leb-true, le-leb, ltb-true, lt-ltb, eqb-true, eq-eqb}
use Rattle.chunk.specs.Entry.{every}
use Rattle.chunk.specs.Words.{lists, ends_rise, ends_step}
use Rattle.laws.proofs.Tests.{by_test, and_left, and_right, and_both, true-not-false}
use Rattle.laws.proofs.Lists.{full, map-take, map-drop, no_length}

-- the ends of lists of these lengths, from `n` on
unfoldable pub sums : ℕ → List ℕ → List ℕ
sums n [] = []
sums n (l ∷ ls) = (n + l) ∷ sums (n + l) ls

-- the ends of these lists
abbrev pub ends_at {ℓ} : {A : Type ℓ} → ℕ → List (List A) → List ℕ
ends_at n ls = sums n (map length ls)

-- ends that never fall, from `low` to `top`
unfoldable pub climbs : ℕ → List ℕ → ℕ → Bool
climbs low [] top = eqb low top
climbs low (e ∷ ends) top = leb low e && climbs e ends top

pub length-sums : (n : ℕ) (ls : List ℕ) → length (sums n ls) ≡ length ls
unfolding sums
length-sums n [] = refl
length-sums n (l ∷ ls) = ap suc (length-sums (n + l) ls)

climbs-le : (low : ℕ) (ends : List ℕ) (top : ℕ) → climbs low ends top ≡ true → low ≤ top
unfolding climbs
climbs-le low [] top h = let e : low ≡ top = eqb-true _ _ h in omega arith
climbs-le low (e ∷ ends) top h =
    let a : low ≤ e = leb-true _ _ (and_left _ _ h) in
    let b : e ≤ top = climbs-le e ends top (and_right (leb low e) _ h) in
    omega arith

pub rise_climbs : (low : ℕ) (ends : List ℕ) (top : ℕ) → ends_rise low ends top ≡ true → climbs low ends top ≡ true
unfolding climbs ends_rise
rise_climbs low [] top h = h
rise_climbs low (e ∷ ends) top h =
    let a : low < e = ltb-true _ _ (and_left _ _ h) in
    and_both _ _ (le-leb low e (omega arith)) (rise_climbs e ends top (and_right (ltb low e) _ h))

-- an end that steps
step_near : (m n : ℕ) → (eqb n m || eqb n (suc m)) ≡ true → (m ≤ n) × (n ≤ suc m)
step_near m n h =
    by_test (eqb n m) (λ q. let r : n ≡ m = eqb-true _ _ q in omega arith)
    (λ q. let t : eqb n (suc m) ≡ true = simp q at h in let r : n ≡ suc m = eqb-true _ _ t in omega arith)

pub step_climbs : (low : ℕ) (ends : List ℕ) (top : ℕ) → ends_step low ends top ≡ true → climbs low ends top ≡ true
unfolding climbs ends_step
step_climbs low [] top h = h
step_climbs low (e ∷ ends) top h =
    and_both _ _ (le-leb low e (step_near low e (and_left _ _ h)).0) (step_climbs e ends top (and_right (eqb e low || eqb e (suc low)) _ h))

module _ {ℓ} {A : Type ℓ} where
  pub length-lists : (low : ℕ) (ends : List ℕ) (items : List A) → length (lists low ends items) ≡ length ends
  unfolding lists
  length-lists low [] items = refl
  length-lists low (e ∷ ends) items = ap suc (length-lists e ends (drop (e - low) items))

  -- lists that are joined are cut apart again at their ends
  pub lists-ends : (n : ℕ) (ls : List (List A)) → lists n (ends_at n ls) (flatten ls) ≡ ls
  unfolding lists sums flatten
  lists-ends n [] = refl
  lists-ends n (l ∷ ls) =
      let m : n + length l - n ≡ length l = omega arith in
      let t : take (n + length l - n) (l ++ flatten ls) ≡ l = take_at l (flatten ls) _ (sym m) in
      let d : drop (n + length l - n) (l ++ flatten ls) ≡ flatten ls = drop_at l (flatten ls) _ (sym m) in
      rw (t, d) (ap (λ (r : List (List A)). l ∷ r) (lists-ends (n + length l) ls))

  module _ (low e top : ℕ) (ends : List ℕ) (items : List A) (c : climbs low (e ∷ ends) top ≡ true) (q : low + length items ≡ top) where
    up : low ≤ e
    unfolding climbs
    up = leb-true _ _ (and_left _ _ c)

    rest : climbs e ends top ≡ true
    unfolding climbs
    rest = and_right (leb low e) _ c

    taken : length (take (e - low) items) ≡ e - low
    taken = simp length-take (omega (arith, up, climbs-le e ends top rest))

    left : e + length (drop (e - low) items) ≡ top
    left = simp length-drop (omega (arith, up, climbs-le e ends top rest))

  -- items cut at ends that never fall are joined to the same items
  pub lists_flat : (low : ℕ) (ends : List ℕ) (top : ℕ) (items : List A) → climbs low ends top ≡ true → low + length items ≡ top
      → flatten (lists low ends items) ≡ items
  unfolding lists flatten climbs
  lists_flat low [] top items c q = let e : low ≡ top = eqb-true _ _ c in sym (no_length items (omega arith))
  lists_flat low (e ∷ ends) top items c q =
      ap (λ (l : List A). take (e - low) items ++ l)
      (lists_flat e ends top (drop (e - low) items) (rest low e top ends items c q) (left low e top ends items c q))
      ∙ take-append-drop (e - low) items

  -- and their ends are these
  pub lists-sums : (low : ℕ) (ends : List ℕ) (top : ℕ) (items : List A) → climbs low ends top ≡ true → low + length items ≡ top
      → ends_at low (lists low ends items) ≡ ends
  unfolding lists sums climbs
  lists-sums low [] top items c q = refl
  lists-sums low (e ∷ ends) top items c q =
      let m : low + length (take (e - low) items) ≡ e = omega (arith, taken low e top ends items c q, up low e top ends items c q) in
      rw m
      (ap (λ (l : List ℕ). e ∷ l)
      (lists-sums e ends top (drop (e - low) items) (rest low e top ends items c q) (left low e top ends items c q)))

  -- none of them is empty where the ends rise
  pub lists-full : (low : ℕ) (ends : List ℕ) (top : ℕ) (items : List A) → ends_rise low ends top ≡ true → low + length items ≡ top
      → every full (lists low ends items) ≡ true
  unfolding lists every ends_rise
  lists-full low [] top items h q = refl
  lists-full low (e ∷ ends) top items h q =
      let c : climbs low (e ∷ ends) top ≡ true = rise_climbs low (e ∷ ends) top h in
      let a : low < e = ltb-true _ _ (and_left _ _ h) in
      and_both _ _ (some (take (e - low) items) (omega (arith, taken low e top ends items c q)))
      (lists-full e ends top (drop (e - low) items) (and_right (ltb low e) _ h) (left low e top ends items c q))
    where
      some : (l : List A) → 0 < length l → full l ≡ true
      some [] k = absurd (omega arith)
      some (x ∷ l) k = refl

  -- the ends of lists of which none is empty rise
  pub full_rises : (n : ℕ) (ls : List (List A)) (top : ℕ) → every full ls ≡ true → n + length (flatten ls) ≡ top → ends_rise n (ends_at n ls) top ≡ true
  unfolding sums every ends_rise flatten
  full_rises n [] top h q = eq-eqb n top (omega arith)
  full_rises n ([] ∷ ls) top h q = absurd (true-not-false (sym h))
  full_rises n ((x ∷ l) ∷ ls) top h q =
      and_both _ _ (lt-ltb n (n + suc (length l)) (omega arith))
      (full_rises (n + suc (length l)) ls top h (omega (arith, length-append l (flatten ls))))

module _ {ℓ κ} {A : Type ℓ} {B : Type κ} where
  -- cutting does not look at the items
  pub map-lists : (f : A → B) (low : ℕ) (ends : List ℕ) (items : List A) → map (map f) (lists low ends items) ≡ lists low ends (map f items)
  unfolding lists
  map-lists f low [] items = refl
  map-lists f low (e ∷ ends) items =
      simp (← (map-take f (e - low) items), ← (map-drop f (e - low) items), map-lists f e ends (drop (e - low) items))

-- ---- diff lists: none or one number, which is not 0

abbrev pub nonzero : ℕ → Bool
nonzero d = not (eqb d 0)

abbrev pub short : List ℕ → Bool
short [] = true
short (d ∷ []) = nonzero d
short (d ∷ c ∷ l) = false

pub short-nonzero : (ls : List (List ℕ)) → every short ls ≡ true → every nonzero (flatten ls) ≡ true
unfolding every flatten
short-nonzero [] h = refl
short-nonzero ([] ∷ ls) h = short-nonzero ls h
short-nonzero ((d ∷ []) ∷ ls) h = and_both (nonzero d) _ (and_left _ _ h) (short-nonzero ls (and_right (nonzero d) _ h))
short-nonzero ((d ∷ c ∷ l) ∷ ls) h = absurd (true-not-false (sym h))

short-take : (m : ℕ) (items : List ℕ) → m ≤ 1 → every nonzero items ≡ true → short (take m items) ≡ true
unfolding every
short-take zero items k h = refl
short-take (suc m) [] k h = refl
short-take (suc zero) (d ∷ items) k h = and_left _ _ h
short-take (suc (suc m)) (d ∷ items) k h = absurd (omega arith)

every_drop {ℓ} : {A : Type ℓ} (p : A → Bool) (m : ℕ) (items : List A) → every p items ≡ true → every p (drop m items) ≡ true
unfolding every
every_drop p zero items h = h
every_drop p (suc m) [] h = h
every_drop p (suc m) (d ∷ items) h = every_drop p m items (and_right (p d) _ h)

-- lists cut at ends that step are none or one item
pub lists-short : (low : ℕ) (ends : List ℕ) (top : ℕ) (items : List ℕ) → ends_step low ends top ≡ true → low + length items ≡ top
    → every nonzero items ≡ true → every short (lists low ends items) ≡ true
unfolding lists every ends_step
lists-short low [] top items h q z = refl
lists-short low (e ∷ ends) top items h q z =
    and_both _ _ (short-take (e - low) items (omega (arith, step_near low e (and_left _ _ h))) z)
    (lists-short e ends top (drop (e - low) items) (and_right (eqb e low || eqb e (suc low)) _ h)
    (left low e top ends items (step_climbs low (e ∷ ends) top h) q) (every_drop nonzero (e - low) items z))

-- and the ends of such lists step
pub short_steps : (n : ℕ) (ls : List (List ℕ)) (top : ℕ) → every short ls ≡ true → n + length (flatten ls) ≡ top → ends_step n (ends_at n ls) top ≡ true
unfolding sums every ends_step flatten
short_steps n [] top h q = eq-eqb n top (omega arith)
short_steps n ([] ∷ ls) top h q =
    let z : eqb (n + 0) n ≡ true = eq-eqb (n + 0) n (omega arith) in
    and_both (eqb (n + 0) n || eqb (n + 0) (suc n)) _ (simp z) (short_steps (n + 0) ls top h (omega arith))
short_steps n ((d ∷ []) ∷ ls) top h q =
    let z : eqb (n + 1) (suc n) ≡ true = eq-eqb (n + 1) (suc n) (omega arith) in
    and_both (eqb (n + 1) n || eqb (n + 1) (suc n)) _ (simp (z, or-true)) (short_steps (n + 1) ls top (and_right (nonzero d) _ h) (omega arith))
short_steps n ((d ∷ c ∷ l) ∷ ls) top h q = absurd (true-not-false (sym h))
