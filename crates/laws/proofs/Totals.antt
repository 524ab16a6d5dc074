-- What settled lists say at each position is all that they say.
use Prim.Native.Nat.{ℕ}
use mathlib.Core.Path.{◌≡◌, refl, sym, ap, ◌∙◌}
use mathlib.Core.Bool.{Bool, true, false, ◌&&◌}
use mathlib.Core.List.{List, [], ◌∷◌}
use lib.Dec.{eqb}
use lib.IntN.{ℤ, pos, +ℤ_idr}
use mir.Syntax.{w64}
use mir.Facts.{to_z_inj}
use borrow.Author.Tests.{ltb-true, eqb-true, eq-eqb, eqb-false, not-true}
use Rattle.chunk.specs.Entry.{Entry, change, before, same, rising, stands, every}
use Rattle.chunk.specs.Sums.{total}
use Rattle.laws.specs.OneChunk.{is_word, fits, SettledOnce}
use Rattle.laws.proofs.Tests.{by_test, and_left, and_right, and_both, true-not-false}
use Rattle.laws.proofs.Order.{Compared, less, equal, more, compared, before_trans, before-not-same, Same, same_parts, parts_same, same_sym, rising_all, rising_tail}
use Rattle.laws.proofs.Lists.{every_imp}

-- words with one change are one word
pub change_word : (a b : ℕ) → is_word a ≡ true → is_word b ≡ true → change a ≡ change b → a ≡ b
change_word a b f g e = to_z_inj {w = w64} (record { fits = ltb-true _ _ f }) (record { fits = ltb-true _ _ g }) e

-- an entry at a position
abbrev at : ℕ → ℕ → ℕ → Entry → Bool
at k v t e = eqb e.key k && (eqb e.val v && eqb e.time t)

abbrev total_at : Entry → List Entry → ℤ
total_at x es = total x.key x.val x.time es

at_same : (x e : Entry) → at x.key x.val x.time e ≡ true → same e x ≡ true
at_same x e h =
    let r : (eqb e.val x.val && eqb e.time x.time) ≡ true = and_right (eqb e.key x.key) _ h in
    parts_same e x
    (record {
      key = eqb-true _ _ (and_left _ _ h);
      val = eqb-true _ _ (and_left _ _ r);
      time = eqb-true _ _ (and_right (eqb e.val x.val) _ r);
    })

-- nothing is said at a position before all
total-before : (x : Entry) (es : List Entry) → every (before x) es ≡ true → total_at x es ≡ pos 0
unfolding total every
total-before x [] h = refl
total-before x (e ∷ es) h =
    by_test (at x.key x.val x.time e)
    (λ q. absurd (true-not-false (sym (same_sym e x (at_same x e q)) ∙ before-not-same x e (and_left _ _ h))))
    (λ q. rw q (total-before x es (and_right (before x e) _ h)))

-- at its own position the first of a rising list says its change
total_own : (e : Entry) (es : List Entry) → rising (e ∷ es) ≡ true → total_at e (e ∷ es) ≡ change e.diff
unfolding total rising
total_own e es h =
    let z : total_at e es ≡ pos 0 = total-before e es (rising_all e es h) in
    simp (eq-eqb e.key e.key refl, eq-eqb e.val e.val refl, eq-eqb e.time e.time refl, z) (+ℤ_idr (change e.diff))

-- a change that stands is not none
change-stands : (e : Entry) → stands e ≡ true → fits e ≡ true → change e.diff ≡ pos 0 → ⊥
change-stands e s f z = eqb-false e.diff 0 (not-true _ s) (change_word e.diff 0 f refl z)

-- a settled list: rising, every change a word that stands
pub record Settled (es : List Entry) : Type 0 where
  pub rise : rising es ≡ true
  pub stand : every stands es ≡ true
  pub words : every fits es ≡ true

first_stands : (e : Entry) (es : List Entry) → Settled (e ∷ es) → change e.diff ≡ pos 0 → ⊥
unfolding every
first_stands e es s z = change-stands e (and_left _ _ s.stand) (and_left _ _ s.words) z

others_settled : (e : Entry) (es : List Entry) → Settled (e ∷ es) → Settled es
unfolding every
others_settled e es s =
    record {
      rise = rising_tail e es s.rise;
      stand = and_right (stands e) _ s.stand;
      words = and_right (fits e) _ s.words;
    }

-- a first entry before all of another list says what that list doesn't
first_alone : (e : Entry) (es fs : List Entry) → Settled (e ∷ es) → every (before e) fs ≡ true → total_at e (e ∷ es) ≡ total_at e fs → ⊥
first_alone e es fs s b q = first_stands e es s (sym (total_own e es s.rise) ∙ q ∙ total-before e fs b)

-- an entry before the first of a rising list is before all of it
before-rising : (e f : Entry) (fs : List Entry) → before e f ≡ true → rising (f ∷ fs) ≡ true → every (before e) (f ∷ fs) ≡ true
unfolding every rising
before-rising e f fs b h = and_both (before e f) _ b (every_imp (before f) (before e) (λ x l. before_trans e f x b l) fs (rising_all f fs h))

-- two lists with the same position first: their changes there, and what the rest says
module _ (e f : Entry) (es fs : List Entry) (s : Settled (e ∷ es)) (r : Settled (f ∷ fs)) (q : same e f ≡ true)
    (t : (k v t : ℕ) → total k v t (e ∷ es) ≡ total k v t (f ∷ fs)) where
  place : Same e f
  place = same_parts e f q

  own : total_at e (f ∷ fs) ≡ change f.diff
  own = (λ i. total (place.key i) (place.val i) (place.time i) (f ∷ fs)) ∙ total_own f fs r.rise

  heads : e ≡ f
  unfolding every
  heads =
      let d : e.diff ≡ f.diff =
      change_word e.diff f.diff (and_left _ _ s.words) (and_left _ _ r.words)
      (sym (total_own e es s.rise) ∙ t e.key e.val e.time ∙ own) in
      λ i. record { key = place.key i; val = place.val i; time = place.time i; diff = d i }

  tails : (k v t : ℕ) → total k v t es ≡ total k v t fs
  unfolding total rising
  tails k v t' =
      by_test (at k v t' e)
      (λ h. let m : (eqb e.val v && eqb e.time t') ≡ true = and_right (eqb e.key k) _ h in
      let a : e.key ≡ k = eqb-true _ _ (and_left _ _ h) in
      let b : e.val ≡ v = eqb-true _ _ (and_left _ _ m) in
      let c : e.time ≡ t' = eqb-true _ _ (and_right (eqb e.val v) _ m) in
      (λ i. total (sym a i) (sym b i) (sym c i) es)
      ∙ total-before e es (rising_all e es s.rise)
      ∙ sym (total-before f fs (rising_all f fs r.rise))
      ∙ (λ i. total ((sym place.key ∙ a) i) ((sym place.val ∙ b) i) ((sym place.time ∙ c) i) fs))
      (λ h. let g : at k v t' f ≡ false = ap (at k v t') (sym heads) ∙ h in
      rw (h, g) at (t k v t'))

agree : (es fs : List Entry) → Settled es → Settled fs → ((k v t : ℕ) → total k v t es ≡ total k v t fs) → es ≡ fs
unfolding every
agree [] [] s r t = refl
agree [] (f ∷ fs) s r t = absurd (first_alone f fs [] r refl (sym (t f.key f.val f.time)))
agree (e ∷ es) [] s r t = absurd (first_alone e es [] s refl (t e.key e.val e.time))
agree (e ∷ es) (f ∷ fs) s r t = by (compared e f) (agree es fs)
  where
    by : Compared e f → (Settled es → Settled fs → ((k v t : ℕ) → total k v t es ≡ total k v t fs) → es ≡ fs) → e ∷ es ≡ f ∷ fs
    by (less b) ih = absurd (first_alone e es (f ∷ fs) s (before-rising e f fs b r.rise) (t e.key e.val e.time))
    by (more b) ih = absurd (first_alone f fs (e ∷ es) r (before-rising f e es b s.rise) (sym (t f.key f.val f.time)))
    by (equal q) ih =
        let h : e ≡ f = heads e f es fs s r q t in
        let l : es ≡ fs = ih (others_settled e es s) (others_settled f fs r) (tails e f es fs s r q t) in
        λ i. h i ∷ l i

pub settled_once : SettledOnce
settled_once es fs h s w k r v t =
    agree es fs (record { rise = h; stand = s; words = w }) (record { rise = k; stand = r; words = v }) t
