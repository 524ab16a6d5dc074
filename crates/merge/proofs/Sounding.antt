-- Whether a cursor is sound: the list of a time, and of a value, is found among the ends.
use Rattle.std.proofs.Common.{◌≡◌, ℕ, ◌+◌, ◌<◌, ◌≤◌, Bool, true, false, ◌&&◌, refl, eqb, ltb, List, length, sym, ap, ◌∙◌, ltb-true, le-ltb, lt-ltb, eq-eqb, ne_eqb, eqb-true}
use borrow.Author.Tests.{eqb-false}
use Rattle.laws.proofs.Tests.{by_test, and_left, and_right}
use Rattle.chunk.specs.Entry.{Entry}
use Rattle.chunk.specs.Bodies.{val_ends, time_ends}
use Rattle.merge.specs.declared.Cursor.{Cursor}
use Rattle.reports.specs.Survey.{below}
use Rattle.reports.specs.Merge.{Place, place_at, sound_at}
use Rattle.merge.specs.Suffix.{place_of}
use Rattle.reports.proofs.Cutting.{FromPlace, from_place}

same_both : (a b : ℕ) → eqb a b ≡ eqb b a
same_both a b = by_test (eqb a b) (λ t. t ∙ sym (eq-eqb b a (sym (eqb-true a b t)))) (λ t. t ∙ sym (ne_eqb b a (λ q. eqb-false a b t (sym q))))

turned : (x y : Bool) → (x && (y && true)) ≡ (y && x)
turned true true = refl
turned true false = refl
turned false true = refl
turned false false = refl

placed_itself : (es : List Entry) (t : ℕ) → (place_at es t).t ≡ t
unfolding place_at
placed_itself es t = refl

module _ (es : List Entry) (p : Place) where
  pub no_time : length es ≤ p.t → false ≡ sound_at es p
  unfolding sound_at
  no_time h = rw (le-ltb p.t (length es) h)

  -- with the place of its time at hand, whether it is that place
  pub its_place : (r : Cursor) → p.t < length es → place_of r ≡ place_at es p.t → (eqb r.k p.k && (eqb r.v p.v && eqb r.t p.t)) ≡ sound_at es p
  unfolding sound_at
  its_place r h e =
      let v : eqb r.v p.v ≡ eqb p.v (place_at es p.t).v = same_both r.v p.v ∙ ap (λ (x : Place). eqb p.v x.v) e in
      let k : eqb r.k p.k ≡ eqb p.k (place_at es p.t).k = same_both r.k p.k ∙ ap (λ (x : Place). eqb p.k x.k) e in
      ap (λ (b : Bool). eqb r.k p.k && (eqb r.v p.v && b)) (eq-eqb r.t p.t (ap (λ (x : Place). x.t) e ∙ placed_itself es p.t))
      ∙ turned (eqb r.k p.k) (eqb r.v p.v) ∙ (λ i. v i && k i) ∙ sym (ap (λ (b : Bool). b && (eqb p.v (place_at es p.t).v && eqb p.k (place_at es p.t).k)) (lt-ltb p.t (length es) h))

  -- a sound cursor is the place of its time
  pub sound_place : sound_at es p ≡ true → (p.t < length es) × FromPlace es p.k p.v p.t
  unfolding sound_at
  sound_place h =
      let i : p.t < length es = ltb-true _ _ (and_left _ _ h) in
      let r : (eqb p.v (place_at es p.t).v && eqb p.k (place_at es p.t).k) ≡ true = and_right (ltb p.t (length es)) _ h in
      let v : p.v ≡ (place_at es p.t).v = eqb-true _ _ (and_left _ _ r) in
      let k : p.k ≡ (place_at es p.t).k = eqb-true _ _ (and_right (eqb p.v (place_at es p.t).v) _ r) in
      (i, rw (v, k) (from_place es p.t i))

-- the value and the key that are found are its own
pub place_found : (es : List Entry) (k v t : ℕ) → t < length es → v ≡ below (t + 1) (time_ends es) → k ≡ below (v + 1) (val_ends es)
    → place_of (record { k = k; v = v; t = t }) ≡ place_at es t
unfolding place_at
place_found es k v t h q r =
    let f = from_place es t h in
    let a : v ≡ (place_at es t).v = q ∙ f.v_is in
    let b : k ≡ (place_at es t).k = r ∙ ap (λ (n : ℕ). below (n + 1) (val_ends es)) a ∙ f.k_is in
    λ i. record { k = b i; v = a i; t = t }
