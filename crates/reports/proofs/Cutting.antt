-- Where an entry stands: the list that an index is in, by the ends and by the lasts up to it.
use Prim.Native.Nat.{ℕ, zero, suc, ◌+◌, ◌<◌, ◌≤◌}
use mathlib.Core.Path.{◌≡◌, refl, sym, ◌∙◌, ap}
use mathlib.Core.Bool.{Bool, true}
use mathlib.Core.List.{List, [], ◌∷◌, map}
use native.Mathlib.Omega.{arith}
use lib.Dec.{ltb, eqb}
use lib.ListN.{length, take, length-map}
use borrow.Author.Tests.{lt-ltb, le-ltb, eqb-true}
use Rattle.laws.proofs.Tests.{by_test, and_left}
use Rattle.chunk.specs.Entry.{Entry, same_list}
use Rattle.chunk.specs.Bodies.{lasts_of, ends_of, same_key, keys, vals, val_ends, time_ends}
use Rattle.reports.specs.Survey.{below}
use Rattle.reports.specs.Merge.{place_at}
use Rattle.reports.proofs.Bodies.{lasts_lasts}

module _ (same : Entry → Entry → Bool) where
  -- every end is past where the count stood
  ends-past : (n : ℕ) (a : Entry) (es : List Entry) → below (n + 1) (ends_of same n (a ∷ es)) ≡ 0
  unfolding ends_of below
  ends-past n a [] = rw (le-ltb (suc n) (n + 1) (omega arith))
  ends-past n a (b ∷ es) =
      by_test (same a b)
      (λ h. rw h (none (suc n) b es (omega arith)))
      (λ h. rw h (rw (le-ltb (suc n) (n + 1) (omega arith)) refl))
    where
      none : (m : ℕ) (b : Entry) (es : List Entry) → n + 1 ≤ m → below (n + 1) (ends_of same m (b ∷ es)) ≡ 0
      none m b [] k = rw (le-ltb (suc m) (n + 1) (omega arith))
      none m b (d ∷ es) k =
          by_test (same b d)
          (λ h. rw h (none (suc m) d es (omega arith)))
          (λ h. rw h (rw (le-ltb (suc m) (n + 1) (omega arith)) refl))

  -- the list that an index stands in
  abbrev pub list_of : ℕ → ℕ → List Entry → ℕ
  list_of n t es = below (n + suc t) (ends_of same n es)

  pub record FromList (n t : ℕ) (es : List Entry) : Type 0 where
    pub index : length (lasts_of same (take (suc t) es)) ≡ suc (list_of n t es)
    pub within : list_of n t es < length (lasts_of same es)

  some_lasts : (a : Entry) (es : List Entry) → 0 < length (lasts_of same (a ∷ es))
  unfolding lasts_of
  some_lasts a [] = omega arith
  some_lasts a (b ∷ es) = by_test (same a b) (λ h. rw h (some_lasts b es)) (λ h. rw h (omega arith))

  pub from_list : (n t : ℕ) (es : List Entry) → t < length es → FromList n t es
  unfolding lasts_of ends_of below
  from_list n t [] h = absurd (omega arith)
  from_list n zero (a ∷ es) h =
      let z : below (n + 1) (ends_of same n (a ∷ es)) ≡ 0 = ends-past n a es in
      record { index = rw z; within = rw z (some_lasts a es) }
  from_list n (suc t) (a ∷ []) h = absurd (omega arith)
  from_list n (suc t) (a ∷ b ∷ es) h = step (from_list (suc n) t (b ∷ es) (omega arith))
    where
      step : FromList (suc n) t (b ∷ es) → FromList n (suc t) (a ∷ b ∷ es)
      step f =
          let e : n + suc (suc t) ≡ suc n + suc t = omega arith in
          by_test (same a b)
          (λ p. record { index = rw (p, e) f.index; within = rw (p, e) f.within })
          (λ p. let u : ltb (suc n) (suc n + suc t) ≡ true = lt-ltb (suc n) (suc n + suc t) (omega arith) in
          record { index = simp (p, e, u) (ap suc f.index); within = simp (p, e, u) (omega (arith, f.within)) })

  -- the lasts up to an index, and those lists of the whole, say the same of what is alike within a list
  pub lasts_alike {ℓ} : {A : Type ℓ} (f : Entry → A) → ((a b : Entry) → same a b ≡ true → f a ≡ f b) → (n t : ℕ) (es : List Entry) → t < length es
      → map f (lasts_of same (take (suc t) es)) ≡ map f (take (suc (list_of n t es)) (lasts_of same es))
  unfolding lasts_of ends_of below
  lasts_alike f q n t [] h = absurd (omega arith)
  lasts_alike f q n zero (a ∷ es) h = rw (ends-past n a es) (first a es)
    where
      first : (a : Entry) (es : List Entry) → f a ∷ [] ≡ map f (take 1 (lasts_of same (a ∷ es)))
      first a [] = refl
      first a (b ∷ es) = by_test (same a b) (λ p. rw p (ap (λ x. x ∷ []) (q a b p) ∙ first b es)) (λ p. rw p)
  lasts_alike f q n (suc t) (a ∷ []) h = absurd (omega arith)
  lasts_alike f q n (suc t) (a ∷ b ∷ es) h =
      let ih : map f (lasts_of same (take (suc t) (b ∷ es))) ≡ map f (take (suc (list_of (suc n) t (b ∷ es))) (lasts_of same (b ∷ es))) = lasts_alike f q (suc n) t (b ∷ es) (omega arith) in
      let e : n + suc (suc t) ≡ suc n + suc t = omega arith in
      by_test (same a b)
      (λ p. rw (p, e) ih)
      (λ p. let u : ltb (suc n) (suc n + suc t) ≡ true = lt-ltb (suc n) (suc n + suc t) (omega arith) in simp (p, e, u) (ap (λ l. f a ∷ l) ih))

-- ---- keys over values

same_key_lem : (a b : Entry) → same_list a b ≡ true → a.key ≡ b.key
same_key_lem a b h = eqb-true _ _ (and_left (eqb a.key b.key) _ h)

-- how many keys a row of entries has goes by their keys
count-keys : (xs ys : List Entry) → map (λ (e : Entry). e.key) xs ≡ map (λ (e : Entry). e.key) ys → length (lasts_of same_key xs) ≡ length (lasts_of same_key ys)
unfolding lasts_of
count-keys [] [] h = refl
count-keys [] (y ∷ ys) h = absurd (let z : ◌≡◌ {A = ℕ} 0 1 = cc in omega arith)
count-keys (x ∷ xs) [] h = absurd (let z : ◌≡◌ {A = ℕ} 0 1 = cc in omega arith)
count-keys (x ∷ []) (y ∷ []) h = refl
count-keys (x ∷ []) (y ∷ b ∷ ys) h = absurd (let z : ◌≡◌ {A = ℕ} 0 1 = cc in omega arith)
count-keys (x ∷ a ∷ xs) (y ∷ []) h = absurd (let z : ◌≡◌ {A = ℕ} 0 1 = cc in omega arith)
count-keys (x ∷ a ∷ xs) (y ∷ b ∷ ys) h =
    let p : x.key ≡ y.key = cc in
    let q : a.key ≡ b.key = cc in
    let t : map (λ (e : Entry). e.key) (a ∷ xs) ≡ map (λ (e : Entry). e.key) (b ∷ ys) = cc in
    let ih : length (lasts_of same_key (a ∷ xs)) ≡ length (lasts_of same_key (b ∷ ys)) = count-keys (a ∷ xs) (b ∷ ys) t in
    let s : same_key x a ≡ same_key y b = rw (p, q) in
    by_test (same_key y b) (λ u. rw (s, u) ih) (λ u. rw (s, u) (ap suc ih))

-- ---- from an entry on

-- the place of an entry: its value's list has it, and its key's list that value
pub record FromPlace (es : List Entry) (k v t : ℕ) : Type 0 where
  pub v_is : below (t + 1) (time_ends es) ≡ v
  pub k_is : below (v + 1) (val_ends es) ≡ k
  pub v_in : v < length (vals es)
  pub k_in : k < length (keys es)

module _ (es : List Entry) (t : ℕ) (h : t < length es) where
  abbrev L : List Entry
  L = lasts_of same_list es

  f : FromList same_list 0 t es
  f = from_list same_list 0 t es h

  abbrev its_val : ℕ
  its_val = list_of same_list 0 t es

  g : FromList same_key 0 its_val L
  g = from_list same_key 0 its_val L f.within

  abbrev its_key : ℕ
  its_key = list_of same_key 0 its_val L

  v_at : (place_at es t).v ≡ its_val
  unfolding place_at
  v_at = let c : length (vals (take (suc t) es)) ≡ suc its_val = length-map (lasts_of same_list (take (suc t) es)) (λ (e : Entry). e.val) ∙ f.index in omega arith

  k_at : (place_at es t).k ≡ its_key
  unfolding place_at
  k_at =
      let c : length (keys (take (suc t) es)) ≡ suc its_key =
      length-map (lasts_of same_key (take (suc t) es)) (λ (e : Entry). e.key)
      ∙ ap length (sym (lasts_lasts (take (suc t) es)))
      ∙ count-keys (lasts_of same_list (take (suc t) es)) (take (suc its_val) L) (lasts_alike same_list (λ (e : Entry). e.key) same_key_lem 0 t es h)
      ∙ g.index in omega arith

  computed : FromPlace es its_key its_val t
  computed =
      let z : 0 + suc t ≡ t + 1 = omega arith in
      let y : 0 + suc its_val ≡ its_val + 1 = omega arith in
      record {
        v_is = ap (λ (n : ℕ). below n (time_ends es)) (sym z);
        k_is = ap (λ (n : ℕ). below n (val_ends es)) (sym y);
        v_in = rw (length-map L (λ (e : Entry). e.val)) f.within;
        k_in = rw (length-map (lasts_of same_key es) (λ (e : Entry). e.key), ← (lasts_lasts es)) g.within;
      }

  pub from_place : FromPlace es (place_at es t).k (place_at es t).v t
  from_place = rw (k_at, v_at) computed
