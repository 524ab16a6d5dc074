-- One list of entries cut where `same` says that the next starts another list: which list each item is in, and where each starts and ends.
use Prim.Native.Nat.{ℕ, zero, suc, ◌+◌, ◌<◌, ◌≤◌}
use mathlib.Core.Path.{◌≡◌, refl, sym, ◌∙◌, ap}
use mathlib.Core.Bool.{Bool, true, false, ◌&&◌, ◌||◌}
use mathlib.Core.List.{List, [], ◌∷◌}
use native.Mathlib.Omega.{arith}
use lib.Dec.{ltb, eqb}
use lib.ListN.{length, get_or}
use borrow.Author.Tests.{lt-ltb, eq-eqb, eqb-true, eqb-false, ltb-true, ltb-false}
use Rattle.laws.proofs.Tests.{by_test, and_left, and_right, and_both, true-not-false}
use Rattle.chunk.specs.Entry.{Entry}
use Rattle.chunk.specs.Words.{ends_rise}
use Rattle.chunk.specs.Contents.{start_of}
use Rattle.chunk.specs.Bodies.{lasts_of, ends_of}
use Rattle.reports.proofs.Surveying.{start_up}
use Rattle.reports.proofs.Covering.{ends_last}
use Rattle.reports.specs.Woven.{no_entry}

-- a test for two entries of one list
pub record Equal (same : Entry → Entry → Bool) : Type 0 where
  pub self : (x : Entry) → same x x ≡ true
  pub back : (x y : Entry) → same x y ≡ true → same y x ≡ true
  pub join : (x y z : Entry) → same x y ≡ true → same y z ≡ true → same x z ≡ true

-- and one for two entries of lists in order, which goes by the lists
pub record Ordered (same less : Entry → Entry → Bool) : Type 0 where
  pub equal : Equal same
  pub left : (x y z : Entry) → same x y ≡ true → less y z ≡ true → less x z ≡ true
  pub right : (x y z : Entry) → less x y ≡ true → same y z ≡ true → less x z ≡ true

-- each entry is less than the next
abbrev pub Steps : (Entry → Entry → Bool) → List Entry → Type 0
Steps less es = (i : ℕ) → suc i < length es → less (get_or es i no_entry) (get_or es (suc i) no_entry) ≡ true

-- where a list starts, counted on from a place
start_from : ℕ → List ℕ → ℕ → ℕ
start_from low ends zero = low
start_from low ends (suc i) = get_or ends i 0

start_same : (ends : List ℕ) (i : ℕ) → start_from 0 ends i ≡ start_of ends i
unfolding start_from
start_same ends zero = refl
start_same ends (suc i) = refl

start_next : (low e : ℕ) (ends : List ℕ) (i : ℕ) → start_from low (e ∷ ends) (suc i) ≡ start_from e ends i
unfolding start_from
start_next low e ends zero = refl
start_next low e ends (suc i) = refl

module _ (same : Entry → Entry → Bool) where
  -- a list has an end and a last
  pub length-ends : (n : ℕ) (es : List Entry) → length (ends_of same n es) ≡ length (lasts_of same es)
  unfolding ends_of lasts_of
  length-ends n [] = refl
  length-ends n (a ∷ []) = refl
  length-ends n (a ∷ b ∷ es) =
      let ih : length (ends_of same (suc n) (b ∷ es)) ≡ length (lasts_of same (b ∷ es)) = length-ends (suc n) (b ∷ es) in
      by_test (same a b) (λ h. rw h ih) (λ h. rw h (ap suc ih))

  -- every end is past where the count stood
  ends-past : (n : ℕ) (a : Entry) (es : List Entry) (i : ℕ) → i < length (ends_of same n (a ∷ es)) → n < get_or (ends_of same n (a ∷ es)) i 0
  unfolding ends_of
  ends-past n a [] zero k = omega arith
  ends-past n a [] (suc i) k = absurd (omega arith)
  ends-past n a (b ∷ es) i k =
      by_test (same a b)
      (λ h. rw h (omega (arith, ends-past (suc n) b es i (rw h at k))))
      (λ h. rw h (new (ends_of same (suc n) (b ∷ es)) (λ i k. ends-past (suc n) b es i k) i (rw h at k)))
    where
      new : (ends : List ℕ) → ((i : ℕ) → i < length ends → suc n < get_or ends i 0) → (i : ℕ) → i < suc (length ends) → n < get_or (suc n ∷ ends) i 0
      new ends later zero k = omega arith
      new ends later (suc i) k = omega (arith, later i (omega arith))

  pub some-ends : (n : ℕ) (a : Entry) (es : List Entry) → 0 < length (ends_of same n (a ∷ es))
  unfolding ends_of
  some-ends n a [] = omega arith
  some-ends n a (b ∷ es) = by_test (same a b) (λ h. rw h (some-ends (suc n) b es)) (λ h. rw h (omega arith))

  -- the ends rise to the number of items
  ends-rise : (n : ℕ) (es : List Entry) (top : ℕ) → n + length es ≡ top → ends_rise n (ends_of same n es) top ≡ true
  unfolding ends_rise ends_of
  ends-rise n [] top e = eq-eqb n top (omega arith)
  ends-rise n (a ∷ []) top e = and_both _ _ (lt-ltb n (suc n) (omega arith)) (eq-eqb (suc n) top (omega arith))
  ends-rise n (a ∷ b ∷ es) top e =
      let ih : ends_rise (suc n) (ends_of same (suc n) (b ∷ es)) top ≡ true = ends-rise (suc n) (b ∷ es) top (omega arith) in
      by_test (same a b)
      (λ h. rw h (sooner (ends_of same (suc n) (b ∷ es)) (some-ends (suc n) b es) ih))
      (λ h. rw h (and_both _ _ (lt-ltb n (suc n) (omega arith)) ih))
    where
      sooner : (ends : List ℕ) → 0 < length ends → ends_rise (suc n) ends top ≡ true → ends_rise n ends top ≡ true
      sooner [] k r = absurd (omega arith)
      sooner (x ∷ ends) k r =
          let s : suc n < x = ltb-true _ _ (and_left _ _ r) in
          and_both _ _ (lt-ltb n x (omega arith)) (and_right (ltb (suc n) x) _ r)

module _ (same : Entry → Entry → Bool) (es : List Entry) where
  rise : ends_rise 0 (ends_of same 0 es) (length es) ≡ true
  rise = ends-rise same 0 es (length es) (omega arith)

  -- a list's own start and end
  pub own_end : (i : ℕ) → i < length (ends_of same 0 es)
      → (start_of (ends_of same 0 es) i < get_or (ends_of same 0 es) i 0) × (get_or (ends_of same 0 es) i 0 ≤ length es)
  own_end i k = start_up (ends_of same 0 es) (length es) i rise k

  -- a list starts within the items
  pub start_in : (i : ℕ) → i ≤ length (ends_of same 0 es) → start_of (ends_of same 0 es) i ≤ length es
  start_in zero k = omega arith
  start_in (suc i) k = (own_end i (omega arith)).1

  -- later lists start later
  pub starts_rise : (i j : ℕ) → i < j → j ≤ length (ends_of same 0 es) → start_of (ends_of same 0 es) i < start_of (ends_of same 0 es) j
  starts_rise i zero m k = absurd (omega arith)
  starts_rise i (suc j) m k =
      let here : start_of (ends_of same 0 es) j < get_or (ends_of same 0 es) j 0 = (own_end j (omega arith)).0 in
      by_test (eqb i j)
      (λ h. let e : i ≡ j = eqb-true _ _ h in rw e here)
      (λ h. omega (arith, starts_rise i j (omega (arith, eqb-false i j h)) (omega arith)))

  -- past the last list there is no item
  pub start_last : start_of (ends_of same 0 es) (length (ends_of same 0 es)) ≡ length es
  unfolding ends_rise
  start_last = go (ends_of same 0 es) (length (ends_of same 0 es)) refl rise
    where
      go : (ends : List ℕ) (n : ℕ) → length ends ≡ n → ends_rise 0 ends (length es) ≡ true → start_of ends n ≡ length es
      go [] zero e r = eqb-true _ _ r
      go (x ∷ ends) zero e r = absurd (omega arith)
      go ends (suc n) e r = ends_last 0 (length es) ends n r e

-- an item of lists l to h is in one of them
pub record Inside (ends : List ℕ) (l h t : ℕ) : Type 0 where
  pub list : ℕ
  pub from : l ≤ list
  pub to : list < h
  pub low : start_of ends list ≤ t
  pub high : t < get_or ends list 0

pub inside : (ends : List ℕ) (l h t : ℕ) → start_of ends l ≤ t → t < start_of ends h → l ≤ h → Inside ends l h t
inside ends l zero t a b c = absurd (let e : l ≡ 0 = omega arith in omega (arith, b))
inside ends l (suc h) t a b c =
    by_test (ltb t (start_of ends h))
    (λ k. by_test (ltb h l)
    (λ m. let e : l ≡ suc h = omega (arith, ltb-true h l m) in absurd (let d : get_or ends h 0 ≤ t = rw e at a in omega arith))
    (λ m. wider (inside ends l h t a (ltb-true t (start_of ends h) k) (ltb-false h l m))))
    (λ k. by_test (ltb h l)
    (λ m. let e : l ≡ suc h = omega (arith, ltb-true h l m) in absurd (let d : get_or ends h 0 ≤ t = rw e at a in omega arith))
    (λ m. record { list = h; from = ltb-false h l m; to = omega arith; low = ltb-false t (start_of ends h) k; high = b }))
  where
    wider : Inside ends l h t → Inside ends l (suc h) t
    wider r = record { list = r.list; from = r.from; to = omega (arith, r.to); low = r.low; high = r.high }

module _ (same : Entry → Entry → Bool) (q : Equal same) where
  -- the first last is of the first item's list
  pub head_last : (a : Entry) (es : List Entry) → same a (get_or (lasts_of same (a ∷ es)) 0 no_entry) ≡ true
  unfolding lasts_of
  head_last a [] = q.self a
  head_last a (b ∷ es) = by_test (same a b) (λ h. rw h (q.join a b _ h (head_last b es))) (λ h. rw h (q.self a))

  -- one more item in front of lists whose items are the same as their lasts: in the first list, or in one of its own
  module _ (n : ℕ) (x y : Entry) (es : List Entry) (ends : List ℕ) (lasts : List Entry)
      (past : (i : ℕ) → i < length ends → suc n < get_or ends i 0)
      (later : (i t : ℕ) → i < length ends → start_from (suc n) ends i ≤ suc n + t → suc n + t < get_or ends i 0
      → same (get_or (y ∷ es) t no_entry) (get_or lasts i no_entry) ≡ true) where
    last_on : same x (get_or lasts 0 no_entry) ≡ true → (i t : ℕ) → i < length ends → start_from n ends i ≤ n + t → n + t < get_or ends i 0
        → same (get_or (x ∷ y ∷ es) t no_entry) (get_or lasts i no_entry) ≡ true
    unfolding start_from
    last_on h zero zero k a b = h
    last_on h (suc i) zero k a b = absurd (omega (arith, past i (omega arith)))
    last_on h zero (suc t) k a b = later zero t k (omega arith) (omega arith)
    last_on h (suc i) (suc t) k a b = later (suc i) t k (omega arith) (omega arith)

    last_new : (i t : ℕ) → i < suc (length ends) → start_from n (suc n ∷ ends) i ≤ n + t → n + t < get_or (suc n ∷ ends) i 0
        → same (get_or (x ∷ y ∷ es) t no_entry) (get_or (x ∷ lasts) i no_entry) ≡ true
    unfolding start_from
    last_new zero zero k a b = q.self x
    last_new zero (suc t) k a b = absurd (omega arith)
    last_new (suc zero) zero k a b = absurd (omega arith)
    last_new (suc (suc i)) zero k a b = absurd (omega (arith, past i (omega arith)))
    last_new (suc i) (suc t) k a b = later i t (omega arith) (omega (arith, start_next n (suc n) ends i)) (omega arith)

  -- the items of a list are the same as its last
  last_from_lem : (n : ℕ) (es : List Entry) (i t : ℕ) → i < length (ends_of same n es) → start_from n (ends_of same n es) i ≤ n + t → n + t < get_or (ends_of same n es) i 0
      → same (get_or es t no_entry) (get_or (lasts_of same es) i no_entry) ≡ true
  unfolding ends_of lasts_of
  last_from_lem n [] i t k a b = absurd (omega arith)
  last_from_lem n (x ∷ []) zero zero k a b = q.self x
  last_from_lem n (x ∷ []) zero (suc t) k a b = absurd (omega arith)
  last_from_lem n (x ∷ []) (suc i) t k a b = absurd (omega arith)
  last_from_lem n (x ∷ y ∷ es) i t k a b =
      let E : List ℕ = ends_of same (suc n) (y ∷ es) in
      let past : (i : ℕ) → i < length E → suc n < get_or E i 0 = ends-past same (suc n) y es in
      by_test (same x y)
      (λ h. rw h (last_on n x y es E (lasts_of same (y ∷ es)) past (λ i t k a b. last_from_lem (suc n) (y ∷ es) i t k a b)
      (q.join x y _ h (head_last y es)) i t (rw h at k) (rw h at a) (rw h at b)))
      (λ h. rw h (last_new n x y es E (lasts_of same (y ∷ es)) past (λ i t k a b. last_from_lem (suc n) (y ∷ es) i t k a b)
      i t (rw h at k) (rw h at a) (rw h at b)))

  pub last_same : (es : List Entry) (i t : ℕ) → i < length (ends_of same 0 es) → start_of (ends_of same 0 es) i ≤ t → t < get_or (ends_of same 0 es) i 0
      → same (get_or es t no_entry) (get_or (lasts_of same es) i no_entry) ≡ true
  last_same es i t k a b = last_from_lem 0 es i t k (rw (start_same (ends_of same 0 es) i) (omega arith)) (omega arith)

-- by list, then by item
abbrev pub then_by : (Entry → Entry → Bool) → (Entry → Entry → Bool) → (Entry → ℕ) → Entry → Entry → Bool
then_by same less f x y = less x y || (same x y && ltb (f x) (f y))

-- one list and one item
abbrev pub also_by : (Entry → Entry → Bool) → (Entry → ℕ) → Entry → Entry → Bool
also_by same f x y = same x y && eqb (f x) (f y)

module _ (same less : Entry → Entry → Bool) (f : Entry → ℕ) (o : Ordered same less) where
  -- entries in order by list and item have their lists in order
  pub lasts_step : (es : List Entry) → Steps (then_by same less f) es → Steps less (lasts_of same es)
  unfolding lasts_of
  lasts_step [] s i k = absurd (omega arith)
  lasts_step (a ∷ []) s i k = absurd (omega arith)
  lasts_step (a ∷ b ∷ es) s i k =
      let later : Steps less (lasts_of same (b ∷ es)) = lasts_step (b ∷ es) (λ i k. s (suc i) (omega arith)) in
      by_test (same a b)
      (λ h. rw h (later i (rw h at k)))
      (λ h. rw h (new (lasts_of same (b ∷ es)) (o.right a b _ (apart h) (head_last same o.equal b es)) later i (rw h at k)))
    where
      apart : same a b ≡ false → less a b ≡ true
      apart h = by_test (less a b) (λ l. l) (λ l. absurd (true-not-false (sym (s 0 (omega arith)) ∙ (rw (l, h)))))

      new : (ls : List Entry) → less a (get_or ls 0 no_entry) ≡ true → Steps less ls → Steps less (a ∷ ls)
      new ls h later zero k = h
      new ls h later (suc i) k = later i (omega arith)
