-- One look over the times after the other: what each finds, and that the corners found are the least of the open times.
use Prim.Native.Nat.{ℕ, suc, ◌+◌, ◌-◌, ◌<◌, ◌≤◌, ◌^◌}
use mathlib.Core.Path.{◌≡◌, refl, sym, ◌∙◌, ap}
use mathlib.Core.Bool.{Bool, true, false, ◌&&◌}
use mathlib.Core.List.{List, [], ◌∷◌, ◌++◌, append_assoc, append-nil}
use native.Mathlib.Omega.{arith}
use lib.Dec.{ltb, leb, eqb}
use lib.ListN.{length, take, drop, set, replicate, length-append, take-append-drop, length-set}
use lib.Seq.{take-suc-set, drop-set-lt, drop-drop, length-take-le}
use borrow.Author.Tests.{ltb-true, ltb-false, eqb-true, eqb-false, lt-ltb, le-leb, lt-leb}
use Rattle.chunk.specs.Entry.{tick, keep}
use Rattle.chunk.specs.Time.{earlier}
use Rattle.chunk.proofs.Tests.{earlier_is_less}
use Rattle.laws.proofs.Tests.{by_test, and_left, and_right, and_both, and-false, true-not-false}
use Rattle.std.specs.Prelude.{Option, None, Some}
use Rattle.retain.specs.declared.Frontier.{Frontier}
use Rattle.retain.specs.Frontier.{any, is_open, least_of, places}
use Rattle.retain.specs.Found.{least_from, better_than, corners_of, corners_as}
use Rattle.retain.proofs.Alone.{has, has-keep, least_cons}

none-some : (x : ℕ) → ◌≡◌ {A = Option ℕ} None (Some x) → ⊥
none-some x h = cc

-- what is there, or 0
abbrev got : Option ℕ → ℕ
got None = 0
got (Some x) = x

module _ (upper : List ℕ) (limit : ℕ) where
  -- the open times with a tick below the limit
  abbrev under : List ℕ → List ℕ
  under ts = keep (λ (t : ℕ). ltb (tick t) limit) (keep (is_open upper) ts)

  -- whether a time is one of them
  abbrev counts : ℕ → Bool
  counts t = ltb (tick t) limit && is_open upper t

  under_in : (t : ℕ) (ts : List ℕ) → counts t ≡ true → under (t ∷ ts) ≡ t ∷ under ts
  unfolding keep
  under_in t ts h =
      let a : ltb (tick t) limit ≡ true = and_left _ _ h in
      let o : is_open upper t ≡ true = and_right (ltb (tick t) limit) _ h in
      simp (o, a)

  under_out : (t : ℕ) (ts : List ℕ) → counts t ≡ false → under (t ∷ ts) ≡ under ts
  unfolding keep
  under_out t ts h =
      by_test (is_open upper t)
      (λ k. by_test (ltb (tick t) limit) (λ m. absurd (true-not-false (sym (and_both _ _ m k) ∙ h))) (λ m. simp (k, m)))
      (λ k. simp k)

  -- the best of those left, once there is one
  pub record Best (ts : List ℕ) (best : ℕ) (r : Option ℕ) : Type 0 where
    pub value : ℕ
    pub found : r ≡ Some value
    pub most : value ≤ best
    pub least : (t : ℕ) → has t (under ts) ≡ true → value ≤ t
    pub among : (value ≡ best → ⊥) → has value (under ts) ≡ true

  has_more : (t x : ℕ) (l : List ℕ) → has t l ≡ true → has t (x ∷ l) ≡ true
  unfolding any
  has_more t x l h = by_test (eqb t x) (λ k. simp k) (λ k. simp (k, h))

  among-cons : (x t : ℕ) (l : List ℕ) → ((x ≡ t → ⊥) → has x l ≡ true) → has x (t ∷ l) ≡ true
  unfolding any
  among-cons x t l f = by_test (eqb x t) (λ k. simp k) (λ k. simp (k, f (eqb-false _ _ k)))

  has_split : (t x : ℕ) (l : List ℕ) (P : Type 0) → has t (x ∷ l) ≡ true → (t ≡ x → P) → (has t l ≡ true → P) → P
  unfolding any
  has_split t x l P h f g = by_test (eqb t x) (λ k. f (eqb-true _ _ k)) (λ k. g (simp k at h))

  no_under : (t : ℕ) → has t (under []) ≡ false
  unfolding keep any
  no_under t = refl

  best_of : (ts : List ℕ) (best : ℕ) → Best ts best (least_from upper limit ts (Some best))
  unfolding least_from
  best_of [] best =
      record { value = best; found = refl; most = omega arith; least = λ t h. absurd (true-not-false (sym h ∙ no_under t)); among = λ h. absurd (h refl) }
  best_of (t ∷ ts) best =
      by_test (counts t)
      (λ k. let u : under (t ∷ ts) ≡ t ∷ under ts = under_in t ts k in
      let tl : ltb (tick t) limit ≡ true = and_left _ _ k in
      let op : is_open upper t ≡ true = and_right (ltb (tick t) limit) _ k in
      by_test (earlier t best)
      (λ b. let tb : t < best = ltb-true _ _ (earlier_is_less t best ∙ b) in
      let ih : Best ts t (least_from upper limit ts (Some t)) = best_of ts t in
      simp (tl, op, b) (record {
        value = ih.value;
        found = ih.found;
        most = omega (arith, ih.most);
        least = λ x h. has_split x t (under ts) _ (simp u at h) (λ e. omega (arith, ih.most)) (λ g. ih.least x g);
        among = λ h. rw u (among-cons _ t (under ts) ih.among);
      }))
      (λ b. let tb : best ≤ t = ltb-false _ _ (earlier_is_less t best ∙ b) in
      let ih : Best ts best (least_from upper limit ts (Some best)) = best_of ts best in
      simp (tl, op, b) (record {
        value = ih.value;
        found = ih.found;
        most = ih.most;
        least = λ x h. has_split x t (under ts) _ (simp u at h) (λ e. omega (arith, ih.most)) (λ g. ih.least x g);
        among = λ h. rw u (has_more _ t (under ts) (ih.among h));
      })))
      (λ k. let u : under (t ∷ ts) ≡ under ts = under_out t ts k in
      let ih : Best ts best (least_from upper limit ts (Some best)) = best_of ts best in
      let no : better_than upper limit (Some best) t ≡ false = not_better t best k in
      simp no (record {
        value = ih.value;
        found = ih.found;
        most = ih.most;
        least = λ x h. ih.least x (simp u at h);
        among = λ h. rw u (ih.among h);
      }))
    where
      not_better : (t best : ℕ) → counts t ≡ false → better_than upper limit (Some best) t ≡ false
      not_better t best k =
          by_test (ltb (tick t) limit)
          (λ a. by_test (is_open upper t) (λ o. absurd (true-not-false (sym (and_both _ _ a o) ∙ k))) (λ o. simp (a, o, and-false)))
          (λ a. simp a)

  under-nil : under [] ≡ []
  unfolding keep
  under-nil = refl

  -- nothing found: nothing there
  pub none_found : (ts : List ℕ) → None ≡ least_from upper limit ts None → under ts ≡ []
  unfolding least_from
  none_found [] h = under-nil
  none_found (t ∷ ts) h =
      by_test (counts t)
      (λ k. let tl : ltb (tick t) limit ≡ true = and_left _ _ k in
      let op : is_open upper t ≡ true = and_right (ltb (tick t) limit) _ k in
      absurd (none-some _ (simp (tl, op) at h ∙ (best_of ts t).found)))
      (λ k. under_out t ts k ∙ none_found ts (simp (not_first t k) at h))
    where
      not_first : (t : ℕ) → counts t ≡ false → better_than upper limit None t ≡ false
      not_first t k = k

  -- something found: it is the least there
  pub record Found (ts : List ℕ) (best : ℕ) : Type 0 where
    pub least : (t : ℕ) → has t (under ts) ≡ true → best ≤ t
    pub among : has best (under ts) ≡ true

  pub some-found : (ts : List ℕ) (best : ℕ) → Some best ≡ least_from upper limit ts None → Found ts best
  unfolding least_from
  some-found [] best h = absurd (none-some best (sym h))
  some-found (t ∷ ts) best h =
      by_test (counts t)
      (λ k. let u : under (t ∷ ts) ≡ t ∷ under ts = under_in t ts k in
      let tl : ltb (tick t) limit ≡ true = and_left _ _ k in
      let op : is_open upper t ≡ true = and_right (ltb (tick t) limit) _ k in
      let ih : Best ts t (least_from upper limit ts (Some t)) = best_of ts t in
      let z : best ≡ ih.value = ap got (simp (tl, op) at h ∙ ih.found) in
      rw z (record {
        least = λ x g. has_split x t (under ts) _ (simp u at g) (λ e. omega (arith, ih.most)) (λ m. ih.least x m);
        among = rw u (among-cons _ t (under ts) ih.among);
      }))
      (λ k. let u : under (t ∷ ts) ≡ under ts = under_out t ts k in
      let ih : Found ts best = some-found ts best (simp k at h) in
      record { least = λ x g. ih.least x (simp u at g); among = rw u ih.among })

-- ---- corner after corner

keep-keep : (p q : ℕ → Bool) → ((t : ℕ) → p t ≡ true → q t ≡ true) → (l : List ℕ) → keep p (keep q l) ≡ keep p l
unfolding keep
keep-keep p q f [] = refl
keep-keep p q f (a ∷ l) =
    let ih : keep p (keep q l) ≡ keep p l = keep-keep p q f l in
    by_test (q a)
    (λ h. by_test (p a) (λ k. simp (h, k, ih)) (λ k. simp (h, k, ih)))
    (λ h. by_test (p a) (λ k. absurd (true-not-false (sym (f a k) ∙ h))) (λ k. simp (h, k, ih)))

keep_each : (p : ℕ → Bool) → ((t : ℕ) → p t ≡ true) → (l : List ℕ) → keep p l ≡ l
unfolding keep
keep_each p f [] = refl
keep_each p f (a ∷ l) = simp (f a) (ap (λ (x : List ℕ). a ∷ x) (keep_each p f l))

drop_next : (l : List ℕ) (n k : ℕ) → drop n l ≡ replicate (suc k) 0 → drop (suc n) l ≡ replicate k 0
drop_next l n k h =
    let q : suc n ≡ n + 1 = omega arith in
    ap (λ (j : ℕ). drop j l) q ∙ sym (drop-drop 1 n l) ∙ ap (λ (x : List ℕ). drop 1 x) h

module _ (upper times : List ℕ) where
  abbrev opened : List ℕ
  opened = keep (is_open upper) times

  pub record Climbing (corners : List ℕ) (count limit : ℕ) : Type 0 where
    pub within : count ≤ 128
    pub size : length corners ≡ 128
    pub whole : least_of opened ≡ take count corners ++ least_of (under upper limit times)
    pub blank : drop count corners ≡ replicate (128 - count) 0

  pub climb_start : Climbing (replicate 128 0) 0 (2 ^ 32)
  climb_start =
      record {
        within = omega arith;
        size = refl;
        whole = ap least_of (sym (keep_each (λ (t : ℕ). ltb (tick t) (2 ^ 32)) (λ t. lt-ltb (tick t) (2 ^ 32) (let h : tick t < 2 ^ 32 = omega arith in h)) opened));
        blank = refl;
      }

  next_corner : (limit best : ℕ) → Found upper limit times best → least_of (under upper limit times) ≡ best ∷ least_of (under upper (tick best) times)
  next_corner limit best f =
      let m : (has best opened && ltb (tick best) limit) ≡ true = sym (has-keep (λ (t : ℕ). ltb (tick t) limit) best opened) ∙ f.among in
      let b : tick best < limit = ltb-true _ _ (and_right (has best opened) _ m) in
      least_cons best (under upper limit times) f.among f.least
      ∙ ap (λ (l : List ℕ). best ∷ least_of l)
      (keep-keep (λ (t : ℕ). ltb (tick t) (tick best)) (λ (t : ℕ). ltb (tick t) limit)
      (λ t h. let g : tick t < tick best = ltb-true _ _ h in lt-ltb (tick t) limit (omega arith)) opened)

  pub climb_more : (corners : List ℕ) (count limit best : ℕ) → Climbing corners count limit → count < 128
      → Some best ≡ least_from upper limit times None → Climbing (set corners count best) (count + 1) (tick best)
  climb_more corners count limit best w h e =
      let f : Found upper limit times best = some-found upper limit times best e in
      let s : count + 1 ≡ suc count = omega arith in
      let n : 128 - count ≡ suc (128 - suc count) = omega arith in
      let lt : count < length corners = omega (arith, w.size) in
      record {
        within = omega arith;
        size = length-set corners count best ∙ w.size;
        whole =
            w.whole ∙ ap (λ (l : List ℕ). take count corners ++ l) (next_corner limit best f)
            ∙ sym (append_assoc (take count corners) (best ∷ []) (least_of (under upper (tick best) times)))
            ∙ ap (λ (l : List ℕ). l ++ least_of (under upper (tick best) times)) (sym (take-suc-set corners count best lt) ∙ ap (λ (j : ℕ). take j (set corners count best)) (sym s));
        blank =
            ap (λ (j : ℕ). drop j (set corners count best)) s
            ∙ drop-set-lt (suc count) corners count best (omega arith)
            ∙ drop_next corners count (128 - suc count) (w.blank ∙ ap (λ (j : ℕ). replicate j 0) n)
            ∙ ap (λ (j : ℕ). replicate (128 - j) 0) (sym s);
      }

  least-nil : least_of [] ≡ []
  unfolding least_of keep
  least-nil = refl

  pub climb_done : (corners : List ℕ) (count limit : ℕ) → Climbing corners count limit → None ≡ least_from upper limit times None
      → ◌≡◌ {A = Option Frontier} (Some (record { count = count; corners = corners })) (corners_of (least_of opened))
  climb_done corners count limit w e =
      let u : under upper limit times ≡ [] = none_found upper limit times e in
      let l : least_of opened ≡ take count corners = w.whole ∙ ap (λ (x : List ℕ). take count corners ++ least_of x) u ∙ ap (λ (x : List ℕ). take count corners ++ x) least-nil ∙ append-nil (take count corners) in
      let n : length (take count corners) ≡ count = length-take-le count corners (omega (arith, w.size, w.within)) in
      let b : leb (length (take count corners)) 128 ≡ true = le-leb (length (take count corners)) 128 (omega (arith, w.within)) in
      let p : corners ≡ places (take count corners) =
      sym (take-append-drop count corners) ∙ ap (λ (x : List ℕ). take count corners ++ x) (w.blank ∙ ap (λ (j : ℕ). replicate (128 - j) 0) (sym n)) in
      (λ i. Some (record { count = sym n i; corners = p i }))
      ∙ ap (λ (x : Bool). corners_as x (take count corners)) (sym b) ∙ ap corners_of (sym l)

  pub climb_over : (corners : List ℕ) (count limit best : ℕ) → Climbing corners count limit → 128 ≤ count
      → Some best ≡ least_from upper limit times None → None ≡ corners_of (least_of opened)
  climb_over corners count limit best w h e =
      let f : Found upper limit times best = some-found upper limit times best e in
      let n : length (take count corners) ≡ count = length-take-le count corners (omega (arith, w.size, w.within)) in
      let l : least_of opened ≡ take count corners ++ (best ∷ least_of (under upper (tick best) times)) = w.whole ∙ ap (λ (x : List ℕ). take count corners ++ x) (next_corner limit best f) in
      let m = length-append (take count corners) (best ∷ least_of (under upper (tick best) times)) in
      let z : length (least_of opened) ≡ length (take count corners ++ (best ∷ least_of (under upper (tick best) times))) = ap length l in
      let b : leb (length (least_of opened)) 128 ≡ false = lt-leb (length (least_of opened)) 128 (omega arith) in
      ap (λ (x : Bool). corners_as x (least_of opened)) (sym b)
