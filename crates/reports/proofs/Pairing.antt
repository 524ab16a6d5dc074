-- Two ranges of two lists that interleave by their items: the survey of the ranges weaves them.
use Prim.Native.Nat.{ℕ, zero, suc, ◌+◌, ◌-◌, ◌<◌, ◌≤◌}
use mathlib.Core.Path.{◌≡◌, refl, sym, ◌∙◌, ap, subst}
use mathlib.Core.Bool.{Bool, true, false}
use mathlib.Core.List.{List, [], ◌∷◌, ◌++◌, map}
use native.Mathlib.Omega.{arith}
use native.Mathlib.Nat.{add-zero}
use lib.Dec.{ltb, eqb}
use lib.ListN.{length, get_or, take, drop, length-drop, length-map, drop_of_length-le}
use lib.Seq.{drop-cons, get_or-take, get_or-drop, length-take-le}
use borrow.Author.Tests.{lt-ltb, ltb-true, ltb-false, eqb-true, eqb-false}
use Rattle.laws.proofs.Tests.{by_test, and_left, and_right, and_both}
use Rattle.chunk.specs.Entry.{Entry, every}
use Rattle.reports.specs.Survey.{Report, this, that, below, rest_of, reports_from}
use Rattle.reports.specs.Gallop.{between}
use Rattle.reports.specs.Scratch.{pair_of}
use Rattle.reports.specs.Woven.{no_entry, ahead, Woven}

-- ---- a run ahead of what is left of the other list, item by item

module _ (p : Entry → Bool) where
  every-at : (es : List Entry) → ((t : ℕ) → t < length es → p (get_or es t no_entry) ≡ true) → every p es ≡ true
  unfolding every
  every-at [] h = refl
  every-at (e ∷ es) h = and_both _ _ (h 0 (omega arith)) (every-at es (λ t k. h (suc t) (omega arith)))

  at_every : (es : List Entry) (t : ℕ) → every p es ≡ true → t < length es → p (get_or es t no_entry) ≡ true
  unfolding every
  at_every [] t h k = absurd (omega arith)
  at_every (e ∷ es) zero h k = and_left _ _ h
  at_every (e ∷ es) (suc t) h k = at_every es t (and_right (p e) _ h) (omega arith)

  every_run : (es : List Entry) (l h : ℕ) → h ≤ length es → ((t : ℕ) → l ≤ t → t < h → p (get_or es t no_entry) ≡ true)
      → every p (take (h - l) (drop l es)) ≡ true
  every_run es l h k f =
      every-at (take (h - l) (drop l es)) λ t m.
      let n : length (take (h - l) (drop l es)) ≤ h - l = le_taken (h - l) (drop l es) in
      rw (get_or-take (h - l) (drop l es) t no_entry (omega arith), get_or-drop l es t no_entry) (f (l + t) (omega arith) (omega arith))
    where
      le_taken : (n : ℕ) (xs : List Entry) → length (take n xs) ≤ n
      le_taken zero xs = omega arith
      le_taken (suc n) [] = omega arith
      le_taken (suc n) (x ∷ xs) = omega (arith, le_taken n xs)

  run_every : (es : List Entry) (l h t : ℕ) → h ≤ length es → every p (take (h - l) (drop l es)) ≡ true → l ≤ t → t < h → p (get_or es t no_entry) ≡ true
  run_every es l h t k e a b =
      let n : length (take (h - l) (drop l es)) ≡ h - l = length-take-le (h - l) (drop l es) (omega (arith, length-drop l es)) in
      let g : p (get_or (take (h - l) (drop l es)) (t - l) no_entry) ≡ true = at_every (take (h - l) (drop l es)) (t - l) e (omega arith) in
      let at : l + (t - l) ≡ t = omega arith in
      rw (get_or-take (h - l) (drop l es) (t - l) no_entry (omega arith), get_or-drop l es (t - l) no_entry, at) at g

module _ (lt : Entry → Entry → Bool) (es fs : List Entry) (j : ℕ) where
  ahead-at : (x : Entry) → (j < length fs → lt x (get_or fs j no_entry) ≡ true) → ahead lt (drop j fs) x ≡ true
  ahead-at x h =
      by_test (ltb j (length fs))
      (λ k. rw (drop-cons fs j no_entry (ltb-true j (length fs) k)) (h (ltb-true _ _ k)))
      (λ k. rw (drop_of_length-le fs {i = j} (ltb-false j (length fs) k)))

  at_ahead : (x : Entry) → j < length fs → ahead lt (drop j fs) x ≡ true → lt x (get_or fs j no_entry) ≡ true
  at_ahead x k h = rw (drop-cons fs j no_entry k) at h

  -- a run each of whose items is before the other list's item at j, if there is one, and back
  pub run_ahead : (l h : ℕ) → h ≤ length es → ((t : ℕ) → l ≤ t → t < h → j < length fs → lt (get_or es t no_entry) (get_or fs j no_entry) ≡ true)
      → every (ahead lt (drop j fs)) (take (h - l) (drop l es)) ≡ true
  run_ahead l h k f = every_run (ahead lt (drop j fs)) es l h k (λ t a b. ahead-at (get_or es t no_entry) (f t a b))

  pub ahead_run : (l h t : ℕ) → h ≤ length es → every (ahead lt (drop j fs)) (take (h - l) (drop l es)) ≡ true → l ≤ t → t < h → j < length fs
      → lt (get_or es t no_entry) (get_or fs j no_entry) ≡ true
  ahead_run l h t k e a b c = at_ahead (get_or es t no_entry) c (run_every (ahead lt (drop j fs)) es l h t k e a b)

-- ---- two ranges

-- how the items from i to p of one list, and those from j to q of the other, stand to each other and to the items past the ranges
pub record Meet (lt eq : Entry → Entry → Bool) (f : Entry → ℕ) (es fs : List Entry) (i p j q : ℕ) : Type 0 where
  pub to : i ≤ p
  pub in0 : p ≤ length es
  pub to1 : j ≤ q
  pub in1 : q ≤ length fs
  pub equal : (t s : ℕ) → i ≤ t → t < p → j ≤ s → s < q → f (get_or es t no_entry) ≡ f (get_or fs s no_entry) → eq (get_or es t no_entry) (get_or fs s no_entry) ≡ true
  pub less : (t s : ℕ) → i ≤ t → t < p → j ≤ s → s < q → f (get_or es t no_entry) < f (get_or fs s no_entry) → lt (get_or es t no_entry) (get_or fs s no_entry) ≡ true
  pub more : (t s : ℕ) → i ≤ t → t < p → j ≤ s → s < q → f (get_or fs s no_entry) < f (get_or es t no_entry) → lt (get_or fs s no_entry) (get_or es t no_entry) ≡ true
  pub past0 : (s : ℕ) → j ≤ s → s < q → p < length es → lt (get_or fs s no_entry) (get_or es p no_entry) ≡ true
  pub past1 : (t : ℕ) → i ≤ t → t < p → q < length fs → lt (get_or es t no_entry) (get_or fs q no_entry) ≡ true

-- the numbers of the items from i to p
record Part (f : Entry → ℕ) (es : List Entry) (i p : ℕ) (xs : List ℕ) : Type 0 where
  long : i + length xs ≡ p
  item : (t : ℕ) → t < length xs → get_or xs t 0 ≡ f (get_or es (i + t) no_entry)

below_length : (x : ℕ) (l : List ℕ) → below x l ≤ length l
unfolding below
below_length x [] = omega arith
below_length x (a ∷ l) =
    let ih : below x l ≤ length l = below_length x l in
    by_test (ltb a x) (λ h. rw h (omega arith)) (λ h. rw h (omega arith))

below_less : (x : ℕ) (l : List ℕ) (t : ℕ) → t < below x l → get_or l t 0 < x
unfolding below
below_less x [] t h = absurd (omega arith)
below_less x (a ∷ l) t h = by_test (ltb a x) (λ k. go (λ t m. below_less x l t m) t (ltb-true a x k) (rw k at h)) (λ k. absurd (let z : t < 0 = rw k at h in omega arith))
  where
    go : ((t : ℕ) → t < below x l → get_or l t 0 < x) → (t : ℕ) → a < x → t < suc (below x l) → get_or (a ∷ l) t 0 < x
    go r zero k m = k
    go r (suc t) k m = r t (omega arith)

module _ (f : Entry → ℕ) (es : List Entry) (i p : ℕ) where
  part_drop : (xs : List ℕ) (k : ℕ) → k ≤ length xs → Part f es i p xs → Part f es (i + k) p (drop k xs)
  part_drop xs k h r =
      record {
        long = omega (arith, length-drop k xs, r.long);
        item = λ t m.
            let e : i + (k + t) ≡ i + k + t = omega arith in
            get_or-drop k xs t 0 ∙ r.item (k + t) (omega (arith, length-drop k xs)) ∙ ap (λ (n : ℕ). f (get_or es n no_entry)) e;
      }

  part_head : (x : ℕ) (xs : List ℕ) → Part f es i p (x ∷ xs) → x ≡ f (get_or es i no_entry)
  part_head x xs r = r.item 0 (omega arith) ∙ ap (λ (n : ℕ). f (get_or es n no_entry)) (add-zero i)

  part_tail : (x : ℕ) (xs : List ℕ) → Part f es i p (x ∷ xs) → Part f es (suc i) p xs
  part_tail x xs r =
      record {
        long = omega (arith, r.long);
        item = λ t m. let e : i + suc t ≡ suc i + t = omega arith in r.item (suc t) (omega arith) ∙ ap (λ (n : ℕ). f (get_or es n no_entry)) e;
      }

  part_between : i ≤ p → p ≤ length es → Part f es i p (between i p (map f es))
  part_between a b =
      let n : length (between i p (map f es)) ≡ p - i = length-take-le (p - i) (drop i (map f es)) (omega (arith, length-drop i (map f es), length-map es f)) in
      record {
        long = omega arith;
        item = λ t m.
            get_or-take (p - i) (drop i (map f es)) t 0 (omega arith) ∙ get_or-drop i (map f es) t 0 ∙ at es (i + t) (omega arith);
      }
    where
      at : (xs : List Entry) (t : ℕ) → t < length xs → get_or (map f xs) t 0 ≡ f (get_or xs t no_entry)
      at [] t h = absurd (omega arith)
      at (x ∷ xs) zero h = refl
      at (x ∷ xs) (suc t) h = at xs t (omega arith)

  -- the items of a run below a number are
  part_below : (xs : List ℕ) (y t : ℕ) → Part f es i p xs → i ≤ t → t < i + below y xs → (t < p) × (f (get_or es t no_entry) < y)
  part_below xs y t r a b =
      let n : below y xs ≤ length xs = below_length y xs in
      let e : i + (t - i) ≡ t = omega arith in
      let g : get_or xs (t - i) 0 ≡ f (get_or es t no_entry) = r.item (t - i) (omega arith) ∙ ap (λ (n : ℕ). f (get_or es n no_entry)) e in
      (omega (arith, r.long), omega (arith, below_less y xs (t - i) (omega arith)))

-- the reports at two heads that differ
module _ (n i j a : ℕ) (cs : List ℕ) (b : ℕ) (bs : List ℕ) (e : eqb a b ≡ false) where
  first_this : ltb a b ≡ true
      → reports_from (suc n) i j (a ∷ cs) (b ∷ bs)
      ≡ this i (i + below b (a ∷ cs)) ∷ reports_from n (i + below b (a ∷ cs)) j (drop (below b (a ∷ cs)) (a ∷ cs)) (b ∷ bs)
  unfolding reports_from
  first_this g = rw (e, g)

  first_that : ltb a b ≡ false
      → reports_from (suc n) i j (a ∷ cs) (b ∷ bs)
      ≡ that j (j + below a (b ∷ bs)) ∷ reports_from n i (j + below a (b ∷ bs)) (a ∷ cs) (drop (below a (b ∷ bs)) (b ∷ bs))
  unfolding reports_from
  first_that g = rw (e, g)

below-some : (y x : ℕ) (xs : List ℕ) → ltb x y ≡ true → 0 < below y (x ∷ xs)
unfolding below
below-some y x xs h = rw h (omega arith)

module _ (lt eq : Entry → Entry → Bool) (f : Entry → ℕ) (es fs : List Entry) (i0 p j0 q : ℕ) (m : Meet lt eq f es fs i0 p j0 q) (rest : List Report)
    (w : Woven lt eq es fs p q rest) where
  woven_from : (n i j : ℕ) (xs ys : List ℕ) → length xs + length ys ≤ n → i0 ≤ i → j0 ≤ j → Part f es i p xs → Part f fs j q ys
      → Woven lt eq es fs i j (reports_from n i j xs ys ++ rest)
  unfolding reports_from rest_of
  woven_from zero i j [] [] h a b x y = let e : i ≡ p = omega (arith, x.long) in let d : j ≡ q = omega (arith, y.long) in rw (e, d) w
  woven_from zero i j [] (b ∷ bs) h c d x y = absurd (omega arith)
  woven_from zero i j (a ∷ cs) ys h c d x y = absurd (omega arith)
  woven_from (suc n) i j [] [] h a b x y = let e : i ≡ p = omega (arith, x.long) in let d : j ≡ q = omega (arith, y.long) in rw (e, d) w
  woven_from (suc n) i j [] (b ∷ bs) h c d x y =
      let e : i ≡ p = omega (arith, x.long) in
      let g : j + suc (length bs) ≡ q = y.long in
      rw (e, g) (refl, omega arith, m.in1, run_ahead lt fs es p j q m.in1 (λ s u v k. m.past0 s (omega arith) v k), w)
  woven_from (suc n) i j (a ∷ cs) [] h c d x y =
      let e : j ≡ q = omega (arith, y.long) in
      let g : i + suc (length cs) ≡ p = x.long in
      rw (e, g) (refl, omega arith, m.in0, run_ahead lt es fs q i p m.in0 (λ t u v k. m.past1 t (omega arith) v k), w)
  woven_from (suc n) i j (a ∷ cs) (b ∷ bs) h c d x y =
      let ip : i < p = omega (arith, x.long) in
      let jq : j < q = omega (arith, y.long) in
      let ha : a ≡ f (get_or es i no_entry) = part_head f es i p a cs x in
      let hb : b ≡ f (get_or fs j no_entry) = part_head f fs j q b bs y in
      let ib : i < length es = omega (arith, m.in0) in
      let jb : j < length fs = omega (arith, m.in1) in
      by_test (eqb a b)
      (λ e. let ab : a ≡ b = eqb-true a b e in
      rw e (
        refl,
        refl,
        ib,
        jb,
        m.equal i j c ip d jq (sym ha ∙ ab ∙ hb),
        woven_from n (suc i) (suc j) cs bs (omega arith) (omega arith) (omega arith) (part_tail f es i p a cs x) (part_tail f fs j q b bs y),
      ))
      (λ e. by_test (ltb a b)
      (λ g. let k : below b (a ∷ cs) ≤ length (a ∷ cs) = below_length b (a ∷ cs) in
      let some : 0 < below b (a ∷ cs) = below-some b a cs g in
      let fewer : length (drop (below b (a ∷ cs)) (a ∷ cs)) ≡ length (a ∷ cs) - below b (a ∷ cs) = length-drop (below b (a ∷ cs)) (a ∷ cs) in
      subst (λ (rs : List Report). Woven lt eq es fs i j (rs ++ rest)) (sym (first_this n i j a cs b bs e g)) (
        refl,
        omega arith,
        omega (arith, x.long, m.in0),
        run_ahead lt es fs j i (i + below b (a ∷ cs)) (omega (arith, x.long, m.in0))
            (λ t u v z. let r : (t < p) × (f (get_or es t no_entry) < b) = part_below f es i p (a ∷ cs) b t x u v in
            m.less t j (omega arith) r.0 d jq (omega (arith, r.1))),
        woven_from n (i + below b (a ∷ cs)) j (drop (below b (a ∷ cs)) (a ∷ cs)) (b ∷ bs) (omega arith) (omega arith) d
            (part_drop f es i p (a ∷ cs) (below b (a ∷ cs)) k x) y,
      ))
      (λ g. let k : below a (b ∷ bs) ≤ length (b ∷ bs) = below_length a (b ∷ bs) in
      let some : 0 < below a (b ∷ bs) = below-some a b bs (lt-ltb b a (omega (arith, ltb-false a b g, eqb-false a b e))) in
      let fewer : length (drop (below a (b ∷ bs)) (b ∷ bs)) ≡ length (b ∷ bs) - below a (b ∷ bs) = length-drop (below a (b ∷ bs)) (b ∷ bs) in
      subst (λ (rs : List Report). Woven lt eq es fs i j (rs ++ rest)) (sym (first_that n i j a cs b bs e g)) (
        refl,
        omega arith,
        omega (arith, y.long, m.in1),
        run_ahead lt fs es i j (j + below a (b ∷ bs)) (omega (arith, y.long, m.in1))
            (λ s u v z. let r : (s < q) × (f (get_or fs s no_entry) < a) = part_below f fs j q (b ∷ bs) a s y u v in
            m.more i s c ip (omega arith) r.0 (omega (arith, r.1))),
        woven_from n i (j + below a (b ∷ bs)) (a ∷ cs) (drop (below a (b ∷ bs)) (b ∷ bs)) (omega arith) c (omega arith)
            x (part_drop f fs j q (b ∷ bs) (below a (b ∷ bs)) k y),
      )))

  -- the survey of two ranges, before what weaves the rest
  pub pair_woven : Woven lt eq es fs i0 j0 (pair_of (map f es) i0 p (map f fs) j0 q ++ rest)
  unfolding pair_of
  pair_woven =
      let x : Part f es i0 p (between i0 p (map f es)) = part_between f es i0 p m.to m.in0 in
      let y : Part f fs j0 q (between j0 q (map f fs)) = part_between f fs j0 q m.to1 m.in1 in
      woven_from (p - i0 + (q - j0)) i0 j0 (between i0 p (map f es)) (between j0 q (map f fs)) (omega (arith, x.long, y.long)) (omega arith) (omega arith) x y
