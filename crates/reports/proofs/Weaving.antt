-- Lists that are woven have their items woven by the survey of the next layer; so the surveys of keys, values and times weave two rising lists.
use Prim.Native.Nat.{ℕ, zero, suc, ◌-◌, ◌<◌, ◌≤◌}
use mathlib.Core.Path.{◌≡◌, refl, sym, ◌∙◌, ap, subst}
use mathlib.Core.Bool.{Bool, true, false, ◌&&◌, ◌||◌}
use mathlib.Core.List.{List, [], ◌∷◌, map, append-nil}
use native.Mathlib.Omega.{arith}
use lib.Dec.{ltb, eqb}
use lib.ListN.{length, get_or, length-map}
use borrow.Author.Tests.{lt-ltb, eq-eqb, eqb-true, ltb-true, ltb-false}
use Rattle.laws.proofs.Tests.{by_test, and_left, and_right, and_both}
use Rattle.chunk.specs.Entry.{Entry, before, same, same_list, rising, rising_from}
use Rattle.chunk.specs.Contents.{start_of}
use Rattle.chunk.specs.Bodies.{lasts_of, ends_of, same_key, keys}
use Rattle.reports.specs.Survey.{Report, this, that, both}
use Rattle.reports.specs.Scratch.{survey_of, surveyed}
use Rattle.reports.specs.Layers.{key_survey, val_survey, time_survey}
use Rattle.reports.specs.Orders.{key_less, val_less}
use Rattle.reports.specs.Woven.{no_entry, Woven}
use Rattle.reports.proofs.Groupings.{Equal, Ordered, Steps, length-ends, own_end, start_in, starts_rise, start_last, Inside, inside, last_same, then_by, also_by, lasts_step}
use Rattle.reports.proofs.Pairing.{run_ahead, ahead_run, Meet, pair_woven}
use Rattle.reports.proofs.Bodies.{lasts_lasts}

or_left : (a b : Bool) → a ≡ true → (a || b) ≡ true
or_left a b h = rw h

or_right : (a b : Bool) → b ≡ true → (a || b) ≡ true
or_right true b h = refl
or_right false b h = h

before_end : (h : ℕ) (ends : List ℕ) → 0 < h → get_or ends (h - 1) 0 ≡ start_of ends h
before_end zero ends k = absurd (omega arith)
before_end (suc h) ends k = ap (λ (n : ℕ). get_or ends n 0) (omega arith)

-- ---- the law

module _ (sm less : Entry → Entry → Bool) (f : Entry → ℕ) (o : Ordered sm less) where
  abbrev E : List Entry → List ℕ
  E es = ends_of sm 0 es

  abbrev last_at : List Entry → ℕ → Entry
  last_at es i = get_or (lasts_of sm es) i no_entry

  abbrev at : List Entry → ℕ → Entry
  at es t = get_or es t no_entry

  -- a list that starts within the items is there
  there : (es : List Entry) (i : ℕ) → i ≤ length (E es) → start_of (E es) i < length es → i < length (E es)
  there es i k h =
      by_test (ltb i (length (E es))) (λ m. ltb-true _ _ m)
      (λ m. let e : i ≡ length (E es) = omega (arith, ltb-false i (length (E es)) m) in
      absurd (let d : start_of (E es) (length (E es)) < length es = rw e at h in omega (arith, start_last sm es)))

  -- and its first item is the same as its last
  first_same : (es : List Entry) (i : ℕ) → i < length (E es) → sm (at es (start_of (E es) i)) (last_at es i) ≡ true
  first_same es i k = last_same sm o.equal es i (start_of (E es) i) k (omega arith) (own_end sm es i k).0

  -- what is in a list is before the first item past it
  past : (es : List Entry) → Steps less (lasts_of sm es) → (i : ℕ) (x : Entry) → i < length (E es) → sm x (last_at es i) ≡ true → get_or (E es) i 0 < length es
      → less x (at es (get_or (E es) i 0)) ≡ true
  past es s i x k h b =
      let n : suc i < length (E es) = there es (suc i) (omega arith) b in
      let l : less (last_at es i) (last_at es (suc i)) ≡ true = s i (omega (arith, length-ends sm 0 es)) in
      o.right x _ _ (o.left x _ _ h l) (o.equal.back _ _ (first_same es (suc i) n))

  -- a run of lists before another list is a run of items before its first
  run_before : (es fs : List Entry) (l h j : ℕ) → l ≤ h → h ≤ length (E es) → j ≤ length (E fs)
      → ((k : ℕ) → l ≤ k → k < h → j < length (E fs) → less (last_at es k) (last_at fs j) ≡ true)
      → (t : ℕ) → start_of (E es) l ≤ t → t < start_of (E es) h → start_of (E fs) j < length fs
      → then_by sm less f (at es t) (at fs (start_of (E fs) j)) ≡ true
  run_before es fs l h j a b c g t u v w =
      let r : Inside (E es) l h t = inside (E es) l h t u v a in
      let n : j < length (E fs) = there fs j c w in
      let i : sm (at es t) (last_at es r.list) ≡ true = last_same sm o.equal es r.list t (omega (arith, r.to)) r.low r.high in
      or_left _ _ (o.right _ _ _ (o.left _ _ _ i (g r.list r.from r.to n)) (o.equal.back _ _ (first_same fs j n)))

  module _ (es fs : List Entry) (s0 : Steps less (lasts_of sm es)) (s1 : Steps less (lasts_of sm fs)) where
    abbrev lt : Entry → Entry → Bool
    lt = then_by sm less f

    abbrev eq : Entry → Entry → Bool
    eq = also_by sm f

    -- two lists with the same last meet item by item
    meet : (i j : ℕ) → i < length (E es) → j < length (E fs) → sm (last_at es i) (last_at fs j) ≡ true
        → Meet lt eq f es fs (start_of (E es) i) (get_or (E es) i 0) (start_of (E fs) j) (get_or (E fs) j 0)
    meet i j a b h =
        record {
          to = omega (arith, (own_end sm es i a).0);
          in0 = (own_end sm es i a).1;
          to1 = omega (arith, (own_end sm fs j b).0);
          in1 = (own_end sm fs j b).1;
          equal = λ t s c d u v e. and_both _ _ (two t s c d u v) (eq-eqb _ _ e);
          less = λ t s c d u v e. or_right (less (at es t) (at fs s)) _ (and_both _ _ (two t s c d u v) (lt-ltb _ _ e));
          more = λ t s c d u v e. or_right (less (at fs s) (at es t)) _ (and_both _ _ (o.equal.back _ _ (two t s c d u v)) (lt-ltb _ _ e));
          past0 = λ s u v k. or_left _ _ (past es s0 i (at fs s) a (o.equal.join _ _ _ (one1 s u v) (o.equal.back _ _ h)) k);
          past1 = λ t c d k. or_left _ _ (past fs s1 j (at es t) b (o.equal.join _ _ _ (one0 t c d) h) k);
        }
      where
        one0 : (t : ℕ) → start_of (E es) i ≤ t → t < get_or (E es) i 0 → sm (at es t) (last_at es i) ≡ true
        one0 t c d = last_same sm o.equal es i t a c d

        one1 : (s : ℕ) → start_of (E fs) j ≤ s → s < get_or (E fs) j 0 → sm (at fs s) (last_at fs j) ≡ true
        one1 s u v = last_same sm o.equal fs j s b u v

        two : (t s : ℕ) → start_of (E es) i ≤ t → t < get_or (E es) i 0 → start_of (E fs) j ≤ s → s < get_or (E fs) j 0 → sm (at es t) (at fs s) ≡ true
        two t s c d u v = o.equal.join _ _ _ (o.equal.join _ _ _ (one0 t c d) h) (o.equal.back _ _ (one1 s u v))

    pub layer_woven : (i j : ℕ) (ls : List Report) → i ≤ length (E es) → j ≤ length (E fs) → Woven less sm (lasts_of sm es) (lasts_of sm fs) i j ls
        → Woven lt eq es fs (start_of (E es) i) (start_of (E fs) j) (surveyed (E es) (map f es) (E fs) (map f fs) ls)
    unfolding surveyed survey_of
    layer_woven i j [] a b w =
        (ap (start_of (E es)) (w.0 ∙ sym (length-ends sm 0 es)) ∙ start_last sm es, ap (start_of (E fs)) (w.1 ∙ sym (length-ends sm 0 fs)) ∙ start_last sm fs)
    layer_woven i j (this l h ∷ ls) a b w =
        let n0 : length (E es) ≡ length (lasts_of sm es) = length-ends sm 0 es in
        let n1 : length (E fs) ≡ length (lasts_of sm fs) = length-ends sm 0 fs in
        let k : get_or (E es) (h - 1) 0 ≡ start_of (E es) h = before_end h (E es) (omega (arith, w.1)) in
        let top : h ≤ length (E es) = omega (arith, w.2) in (
          ap (start_of (E es)) w.0,
          rw k (starts_rise sm es l h w.1 top),
          rw k (start_in sm es h top),
          rw k (run_ahead lt es fs (start_of (E fs) j) (start_of (E es) l) (start_of (E es) h) (start_in sm es h top)
              (run_before es fs l h j (omega (arith, w.1)) top b
              (λ t u v m. ahead_run less (lasts_of sm es) (lasts_of sm fs) j l h t w.2 w.3 u v (omega arith)))),
          rw k (layer_woven h j ls top b w.4),
        )
    layer_woven i j (that l h ∷ ls) a b w =
        let n0 : length (E es) ≡ length (lasts_of sm es) = length-ends sm 0 es in
        let n1 : length (E fs) ≡ length (lasts_of sm fs) = length-ends sm 0 fs in
        let k : get_or (E fs) (h - 1) 0 ≡ start_of (E fs) h = before_end h (E fs) (omega (arith, w.1)) in
        let top : h ≤ length (E fs) = omega (arith, w.2) in (
          ap (start_of (E fs)) w.0,
          rw k (starts_rise sm fs l h w.1 top),
          rw k (start_in sm fs h top),
          rw k (run_ahead lt fs es (start_of (E es) i) (start_of (E fs) l) (start_of (E fs) h) (start_in sm fs h top)
              (run_before fs es l h i (omega (arith, w.1)) top a
              (λ t u v m. ahead_run less (lasts_of sm fs) (lasts_of sm es) i l h t w.2 w.3 u v (omega arith)))),
          rw k (layer_woven i h ls a top w.4),
        )
    layer_woven i j (both p q ∷ ls) a b w =
        let n0 : i < length (E es) = omega (arith, length-ends sm 0 es, w.2) in
        let n1 : j < length (E fs) = omega (arith, length-ends sm 0 fs, w.3) in
        rw (w.0, w.1)
        (pair_woven lt eq f es fs (start_of (E es) i) (get_or (E es) i 0) (start_of (E fs) j) (get_or (E fs) j 0) (meet i j n0 n1 w.4)
        (surveyed (E es) (map f es) (E fs) (map f fs) ls) (layer_woven (suc i) (suc j) ls n0 n1 w.5))

-- ---- keys

equal-key : Equal same_key
equal-key =
    record {
      self = λ x. eq-eqb x.key x.key refl;
      back = λ x y h. eq-eqb y.key x.key (sym (eqb-true x.key y.key h));
      join = λ x y z h k. eq-eqb x.key z.key (eqb-true x.key y.key h ∙ eqb-true y.key z.key k);
    }

pub ordered_key : Ordered same_key key_less
ordered_key =
    record {
      equal = equal-key;
      left = λ x y z h k. rw (eqb-true x.key y.key h) k;
      right = λ x y z h k. rw (← (eqb-true y.key z.key k)) h;
    }

pub key_woven : (es fs : List Entry) → Woven key_less same_key (lasts_of same_key es) (lasts_of same_key fs) 0 0 (key_survey es fs)
unfolding key_survey
key_woven es fs =
    let n0 : length (keys es) ≡ length (lasts_of same_key es) = length-map (lasts_of same_key es) (λ (e : Entry). e.key) in
    let n1 : length (keys fs) ≡ length (lasts_of same_key fs) = length-map (lasts_of same_key fs) (λ (e : Entry). e.key) in
    subst (λ (rs : List Report). Woven key_less same_key (lasts_of same_key es) (lasts_of same_key fs) 0 0 rs) (append-nil (key_survey es fs))
    (pair_woven key_less same_key (λ (e : Entry). e.key) (lasts_of same_key es) (lasts_of same_key fs) 0 (length (keys es)) 0 (length (keys fs))
    (record {
      to = omega arith;
      in0 = omega arith;
      to1 = omega arith;
      in1 = omega arith;
      equal = λ t s a b c d h. eq-eqb _ _ h;
      less = λ t s a b c d h. lt-ltb _ _ h;
      more = λ t s a b c d h. lt-ltb _ _ h;
      past0 = λ s a b h. absurd (omega arith);
      past1 = λ t a b h. absurd (omega arith);
    }) [] (n0, n1))

-- ---- values

-- two entries of one list, by its key and its value
pub record Both (x y : Entry) : Type 0 where
  pub key : x.key ≡ y.key
  pub val : x.val ≡ y.val

pub parts : (x y : Entry) → same_list x y ≡ true → Both x y
parts x y h = record { key = eqb-true _ _ (and_left _ _ h); val = eqb-true _ _ (and_right (eqb x.key y.key) _ h) }

of_parts : (x y : Entry) → Both x y → same_list x y ≡ true
of_parts x y b = and_both _ _ (eq-eqb _ _ b.key) (eq-eqb _ _ b.val)

equal-list : Equal same_list
equal-list =
    record {
      self = λ x. of_parts x x (record { key = refl; val = refl });
      back = λ x y h. let b : Both x y = parts x y h in of_parts y x (record { key = sym b.key; val = sym b.val });
      join = λ x y z h k.
          let b : Both x y = parts x y h in
          let c : Both y z = parts y z k in
          of_parts x z (record { key = b.key ∙ c.key; val = b.val ∙ c.val });
    }

pub ordered_list : Ordered same_list val_less
ordered_list =
    record {
      equal = equal-list;
      left = λ x y z h k. let b : Both x y = parts x y h in rw (b.key, b.val) k;
      right = λ x y z h k. let b : Both y z = parts y z k in rw (← b.key, ← b.val) h;
    }

-- `before` is by value, then by time
by_time_lem : (a b c d e : Bool) → (a || (b && (c || (d && e)))) ≡ ((a || (b && c)) || ((b && d) && e))
by_time_lem true b c d e = refl
by_time_lem false true c d e = refl
by_time_lem false false c d e = refl

before_is : before ≡ then_by same_list val_less (λ (e : Entry). e.time)
before_is = λ i x y.
    by_time_lem (ltb x.key y.key) (eqb x.key y.key) (ltb x.val y.val) (eqb x.val y.val) (ltb x.time y.time) i

-- rising entries are each before the next
rising_steps : (es : List Entry) → rising es ≡ true → Steps before es
unfolding rising rising_from
rising_steps [] h i k = absurd (omega arith)
rising_steps (a ∷ []) h i k = absurd (omega arith)
rising_steps (a ∷ b ∷ es) h zero k = and_left _ _ h
rising_steps (a ∷ b ∷ es) h (suc i) k = rising_steps (b ∷ es) (and_right (before a b) _ h) i (omega arith)

-- and so are their lists
pub list_steps : (es : List Entry) → rising es ≡ true → Steps val_less (lasts_of same_list es)
list_steps es h = lasts_step same_list val_less (λ (e : Entry). e.time) ordered_list es (subst (λ (lt : Entry → Entry → Bool). Steps lt es) before_is (rising_steps es h))

-- and so are their keys
pub key_steps : (es : List Entry) → rising es ≡ true → Steps key_less (lasts_of same_key es)
key_steps es h =
    subst (λ (l : List Entry). Steps key_less l) (lasts_lasts es)
    (lasts_step same_key key_less (λ (e : Entry). e.val) ordered_key (lasts_of same_list es) (list_steps es h))

pub val_woven : (es fs : List Entry) → rising es ≡ true → rising fs ≡ true
    → Woven val_less same_list (lasts_of same_list es) (lasts_of same_list fs) 0 0 (val_survey es fs)
unfolding val_survey
val_woven es fs a b =
    layer_woven same_key key_less (λ (e : Entry). e.val) ordered_key (lasts_of same_list es) (lasts_of same_list fs)
    (lasts_step same_key key_less (λ (e : Entry). e.val) ordered_key (lasts_of same_list es) (list_steps es a))
    (lasts_step same_key key_less (λ (e : Entry). e.val) ordered_key (lasts_of same_list fs) (list_steps fs b))
    0 0 (key_survey es fs) (omega arith) (omega arith) (rw (lasts_lasts es, lasts_lasts fs) (key_woven es fs))

-- ---- times

pub time_woven : (es fs : List Entry) → rising es ≡ true → rising fs ≡ true → Woven before same es fs 0 0 (time_survey es fs)
unfolding time_survey
time_woven es fs a b =
    subst (λ (lt : Entry → Entry → Bool). Woven lt same es fs 0 0 (time_survey es fs)) (sym before_is)
    (layer_woven same_list val_less (λ (e : Entry). e.time) ordered_list es fs (list_steps es a) (list_steps fs b)
    0 0 (val_survey es fs) (omega arith) (omega arith) (val_woven es fs a b))
