-- The order of positions is a strict total order, with `same` for equal; and what rising lists have from it.
use Prim.Native.Nat.{ℕ, ◌<◌, ◌≤◌}
use mathlib.Core.Path.{◌≡◌, refl, sym, ◌∙◌}
use mathlib.Core.Bool.{Bool, true, false, ◌&&◌, ◌||◌}
use mathlib.Core.List.{List, [], ◌∷◌}
use native.Mathlib.Omega.{arith}
use lib.Dec.{ltb, eqb}
use borrow.Author.Tests.{lt-ltb, ltb-true, ltb-false, eqb-true, eq-eqb}
use Rattle.chunk.specs.Entry.{Entry, before, same, same_list, rising, rising_from, every, keep}
use Rattle.chunk.proofs.Tests.{by_test, and_left, and_right, and_both, true-not-false}

-- how two positions stand to each other
pub data Compared (a b : Entry) : Type 0 where
  less : before a b ≡ true → Compared a b
  equal : same a b ≡ true → Compared a b
  more : before b a ≡ true → Compared a b

-- `before` by its three ways
data Lex (a b : Entry) : Type 0 where
  by_key : a.key < b.key → Lex a b
  by_val : a.key ≡ b.key → a.val < b.val → Lex a b
  by_time : a.key ≡ b.key → a.val ≡ b.val → a.time < b.time → Lex a b

lex : (a b : Entry) → before a b ≡ true → Lex a b
lex a b h =
    by_test (ltb a.key b.key)
    (λ k. by_key (ltb-true _ _ k))
    (λ k. let h1 : (eqb a.key b.key && (ltb a.val b.val || (eqb a.val b.val && ltb a.time b.time))) ≡ true = simp k at h in
    let e : a.key ≡ b.key = eqb-true _ _ (and_left _ _ h1) in
    let h2 : (ltb a.val b.val || (eqb a.val b.val && ltb a.time b.time)) ≡ true = and_right (eqb a.key b.key) _ h1 in
    by_test (ltb a.val b.val)
    (λ v. by_val e (ltb-true _ _ v))
    (λ v. let h3 : (eqb a.val b.val && ltb a.time b.time) ≡ true = simp v at h2 in
    by_time e (eqb-true _ _ (and_left _ _ h3)) (ltb-true _ _ (and_right (eqb a.val b.val) _ h3))))

or_right : (a : Bool) → (a || true) ≡ true
or_right true = refl
or_right false = refl

of_lex : (a b : Entry) → Lex a b → before a b ≡ true
of_lex a b (by_key k) = simp (lt-ltb _ _ k)
of_lex a b (by_val k v) = simp (eq-eqb _ _ k, lt-ltb _ _ v, or_right)
of_lex a b (by_time k v t) = simp (eq-eqb _ _ k, eq-eqb _ _ v, lt-ltb _ _ t, or_right)

-- nothing is before itself
lex_irrefl : (a b : Entry) → Lex a b → Lex b a → ⊥
lex_irrefl a b (by_key h) (by_key k) = omega arith
lex_irrefl a b (by_key h) (by_val k v) = omega arith
lex_irrefl a b (by_key h) (by_time k v t) = omega arith
lex_irrefl a b (by_val h w) (by_key k) = omega arith
lex_irrefl a b (by_val h w) (by_val k v) = omega arith
lex_irrefl a b (by_val h w) (by_time k v t) = omega arith
lex_irrefl a b (by_time h w s) (by_key k) = omega arith
lex_irrefl a b (by_time h w s) (by_val k v) = omega arith
lex_irrefl a b (by_time h w s) (by_time k v t) = omega arith

lex_trans : (a b c : Entry) → Lex a b → Lex b c → Lex a c
lex_trans a b c (by_key h) (by_key k) = by_key (omega arith)
lex_trans a b c (by_key h) (by_val k v) = by_key (omega arith)
lex_trans a b c (by_key h) (by_time k v t) = by_key (omega arith)
lex_trans a b c (by_val h w) (by_key k) = by_key (omega arith)
lex_trans a b c (by_val h w) (by_val k v) = by_val (omega arith) (omega arith)
lex_trans a b c (by_val h w) (by_time k v t) = by_val (omega arith) (omega arith)
lex_trans a b c (by_time h w s) (by_key k) = by_key (omega arith)
lex_trans a b c (by_time h w s) (by_val k v) = by_val (omega arith) (omega arith)
lex_trans a b c (by_time h w s) (by_time k v t) = by_time (omega arith) (omega arith) (omega arith)

pub before_asym : (a b : Entry) → before a b ≡ true → before b a ≡ false
before_asym a b h = by_test (before b a) (λ k. absurd (lex_irrefl a b (lex a b h) (lex b a k))) (λ k. k)

pub before_irrefl : (a : Entry) → before a a ≡ false
before_irrefl a = by_test (before a a) (λ k. absurd (lex_irrefl a a (lex a a k) (lex a a k))) (λ k. k)

pub before_trans : (a b c : Entry) → before a b ≡ true → before b c ≡ true → before a c ≡ true
before_trans a b c h k = of_lex a c (lex_trans a b c (lex a b h) (lex b c k))

-- the same position, by its three numbers
pub record Same (a b : Entry) : Type 0 where
  pub key : a.key ≡ b.key
  pub val : a.val ≡ b.val
  pub time : a.time ≡ b.time

pub same_parts : (a b : Entry) → same a b ≡ true → Same a b
same_parts a b h =
    let l : same_list a b ≡ true = and_left _ _ h in
    record {
      key = eqb-true _ _ (and_left _ _ l);
      val = eqb-true _ _ (and_right (eqb a.key b.key) _ l);
      time = eqb-true _ _ (and_right (same_list a b) _ h);
    }

pub parts_same : (a b : Entry) → Same a b → same a b ≡ true
parts_same a b s = simp (eq-eqb _ _ s.key, eq-eqb _ _ s.val, eq-eqb _ _ s.time)

pub same_refl : (a : Entry) → same a a ≡ true
same_refl a = parts_same a a (record { key = refl; val = refl; time = refl })

pub same_sym : (a b : Entry) → same a b ≡ true → same b a ≡ true
same_sym a b h = let s : Same a b = same_parts a b h in parts_same b a (record { key = sym s.key; val = sym s.val; time = sym s.time })

pub same_trans : (a b c : Entry) → same a b ≡ true → same b c ≡ true → same a c ≡ true
same_trans a b c h k =
    let s : Same a b = same_parts a b h in
    let r : Same b c = same_parts b c k in
    parts_same a c (record { key = s.key ∙ r.key; val = s.val ∙ r.val; time = s.time ∙ r.time })

-- positions that are the same stand alike to any other
pub same-before : (a b c : Entry) → same a b ≡ true → before a c ≡ before b c
same-before a b c h = let s : Same a b = same_parts a b h in simp (s.key, s.val, s.time)

pub before_same : (a b c : Entry) → same a b ≡ true → before c a ≡ before c b
before_same a b c h = let s : Same a b = same_parts a b h in simp (s.key, s.val, s.time)

pub before-not-same : (a b : Entry) → before a b ≡ true → same a b ≡ false
before-not-same a b h =
    by_test (same a b) (λ k. absurd (true-not-false (sym h ∙ same-before a b b k ∙ before_irrefl b))) (λ k. k)

-- one of the three holds of any two
pub compared : (a b : Entry) → Compared a b
compared a b =
    by_test (before a b) less λ h.
    by_test (before b a) more λ k.
    equal (parts_same a b (closed a b h k))
  where
    no : (x y : Entry) → before x y ≡ false → Lex x y → ⊥
    no x y h l = true-not-false (sym (of_lex x y l) ∙ h)

    number : (x y : ℕ) → (x < y → ⊥) → (y < x → ⊥) → x ≡ y
    number x y f g =
        by_test (ltb x y) (λ h. absurd (f (ltb-true _ _ h))) λ h.
        by_test (ltb y x) (λ k. absurd (g (ltb-true _ _ k))) λ k.
        let p : y ≤ x = ltb-false _ _ h in let q : x ≤ y = ltb-false _ _ k in omega arith

    closed : (x y : Entry) → before x y ≡ false → before y x ≡ false → Same x y
    closed x y h k =
        let ek : x.key ≡ y.key = number _ _ (λ l. no x y h (by_key l)) (λ l. no y x k (by_key l)) in
        let ev : x.val ≡ y.val = number _ _ (λ l. no x y h (by_val ek l)) (λ l. no y x k (by_val (sym ek) l)) in
        record { key = ek; val = ev; time = number _ _ (λ l. no x y h (by_time ek ev l)) (λ l. no y x k (by_time (sym ek) (sym ev) l)) }

-- ---- rising lists

pub rising_tail : (a : Entry) (es : List Entry) → rising (a ∷ es) ≡ true → rising es ≡ true
unfolding rising rising_from
rising_tail a [] h = refl
rising_tail a (b ∷ es) h = and_right (before a b) _ h

every_mono : (p q : Entry → Bool) → ((e : Entry) → p e ≡ true → q e ≡ true) → (es : List Entry) → every p es ≡ true → every q es ≡ true
unfolding every
every_mono p q f [] h = refl
every_mono p q f (e ∷ es) h = and_both _ _ (f e (and_left _ _ h)) (every_mono p q f es (and_right (p e) _ h))

-- in a rising list the first is before all others, and so back
pub rising_all : (a : Entry) (es : List Entry) → rising_from a es ≡ true → every (before a) es ≡ true
unfolding rising_from every
rising_all a [] h = refl
rising_all a (b ∷ es) h =
    let k : before a b ≡ true = and_left _ _ h in
    and_both _ _ k
    (every_mono (before b) (before a) (λ e l. before_trans a b e k l) es (rising_all b es (and_right (before a b) _ h)))

pub all_rising : (a : Entry) (es : List Entry) → every (before a) es ≡ true → rising es ≡ true → rising_from a es ≡ true
unfolding rising rising_from every
all_rising a [] h r = refl
all_rising a (b ∷ es) h r = and_both (before a b) _ (and_left (before a b) (every (before a) es) h) r

every-keep : (p q : Entry → Bool) (es : List Entry) → every q es ≡ true → every q (keep p es) ≡ true
unfolding every keep
every-keep p q [] h = refl
every-keep p q (e ∷ es) h =
    let t : every q (keep p es) ≡ true = every-keep p q es (and_right (q e) _ h) in
    by_test (p e) (λ k. simp k (and_both (q e) _ (and_left _ _ h) t)) (λ k. simp k t)

-- what is kept of a rising list rises
pub keep-rising : (p : Entry → Bool) (es : List Entry) → rising es ≡ true → rising (keep p es) ≡ true
unfolding rising keep
keep-rising p [] h = refl
keep-rising p (a ∷ es) h =
    let t : rising (keep p es) ≡ true = keep-rising p es (rising_tail a es h) in
    by_test (p a) (λ k. simp k (all_rising a (keep p es) (every-keep p (before a) es (rising_all a es h)) t)) (λ k. simp k t)
