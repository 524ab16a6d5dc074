-- The least times: those with no different one at or below them. The least number is one of them, and the others are the least of the
-- times with a lower tick.
use Prim.Native.Nat.{ℕ, ◌<◌, ◌≤◌}
use mathlib.Core.Path.{◌≡◌, refl, sym, ◌∙◌, ap}
use mathlib.Core.Bool.{Bool, true, false, not, ◌&&◌, ◌||◌}
use mathlib.Core.List.{List, [], ◌∷◌, foldr}
use native.Mathlib.Omega.{arith}
use lib.Dec.{ltb, leb, eqb}
use borrow.Author.Tests.{ltb-true, ltb-false, leb-true, eqb-true, eqb-false, lt-ltb, le-leb, eq-eqb, ne_eqb}
use Rattle.chunk.specs.Entry.{ignition, tick, keep}
use Rattle.chunk.specs.Time.{at_or_below}
use Rattle.chunk.specs.Words.{rises, rises_from}
use Rattle.laws.proofs.Tests.{by_test, and_left, and_right, and_both, and-false, true-not-false}
use Rattle.retain.specs.Frontier.{any, insert_time, least_of}

-- ---- members

-- whether a number is in a list
abbrev pub has : ℕ → List ℕ → Bool
has t l = any (eqb t) l

or_comm : (a b c : Bool) → (a || (b || c)) ≡ (b || (a || c))
or_comm true true c = refl
or_comm true false c = refl
or_comm false true c = refl
or_comm false false c = refl

or_twice : (a c : Bool) → (a || (a || c)) ≡ (a || c)
or_twice true c = refl
or_twice false c = refl

pub has_insert : (t x : ℕ) (l : List ℕ) → has t (insert_time x l) ≡ (eqb t x || has t l)
unfolding any insert_time
has_insert t x [] = refl
has_insert t x (a ∷ l) =
    by_test (ltb x a) (λ h. simp h) λ h.
    by_test (eqb x a)
    (λ k. let e : x ≡ a = eqb-true _ _ k in simp (h, k) (simp (e, or_twice)))
    (λ k. simp (h, k, has_insert t x l) (or_comm (eqb t a) (eqb t x) (has t l)))

has_sorted : (t : ℕ) (l : List ℕ) → has t (foldr insert_time [] l) ≡ has t l
unfolding any
has_sorted t [] = refl
has_sorted t (a ∷ l) = has_insert t a (foldr insert_time [] l) ∙ simp (has_sorted t l)

eqb-other : (p : ℕ → Bool) (t a : ℕ) → eqb t a ≡ true → p t ≡ p a
eqb-other p t a h = ap p (eqb-true _ _ h)

pub has-keep : (p : ℕ → Bool) (t : ℕ) (l : List ℕ) → has t (keep p l) ≡ (has t l && p t)
unfolding any keep
has-keep p t [] = refl
has-keep p t (a ∷ l) =
    let ih : has t (keep p l) ≡ (has t l && p t) = has-keep p t l in
    by_test (eqb t a)
    (λ k. let e : p t ≡ p a = eqb-other p t a k in
    by_test (p a) (λ h. simp (h, k, e)) (λ h. simp (h, k, e, ih, and-false)))
    (λ k. by_test (p a) (λ h. simp (h, k, ih)) (λ h. simp (h, k, ih)))

-- ---- strictly rising lists

-- a list from above a number on: every member is above it
above_from : (a : ℕ) (l : List ℕ) → rises_from a l ≡ true → (t : ℕ) → has t l ≡ true → a < t
unfolding any rises_from
above_from a [] r t h = absurd (true-not-false (sym h))
above_from a (b ∷ l) r t h =
    let ab : a < b = ltb-true _ _ (and_left _ _ r) in
    by_test (eqb t b)
    (λ k. let e : t ≡ b = eqb-true _ _ k in omega arith)
    (λ k. let g : has t l ≡ true = simp k at h in
    let bt : b < t = above_from b l (and_right (ltb a b) _ r) t g in omega arith)

rises_from_lem : (a : ℕ) (l : List ℕ) → rises l ≡ true → ((t : ℕ) → has t l ≡ true → a < t) → rises_from a l ≡ true
unfolding rises rises_from any
rises_from_lem a [] r f = refl
rises_from_lem a (b ∷ l) r f = and_both _ _ (lt-ltb a b (f b (simp (eq-eqb b b refl)))) r

rises_tail : (a : ℕ) (l : List ℕ) → rises_from a l ≡ true → rises l ≡ true
unfolding rises rises_from
rises_tail a [] r = refl
rises_tail a (b ∷ l) r = and_right (ltb a b) _ r

pub has_head : (a : ℕ) (l : List ℕ) → has a (a ∷ l) ≡ true
unfolding any
has_head a l = simp (eq-eqb a a refl)

-- two rising lists with the same members are the same
pub same_members : (l m : List ℕ) → rises l ≡ true → rises m ≡ true → ((t : ℕ) → has t l ≡ has t m) → l ≡ m
unfolding rises any
same_members [] [] r s f = refl
same_members [] (b ∷ m) r s f = absurd (true-not-false (sym (has_head b m) ∙ sym (f b)))
same_members (a ∷ l) [] r s f = absurd (true-not-false (sym (has_head a l) ∙ f a))
same_members (a ∷ l) (b ∷ m) r s f =
    let low : (x : ℕ) (k : List ℕ) → rises_from x k ≡ true → (t : ℕ) → has t (x ∷ k) ≡ true → x ≤ t =
    λ x k q t h. by_test (eqb t x) (λ e. let g : t ≡ x = eqb-true _ _ e in omega arith) (λ e. let g : x < t = above_from x k q t (simp e at h) in omega arith) in
    let ab : a ≤ b = low a l r b (f b ∙ has_head b m) in
    let ba : b ≤ a = low b m s a (sym (f a) ∙ has_head a l) in
    let e : a ≡ b = omega arith in
    let tails : (t : ℕ) → has t l ≡ has t m =
    λ t. by_test (eqb t a)
    (λ k. let ta : t ≡ a = eqb-true _ _ k in
    let no : (x : ℕ) (k : List ℕ) → rises_from x k ≡ true → t ≡ x → has t k ≡ false = λ x k q z. by_test (has t k) (λ h. let g : x < t = above_from x k q t h in absurd (omega arith)) (λ h. h) in
    no a l r ta ∙ sym (no b m s (ta ∙ e)))
    (λ k. let kb : eqb t b ≡ false = ap (eqb t) (sym e) ∙ k in simp (k, kb) at (f t)) in
    (λ i. e i ∷ same_members l m (rises_tail a l r) (rises_tail b m s) tails i)

insert_from : (a x : ℕ) (l : List ℕ) → a < x → rises_from a l ≡ true → rises_from a (insert_time x l) ≡ true
unfolding rises_from insert_time
insert_from a x [] h r = simp (lt-ltb a x h)
insert_from a x (b ∷ l) h r =
    let ab : ltb a b ≡ true = and_left _ _ r in
    let rb : rises_from b l ≡ true = and_right (ltb a b) _ r in
    by_test (ltb x b) (λ k. simp k (simp (lt-ltb a x h, rb))) λ k.
    by_test (eqb x b)
    (λ e. simp (k, e) (simp (ab, rb)))
    (λ e. let below : b ≤ x = ltb-false _ _ k in
    let ne : x ≡ b → ⊥ = eqb-false _ _ e in
    simp (k, e) (simp ab (insert_from b x l (omega arith) rb)))

insert_rises : (x : ℕ) (l : List ℕ) → rises l ≡ true → rises (insert_time x l) ≡ true
unfolding rises insert_time rises_from
insert_rises x [] r = refl
insert_rises x (b ∷ l) r =
    by_test (ltb x b) (λ k. simp k r) λ k.
    by_test (eqb x b)
    (λ e. simp (k, e) r)
    (λ e. let below : b ≤ x = ltb-false _ _ k in
    let ne : x ≡ b → ⊥ = eqb-false _ _ e in
    simp (k, e) (insert_from b x l (omega arith) r))

sorted_rises : (l : List ℕ) → rises (foldr insert_time [] l) ≡ true
unfolding rises
sorted_rises [] = refl
sorted_rises (a ∷ l) = insert_rises a (foldr insert_time [] l) (sorted_rises l)

-- ---- the least

-- no different one at or below
abbrev pub alone : List ℕ → ℕ → Bool
alone ts t = not (any (λ (s : ℕ). not (eqb s t) && at_or_below s t) ts)

pub has_least : (t : ℕ) (ts : List ℕ) → has t (least_of ts) ≡ (has t ts && alone ts t)
unfolding least_of
has_least t ts = has_sorted t (keep (alone ts) ts) ∙ has-keep (alone ts) t ts

pub least_rises : (ts : List ℕ) → rises (least_of ts) ≡ true
unfolding least_of
least_rises ts = sorted_rises (keep (alone ts) ts)

any-keep : (p q : ℕ → Bool) → ((s : ℕ) → p s ≡ true → q s ≡ true) → (l : List ℕ) → any p (keep q l) ≡ any p l
unfolding any keep
any-keep p q f [] = refl
any-keep p q f (a ∷ l) =
    let ih : any p (keep q l) ≡ any p l = any-keep p q f l in
    by_test (q a) (λ h. simp (h, ih)) (λ h. by_test (p a) (λ k. absurd (true-not-false (sym (f a k) ∙ h))) (λ k. simp (h, k, ih)))

-- if one of a list passes, some does; and if some does, there is one
pub some-has : (p : ℕ → Bool) (t : ℕ) (l : List ℕ) → has t l ≡ true → p t ≡ true → any p l ≡ true
unfolding any
some-has p t [] h k = absurd (true-not-false (sym h))
some-has p t (a ∷ l) h k =
    by_test (eqb t a) (λ e. simp (sym (eqb-other p t a e) ∙ k)) (λ e. by_test (p a) (λ q. simp q) (λ q. simp q (some-has p t l (simp e at h) k)))

pub none_has : (p : ℕ → Bool) (l : List ℕ) → ((t : ℕ) → has t l ≡ true → p t ≡ false) → any p l ≡ false
unfolding any
none_has p [] f = refl
none_has p (a ∷ l) f =
    simp (f a (has_head a l)) (none_has p l (λ t h. f t (by_test (eqb t a) (λ e. simp e) (λ e. simp (e, h)))))

-- at or below in both coordinates is at or below in number
pub below_number : (s t : ℕ) → at_or_below s t ≡ true → s ≤ t
below_number s t h =
    let a : ignition s ≤ ignition t = leb-true _ _ (and_left _ _ h) in
    let b : tick s ≤ tick t = leb-true _ _ (and_right (leb (ignition s) (ignition t)) _ h) in
    omega arith

pub number_below : (s t : ℕ) → s ≤ t → tick s ≤ tick t → at_or_below s t ≡ true
number_below s t h k = and_both _ _ (le-leb _ _ (let g : ignition s ≤ ignition t = omega arith in g)) (le-leb _ _ k)

-- the times with a lower tick
abbrev pub lower : ℕ → List ℕ → List ℕ
lower c ts = keep (λ (t : ℕ). ltb (tick t) (tick c)) ts

-- the one least in number, and then the least of those with a lower tick
pub least_cons : (c : ℕ) (ts : List ℕ) → has c ts ≡ true → ((t : ℕ) → has t ts ≡ true → c ≤ t) → least_of ts ≡ c ∷ least_of (lower c ts)
unfolding rises any
least_cons c ts h low = same_members (least_of ts) (c ∷ least_of (lower c ts)) (least_rises ts) rise same
  where
    other : (t : ℕ) → has t (least_of (lower c ts)) ≡ ((has t ts && ltb (tick t) (tick c)) && alone (lower c ts) t)
    other t = has_least t (lower c ts) ∙ ap (λ (b : Bool). b && alone (lower c ts) t) (has-keep (λ (t : ℕ). ltb (tick t) (tick c)) t ts)

    rise : rises (c ∷ least_of (lower c ts)) ≡ true
    rise =
        rises_from_lem c (least_of (lower c ts)) (least_rises (lower c ts)) (λ t k.
        let m : ((has t ts && ltb (tick t) (tick c)) && alone (lower c ts) t) ≡ true = sym (other t) ∙ k in
        let n : (has t ts && ltb (tick t) (tick c)) ≡ true = and_left _ _ m in
        let a : c ≤ t = low t (and_left _ _ n) in
        let b : tick t < tick c = ltb-true _ _ (and_right (has t ts) _ n) in
        by_test (eqb t c) (λ e. let z : t ≡ c = eqb-true _ _ e in let y : tick t ≡ tick c = ap (λ (x : ℕ). tick x) z in absurd (omega arith)) (λ e. let z : t ≡ c → ⊥ = eqb-false _ _ e in omega arith))

    itself : has c (least_of ts) ≡ true
    itself =
        has_least c ts ∙ and_both _ _ h (ap not (none_has (λ (s : ℕ). not (eqb s c) && at_or_below s c) ts (λ s k.
        by_test (eqb s c) (λ e. simp e) (λ e. simp e (by_test (at_or_below s c) (λ b. let y = below_number s c b in let x = low s k in let z : s ≡ c → ⊥ = eqb-false _ _ e in absurd (omega arith)) (λ b. b))))))

    same : (t : ℕ) → has t (least_of ts) ≡ has t (c ∷ least_of (lower c ts))
    same t =
        by_test (eqb t c)
        (λ e. ap (λ (x : ℕ). has x (least_of ts)) (eqb-true t c e) ∙ itself ∙ simp e)
        (λ e. let ne : t ≡ c → ⊥ = eqb-false _ _ e in
        simp e (has_least t ts ∙ by_test (has t ts)
        (λ m. let le : c ≤ t = low t m in
        by_test (ltb (tick t) (tick c))
        (λ k. let tk : tick t < tick c = ltb-true _ _ k in
        simp m (sym (other t ∙ simp (m, k) (ap not (any-keep (λ (s : ℕ). not (eqb s t) && at_or_below s t) (λ (s : ℕ). ltb (tick s) (tick c))
        (λ s b. let z : tick s ≤ tick t = leb-true _ _ (and_right (leb (ignition s) (ignition t)) _ (and_right (not (eqb s t)) _ b)) in lt-ltb (tick s) (tick c) (omega arith)) ts)))))
        (λ k. let tk : tick c ≤ tick t = ltb-false _ _ k in
        let ct : eqb c t ≡ false = ne_eqb c t (λ z. ne (sym z)) in
        let y : any (λ (s : ℕ). not (eqb s t) && at_or_below s t) ts ≡ true = some-has (λ (s : ℕ). not (eqb s t) && at_or_below s t) c ts h (simp ct (number_below c t le tk)) in
        simp (m, y) (sym (other t ∙ simp (m, k)))))
        (λ m. simp m (sym (other t ∙ simp m)))))
