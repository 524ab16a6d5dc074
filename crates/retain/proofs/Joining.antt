-- Corners kept while times are looked over: lists that stand for the same least times, and a time put among corners.
use Prim.Native.Nat.{ℕ, zero, suc, ◌<◌, ◌≤◌}
use mathlib.Core.Path.{◌≡◌, refl, sym, ◌∙◌, ap}
use mathlib.Core.Bool.{Bool, true, false, not, ◌&&◌, ◌||◌}
use mathlib.Core.List.{List, [], ◌∷◌, ◌++◌}
use native.Mathlib.Omega.{arith}
use lib.Dec.{ltb, leb, eqb}
use lib.ListN.{length, take, drop, get_or}
use lib.Seq.{take-nil, drop-nil}
use borrow.Author.Tests.{ltb-true, ltb-false, leb-true, leb-false, eqb-true, eqb-false, lt-ltb, le-ltb, le-leb, lt-leb, eq-eqb, ne_eqb, not-true}
use Rattle.chunk.specs.Entry.{ignition, tick, keep}
use Rattle.chunk.specs.Time.{at_or_below}
use Rattle.laws.proofs.Tests.{by_test, and_left, and_right, and_both, and-false, bool_eq, true-not-false}
use Rattle.retain.specs.Frontier.{any, is_open, insert_time, least_of, ordered}
use Rattle.retain.specs.Found.{Stair, joined}
use Rattle.retain.proofs.Stairs.{ordered_tail, ordered_next, stairs}
use Rattle.retain.proofs.Alone.{has, has_head, has_insert, has-keep, has_least, least_rises, least_cons, alone, some-has, none_has, same_members, below_number}

-- ---- members

-- one that passes
pub record Member (p : ℕ → Bool) (l : List ℕ) : Type 0 where
  pub value : ℕ
  pub among : has value l ≡ true
  pub passes : p value ≡ true

has_later : (t x : ℕ) (l : List ℕ) → has t l ≡ true → has t (x ∷ l) ≡ true
unfolding any
has_later t x l h = by_test (eqb t x) (λ k. simp k) (λ k. simp (k, h))

pub member : (p : ℕ → Bool) (l : List ℕ) → any p l ≡ true → Member p l
unfolding any
member p [] h = absurd (true-not-false (sym h))
member p (a ∷ l) h =
    by_test (p a)
    (λ k. record { value = a; among = has_head a l; passes = k })
    (λ k. let m : Member p l = member p l (simp k at h) in record { value = m.value; among = has_later m.value a l m.among; passes = m.passes })

any_append : (p : ℕ → Bool) (l m : List ℕ) → any p (l ++ m) ≡ (any p l || any p m)
unfolding any
any_append p [] m = refl
any_append p (a ∷ l) m = by_test (p a) (λ h. simp h) (λ h. simp (h, any_append p l m))

or_left : (a b : Bool) → a ≡ true → (a || b) ≡ true
or_left a b h = simp h

or_right : (a b : Bool) → b ≡ true → (a || b) ≡ true
or_right true b h = refl
or_right false b h = h

any_left : (p : ℕ → Bool) (l m : List ℕ) → any p l ≡ true → any p (l ++ m) ≡ true
any_left p l m h = any_append p l m ∙ or_left (any p l) _ h

any-right : (p : ℕ → Bool) (l m : List ℕ) → any p m ≡ true → any p (l ++ m) ≡ true
any-right p l m h = any_append p l m ∙ or_right (any p l) _ h

has_cases : (t : ℕ) (l m : List ℕ) (P : Type 0) → has t (l ++ m) ≡ true → (has t l ≡ true → P) → (has t m ≡ true → P) → P
has_cases t l m P h f g = by_test (has t l) f (λ k. g (other (has t l) _ k (sym (any_append (eqb t) l m) ∙ h)))
  where
    other : (a b : Bool) → a ≡ false → (a || b) ≡ true → b ≡ true
    other a b k h = simp k at h

head_or : (t x : ℕ) (l : List ℕ) (P : Type 0) → has t (x ∷ l) ≡ true → (t ≡ x → P) → (has t l ≡ true → P) → P
unfolding any
head_or t x l P h f g = by_test (eqb t x) (λ k. f (eqb-true _ _ k)) (λ k. g (simp k at h))

-- ---- at or below

below_self : (t : ℕ) → at_or_below t t ≡ true
below_self t = and_both _ _ (le-leb (ignition t) (ignition t) (omega arith)) (le-leb (tick t) (tick t) (omega arith))

pub below_trans : (a b d : ℕ) → at_or_below a b ≡ true → at_or_below b d ≡ true → at_or_below a d ≡ true
below_trans a b d h k =
    let i1 : ignition a ≤ ignition b = leb-true _ _ (and_left _ _ h) in
    let i2 : ignition b ≤ ignition d = leb-true _ _ (and_left _ _ k) in
    let t1 : tick a ≤ tick b = leb-true _ _ (and_right (leb (ignition a) (ignition b)) _ h) in
    let t2 : tick b ≤ tick d = leb-true _ _ (and_right (leb (ignition b) (ignition d)) _ k) in
    and_both _ _ (le-leb (ignition a) (ignition d) (omega arith)) (le-leb (tick a) (tick d) (omega arith))

below_both : (a b : ℕ) → at_or_below a b ≡ true → at_or_below b a ≡ true → a ≡ b
below_both a b h k = let p = below_number a b h in let q = below_number b a k in omega arith

alone_only : (l : List ℕ) (x s : ℕ) → alone l x ≡ true → has s l ≡ true → at_or_below s x ≡ true → s ≡ x
alone_only l x s h k b =
    by_test (eqb s x) (λ e. eqb-true _ _ e) (λ e.
    let y : any (λ (s : ℕ). not (eqb s x) && at_or_below s x) l ≡ true = some-has (λ (s : ℕ). not (eqb s x) && at_or_below s x) s l k (simp (e, b)) in
    absurd (true-not-false (sym y ∙ not-true _ h)))

alone_if : (l : List ℕ) (x : ℕ) → ((s : ℕ) → has s l ≡ true → at_or_below s x ≡ true → s ≡ x) → alone l x ≡ true
alone_if l x f =
    ap not (none_has (λ (s : ℕ). not (eqb s x) && at_or_below s x) l (λ s k.
    by_test (eqb s x) (λ e. simp e) (λ e. by_test (at_or_below s x) (λ b. absurd (eqb-false _ _ e (f s k b))) (λ b. simp (e, b)))))

-- ---- lists with the same least times

-- some of a list's times, with one of them at or below each, have the same least
least_same : (ts us : List ℕ) → ((x : ℕ) → has x us ≡ true → has x ts ≡ true) → ((x : ℕ) → has x ts ≡ true → is_open us x ≡ true) → least_of ts ≡ least_of us
unfolding is_open
least_same ts us sub cov =
    same_members (least_of ts) (least_of us) (least_rises ts) (least_rises us) (λ x. has_least x ts ∙ bool_eq _ _ (down x) (up x) ∙ sym (has_least x us))
  where
    under : (x : ℕ) → has x ts ≡ true → Member (λ (s : ℕ). at_or_below s x) us
    under x h = member (λ (s : ℕ). at_or_below s x) us (cov x h)

    down : (x : ℕ) → (has x ts && alone ts x) ≡ true → (has x us && alone us x) ≡ true
    down x h =
        let m = under x (and_left _ _ h) in
        let al : alone ts x ≡ true = and_right (has x ts) _ h in
        let z : m.value ≡ x = alone_only ts x m.value al (sub m.value m.among) m.passes in
        and_both _ _ (ap (λ (y : ℕ). has y us) (sym z) ∙ m.among) (alone_if us x (λ s k b. alone_only ts x s al (sub s k) b))

    up : (x : ℕ) → (has x us && alone us x) ≡ true → (has x ts && alone ts x) ≡ true
    up x h =
        let al : alone us x ≡ true = and_right (has x us) _ h in
        and_both _ _ (sub x (and_left _ _ h)) (alone_if ts x (λ s k b.
        let m = under s k in
        let z : m.value ≡ x = alone_only us x m.value al m.among (below_trans m.value s x m.passes b) in
        below_both s x b (ap (λ (y : ℕ). at_or_below y s) (sym z) ∙ m.passes)))

open_member : (l : List ℕ) (x : ℕ) → has x l ≡ true → is_open l x ≡ true
unfolding is_open
open_member l x h = some-has (λ (s : ℕ). at_or_below s x) x l h (below_self x)

open_left : (l m : List ℕ) (x : ℕ) → is_open l x ≡ true → is_open (l ++ m) x ≡ true
unfolding is_open
open_left l m x h = any_left _ l m h

-- a time with a corner at or below it adds nothing
pub pass_over : (corners rest : List ℕ) (t : ℕ) → is_open corners t ≡ true → least_of (corners ++ t ∷ rest) ≡ least_of (corners ++ rest)
pass_over corners rest t o = least_same (corners ++ t ∷ rest) (corners ++ rest) sub cov
  where
    sub : (x : ℕ) → has x (corners ++ rest) ≡ true → has x (corners ++ t ∷ rest) ≡ true
    sub x h = has_cases x corners rest _ h (any_left (eqb x) corners (t ∷ rest)) (λ k. any-right (eqb x) corners (t ∷ rest) (has_later x t rest k))

    cov : (x : ℕ) → has x (corners ++ t ∷ rest) ≡ true → is_open (corners ++ rest) x ≡ true
    cov x h =
        has_cases x corners (t ∷ rest) _ h
        (λ k. open_left corners rest x (open_member corners x k))
        (λ k. head_or x t rest _ k
        (λ e. open_left corners rest x (ap (is_open corners) e ∙ o))
        (λ m. open_member (corners ++ rest) x (any-right (eqb x) corners rest m)))

has-joined : (x t : ℕ) (corners : List ℕ) → has x (joined t corners) ≡ (eqb x t || (has x corners && not (at_or_below t x)))
has-joined x t corners =
    has_insert x t (keep (λ (s : ℕ). not (at_or_below t s)) corners)
    ∙ ap (λ (b : Bool). eqb x t || b) (has-keep (λ (s : ℕ). not (at_or_below t s)) x corners)

pub joined-or : (x t : ℕ) (corners : List ℕ) (P : Type 0) → has x (joined t corners) ≡ true → (x ≡ t → P) → (has x corners ≡ true → P) → P
joined-or x t corners P h f g =
    by_test (eqb x t) (λ e. f (eqb-true _ _ e)) (λ e.
    let k : (eqb x t || (has x corners && not (at_or_below t x))) ≡ true = sym (has-joined x t corners) ∙ h in
    g (and_left _ _ (simp e at k)))

-- a time put among the corners stands for itself and for those that it takes the place of
pub put_among : (corners rest : List ℕ) (t : ℕ) → least_of (corners ++ t ∷ rest) ≡ least_of (joined t corners ++ rest)
unfolding is_open
put_among corners rest t = least_same (corners ++ t ∷ rest) (joined t corners ++ rest) sub cov
  where
    itself : has t (joined t corners) ≡ true
    itself = has-joined t t corners ∙ simp (eq-eqb t t refl)

    sub : (x : ℕ) → has x (joined t corners ++ rest) ≡ true → has x (corners ++ t ∷ rest) ≡ true
    sub x h =
        has_cases x (joined t corners) rest _ h
        (λ k. joined-or x t corners _ k
        (λ e. any-right (eqb x) corners (t ∷ rest) (ap (λ (y : ℕ). has y (t ∷ rest)) e ∙ has_head t rest))
        (any_left (eqb x) corners (t ∷ rest)))
        (λ k. any-right (eqb x) corners (t ∷ rest) (has_later x t rest k))

    cov : (x : ℕ) → has x (corners ++ t ∷ rest) ≡ true → is_open (joined t corners ++ rest) x ≡ true
    cov x h =
        has_cases x corners (t ∷ rest) _ h
        (λ k. open_left (joined t corners) rest x (by_test (at_or_below t x)
        (λ b. some-has (λ (s : ℕ). at_or_below s x) t (joined t corners) itself b)
        (λ b. open_member (joined t corners) x (has-joined x t corners ∙ or_right (eqb x t) _ (and_both _ _ k (ap not b))))))
        (λ k. head_or x t rest _ k
        (λ e. open_left (joined t corners) rest x (open_member (joined t corners) x (ap (λ (y : ℕ). has y (joined t corners)) e ∙ itself)))
        (λ m. open_member (joined t corners ++ rest) x (any-right (eqb x) (joined t corners) rest m)))

-- ---- order

ordered_member : (a : ℕ) (l : List ℕ) → ordered (a ∷ l) ≡ true → (x : ℕ) → has x l ≡ true → Stair a x
unfolding any
ordered_member a [] o x h = absurd (true-not-false (sym h))
ordered_member a (b ∷ l) o x h =
    by_test (eqb x b)
    (λ e. let z : b ≡ x = sym (eqb-true _ _ e) in rw z at (ordered_next a b l o))
    (λ e. stairs a b x (ordered_next a b l o) (ordered_member b l (ordered_tail a (b ∷ l) o) x (simp e at h)))

ordered-cons : (a : ℕ) (l : List ℕ) → ((x : ℕ) → has x l ≡ true → Stair a x) → ordered l ≡ true → ordered (a ∷ l) ≡ true
unfolding ordered
ordered-cons a [] f o = refl
ordered-cons a (b ∷ l) f o =
    let s : Stair a b = f b (has_head b l) in
    and_both _ _ (and_both _ _ (lt-ltb (ignition a) (ignition b) s.right) (lt-ltb (tick b) (tick a) s.down)) o

ordered-keep : (p : ℕ → Bool) (l : List ℕ) → ordered l ≡ true → ordered (keep p l) ≡ true
unfolding keep
ordered-keep p [] o = o
ordered-keep p (a ∷ l) o =
    let ih : ordered (keep p l) ≡ true = ordered-keep p l (ordered_tail a l o) in
    by_test (p a)
    (λ h. simp h (ordered-cons a (keep p l) (λ x k. ordered_member a l o x (and_left _ _ (sym (has-keep p x l) ∙ k))) ih))
    (λ h. simp h ih)

-- a time put before a higher number, or behind a lower one
insert_before : (t a : ℕ) (l : List ℕ) → t < a → insert_time t (a ∷ l) ≡ t ∷ a ∷ l
unfolding insert_time
insert_before t a l h = simp (lt-ltb t a h)

insert_behind : (t a : ℕ) (l : List ℕ) → a < t → insert_time t (a ∷ l) ≡ a ∷ insert_time t l
unfolding insert_time
insert_behind t a l h = simp (le-ltb t a (omega arith), ne_eqb t a (λ e. omega arith))

stair_number : (a b : ℕ) → Stair a b → a < b
stair_number a b s = let r = s.right in omega arith

-- times of which neither is at or below the other
stair_either : (a t : ℕ) (P : Type 0) → at_or_below a t ≡ false → at_or_below t a ≡ false → (Stair a t → P) → (Stair t a → P) → P
stair_either a t P h k f g =
    by_test (ltb (ignition a) (ignition t))
    (λ i. let ri : ignition a < ignition t = ltb-true _ _ i in
    by_test (ltb (tick t) (tick a))
    (λ d. f (record { right = ri; down = ltb-true _ _ d }))
    (λ d. let td : tick a ≤ tick t = ltb-false _ _ d in absurd (true-not-false (sym (and_both _ _ (le-leb (ignition a) (ignition t) (omega arith)) (le-leb (tick a) (tick t) td)) ∙ h))))
    (λ i. let ri : ignition t ≤ ignition a = ltb-false _ _ i in
    by_test (ltb (tick a) (tick t))
    (λ d. let td : tick a < tick t = ltb-true _ _ d in
    by_test (leb (ignition a) (ignition t))
    (λ j. absurd (true-not-false (sym (and_both _ _ j (le-leb (tick a) (tick t) (omega arith))) ∙ h)))
    (λ j. g (record { right = leb-false _ _ j; down = td })))
    (λ d. let td : tick t ≤ tick a = ltb-false _ _ d in absurd (true-not-false (sym (and_both _ _ (le-leb (ignition t) (ignition a) ri) (le-leb (tick t) (tick a) td)) ∙ k))))

keep_in : (p : ℕ → Bool) (a : ℕ) (l : List ℕ) → p a ≡ true → keep p (a ∷ l) ≡ a ∷ keep p l
unfolding keep
keep_in p a l h = simp h

keep_out : (p : ℕ → Bool) (a : ℕ) (l : List ℕ) → p a ≡ false → keep p (a ∷ l) ≡ keep p l
unfolding keep
keep_out p a l h = simp h

open_head : (a t : ℕ) (l : List ℕ) → is_open (a ∷ l) t ≡ false → (at_or_below a t ≡ false) × (is_open l t ≡ false)
unfolding is_open any
open_head a t l h = by_test (at_or_below a t) (λ k. absurd (true-not-false (simp k at h))) (λ k. (k, simp k at h))

pub joined-ordered : (corners : List ℕ) (t : ℕ) → ordered corners ≡ true → is_open corners t ≡ false → ordered (joined t corners) ≡ true
unfolding insert_time keep ordered
joined-ordered [] t o h = refl
joined-ordered (a ∷ l) t o h =
    let rest : List ℕ = keep (λ (s : ℕ). not (at_or_below t s)) l in
    let hd = open_head a t l h in
    by_test (at_or_below t a)
    (λ k. ap (λ (m : List ℕ). ordered (insert_time t m)) (keep_out (λ (s : ℕ). not (at_or_below t s)) a l (ap not k)) ∙ joined-ordered l t (ordered_tail a l o) hd.1)
    (λ k. ap (λ (m : List ℕ). ordered (insert_time t m)) (keep_in (λ (s : ℕ). not (at_or_below t s)) a l (ap not k)) ∙
    stair_either a t (ordered (insert_time t (a ∷ rest)) ≡ true) hd.0 k
    (λ s. ap ordered (insert_behind t a rest (stair_number a t s)) ∙ ordered-cons a (joined t l)
    (λ x m. joined-or x t l (Stair a x) m (λ e. rw e s) (ordered_member a l o x)) (joined-ordered l t (ordered_tail a l o) hd.1))
    (λ s. ap ordered (insert_before t a rest (stair_number t a s)) ∙ ordered-cons t (a ∷ rest)
    (λ x m. head_or x a rest (Stair t x) m (λ e. rw e s) (λ r. stairs t a x s (ordered_member a l o x (and_left _ _ (sym (has-keep (λ (s : ℕ). not (at_or_below t s)) x l) ∙ r)))))
    (ordered-cons a rest (λ x r. ordered_member a l o x (and_left _ _ (sym (has-keep (λ (s : ℕ). not (at_or_below t s)) x l) ∙ r))) (ordered-keep (λ (s : ℕ). not (at_or_below t s)) l (ordered_tail a l o)))))

-- corners in order are their own least
pub ordered_least : (l : List ℕ) → ordered l ≡ true → least_of l ≡ l
unfolding least_of keep
ordered_least [] o = refl
ordered_least (a ∷ l) o =
    least_cons a (a ∷ l) (has_head a l) (λ t h. head_or t a l _ h (λ e. omega arith) (λ k. let s = stair_number a t (ordered_member a l o t k) in omega arith))
    ∙ ap (λ (m : List ℕ). a ∷ least_of m)
    (keep_out (λ (t : ℕ). ltb (tick t) (tick a)) a l (le-ltb (tick a) (tick a) (omega arith))
    ∙ keep-has (λ (t : ℕ). ltb (tick t) (tick a)) l (λ t h. lt-ltb (tick t) (tick a) (ordered_member a l o t h).down))
    ∙ ap (λ (m : List ℕ). a ∷ m) (ordered_least l (ordered_tail a l o))
  where
    keep-has : (p : ℕ → Bool) (l : List ℕ) → ((t : ℕ) → has t l ≡ true → p t ≡ true) → keep p l ≡ l
    keep-has p [] f = refl
    keep-has p (b ∷ m) f = keep_in p b m (f b (has_head b m)) ∙ ap (λ (x : List ℕ). b ∷ x) (keep-has p m (λ t h. f t (has_later t b m h)))

-- ---- by places

-- a time's place among corners, and the end of those that it is at or below
pub record Spot (corners : List ℕ) (t n end : ℕ) : Type 0 where
  pub onward : n ≤ end
  pub early : (k : ℕ) → k < n → k < length corners → Stair (get_or corners k 0) t
  pub middle : (k : ℕ) → n ≤ k → k < end → k < length corners → at_or_below t (get_or corners k 0) ≡ true
  pub late : (k : ℕ) → end ≤ k → k < length corners → Stair t (get_or corners k 0)

stair_not : (a t : ℕ) → Stair a t → at_or_below t a ≡ false
stair_not a t s = simp (lt-leb (ignition t) (ignition a) s.right)

stair_over : (a t : ℕ) → Stair t a → at_or_below t a ≡ false
stair_over a t s = simp (lt-leb (tick t) (tick a) s.down, and-false)

keep_all : (p : ℕ → Bool) (l : List ℕ) → ((k : ℕ) → k < length l → p (get_or l k 0) ≡ true) → keep p l ≡ l
unfolding keep
keep_all p [] f = refl
keep_all p (a ∷ l) f = keep_in p a l (f 0 (omega arith)) ∙ ap (λ (x : List ℕ). a ∷ x) (keep_all p l (λ k h. f (suc k) (omega arith)))

pub joined_split : (corners : List ℕ) (t n end : ℕ) → Spot corners t n end → joined t corners ≡ take n corners ++ t ∷ drop end corners
unfolding insert_time keep
joined_split [] t n end w = sym (λ i. take-nil {A = ℕ} n i ++ t ∷ drop-nil {A = ℕ} end i)
joined_split (a ∷ l) t zero zero w =
    ap (insert_time t) (keep_all (λ (s : ℕ). not (at_or_below t s)) (a ∷ l) (λ k h. ap not (stair_over _ t (w.late k (omega arith) h))))
    ∙ insert_before t a l (stair_number t a (w.late 0 (omega arith) (omega arith)))
joined_split (a ∷ l) t zero (suc e) w =
    ap (insert_time t) (keep_out (λ (s : ℕ). not (at_or_below t s)) a l (ap not (w.middle 0 (omega arith) (omega arith) (omega arith))))
    ∙ joined_split l t zero e (record { onward = omega arith; early = λ k h j. absurd (omega arith); middle = λ k h j m. w.middle (suc k) (omega arith) (omega arith) (omega arith); late = λ k h j. w.late (suc k) (omega arith) (omega arith) })
joined_split (a ∷ l) t (suc n) zero w = absurd (omega (arith, w.onward))
joined_split (a ∷ l) t (suc n) (suc e) w =
    let s : Stair a t = w.early 0 (omega arith) (omega arith) in
    ap (insert_time t) (keep_in (λ (s : ℕ). not (at_or_below t s)) a l (ap not (stair_not a t s)))
    ∙ insert_behind t a (keep (λ (s : ℕ). not (at_or_below t s)) l) (stair_number a t s)
    ∙ ap (λ (x : List ℕ). a ∷ x) (joined_split l t n e (record { onward = omega (arith, w.onward); early = λ k h j. w.early (suc k) (omega arith) (omega arith); middle = λ k h j m. w.middle (suc k) (omega arith) (omega arith) (omega arith); late = λ k h j. w.late (suc k) (omega arith) (omega arith) }))
