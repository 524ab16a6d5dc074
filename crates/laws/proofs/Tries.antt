-- The four layers of lists as one tree, the entries that it stands for, and when its lists rise and none is empty.
use Prim.Native.Nat.{ℕ, ◌<◌}
use mathlib.Core.Path.{◌≡◌, refl, sym, ◌∙◌}
use mathlib.Core.Bool.{Bool, true, ◌&&◌, or-true}
use mathlib.Core.List.{List, [], ◌∷◌, ◌++◌, map, flat_map}
use native.Mathlib.Omega.{arith}
use lib.Dec.{eqb, ltb}
use borrow.Author.Tests.{eqb-true, eq-eqb, ltb-true, lt-ltb}
use Rattle.chunk.specs.Entry.{Entry, before, rising, every}
use Rattle.chunk.specs.Words.{rises, rises_from, head_or_0}
use Rattle.laws.proofs.Tests.{and_left, and_right, and_both}
use Rattle.laws.proofs.Order.{all_rising, rising_all, rising_tail}
use Rattle.laws.proofs.Lists.{full, firsts, every_imp, every_of, every_append, every_map, every-flat_map}
use Rattle.laws.proofs.Cuts.{short}

-- a time and its diffs; a value and its times; a key and its values
abbrev pub Timed : Type 0
Timed = ℕ × List ℕ

abbrev pub Valued : Type 0
Valued = ℕ × List Timed

abbrev pub Keyed : Type 0
Keyed = ℕ × List Valued

-- the entries of a time, a value, a key, a tree
abbrev pub entry_at : ℕ → ℕ → Timed → Entry
entry_at k v t = record { key = k; val = v; time = t.0; diff = head_or_0 t.1 }

abbrev pub flat_val : ℕ → Valued → List Entry
flat_val k v = map (entry_at k v.0) v.1

abbrev pub flat_vals : ℕ → List Valued → List Entry
flat_vals k vs = flat_map (flat_val k) vs

abbrev pub flat_key : Keyed → List Entry
flat_key k = flat_vals k.0 k.1

abbrev pub flat : List Keyed → List Entry
flat ks = flat_map flat_key ks

-- lists that rise, none but a diff list empty
abbrev pub ok_time : Timed → Bool
ok_time t = short t.1

abbrev pub ok_val : Valued → Bool
ok_val v = full v.1 && (rises (firsts v.1) && every ok_time v.1)

abbrev pub ok_key : Keyed → Bool
ok_key k = full k.1 && (rises (firsts k.1) && every ok_val k.1)

abbrev pub ok : List Keyed → Bool
ok ks = rises (firsts ks) && every ok_key ks

-- ---- rising numbers

pub rises_tail : (a : ℕ) (l : List ℕ) → rises (a ∷ l) ≡ true → rises l ≡ true
unfolding rises rises_from
rises_tail a [] h = refl
rises_tail a (b ∷ l) h = and_right (ltb a b) _ h

rises_from_lem : (a : ℕ) (l : List ℕ) → rises_from a l ≡ true → every (ltb a) l ≡ true
unfolding rises_from every
rises_from_lem a [] h = refl
rises_from_lem a (b ∷ l) h =
    let k : a < b = ltb-true a b (and_left _ _ h) in
    and_both (ltb a b) _ (and_left (ltb a b) (rises_from b l) h)
    (every_imp (ltb b) (ltb a) (λ c q. lt-ltb a c (omega (arith, ltb-true b c q))) l (rises_from_lem b l (and_right (ltb a b) _ h)))

-- the first is below all others
pub rises_all : (a : ℕ) (l : List ℕ) → rises (a ∷ l) ≡ true → every (ltb a) l ≡ true
unfolding rises
rises_all a l h = rises_from_lem a l h

-- the same of the first number of pairs
pub firsts_all {ℓ} : {B : Type ℓ} (p : ℕ × B) (ps : List (ℕ × B)) → rises (firsts (p ∷ ps)) ≡ true
    → every (λ (q : ℕ × B). ltb p.0 q.0) ps ≡ true
firsts_all {B = B} p ps h = sym (every_map (λ (q : ℕ × B). q.0) (ltb p.0) ps) ∙ rises_all p.0 (firsts ps) h

-- ---- rising entries

pub before-key : (a b : Entry) → ltb a.key b.key ≡ true → before a b ≡ true
before-key a b h = simp h

pub before-val : (a b : Entry) → a.key ≡ b.key → ltb a.val b.val ≡ true → before a b ≡ true
before-val a b e h = simp (eq-eqb _ _ e, h, or-true)

pub before-time : (a b : Entry) → a.key ≡ b.key → a.val ≡ b.val → ltb a.time b.time ≡ true → before a b ≡ true
before-time a b e f h = simp (eq-eqb _ _ e, eq-eqb _ _ f, h, or-true)

pub rising-append : (xs ys : List Entry) → rising xs ≡ true → rising ys ≡ true → every (λ (a : Entry). every (before a) ys) xs ≡ true
    → rising (xs ++ ys) ≡ true
unfolding rising every
rising-append [] ys h k c = k
rising-append (a ∷ xs) ys h k c =
    all_rising a (xs ++ ys)
    (every_append (before a) xs ys ∙ and_both _ _ (rising_all a xs h) (and_left _ _ c))
    (rising-append xs ys (rising_tail a xs h) k (and_right (every (before a) ys) _ c))

rising-val : (k v : ℕ) (ts : List Timed) → rises (firsts ts) ≡ true → rising (map (entry_at k v) ts) ≡ true
unfolding rising
rising-val k v [] h = refl
rising-val k v (t ∷ ts) h =
    all_rising (entry_at k v t) (map (entry_at k v) ts)
    (every_map (entry_at k v) (before (entry_at k v t)) ts
    ∙ every_imp (λ (s : Timed). ltb t.0 s.0) (λ (s : Timed). before (entry_at k v t) (entry_at k v s))
    (λ s q. before-time (entry_at k v t) (entry_at k v s) refl refl q) ts (firsts_all t ts h))
    (rising-val k v ts (rises_tail t.0 (firsts ts) h))

rising_vals : (k : ℕ) (vs : List Valued) → rises (firsts vs) ≡ true → every ok_val vs ≡ true → rising (flat_vals k vs) ≡ true
unfolding rising flat_map every
rising_vals k [] h o = refl
rising_vals k (v ∷ vs) h o =
    let ov : ok_val v ≡ true = and_left _ _ o in
    rising-append (flat_val k v) (flat_vals k vs)
    (rising-val k v.0 v.1 (and_left _ _ (and_right (full v.1) _ ov)))
    (rising_vals k vs (rises_tail v.0 (firsts vs) h) (and_right (ok_val v) _ o))
    (every_map (entry_at k v.0) (λ (a : Entry). every (before a) (flat_vals k vs)) v.1
    ∙ every_of (λ (t : Timed). every (before (entry_at k v.0 t)) (flat_vals k vs))
    (λ t. every-flat_map (flat_val k) (before (entry_at k v.0 t)) vs
    ∙ every_imp (λ (u : Valued). ltb v.0 u.0) (λ (u : Valued). every (before (entry_at k v.0 t)) (flat_val k u))
    (λ u q. every_map (entry_at k u.0) (before (entry_at k v.0 t)) u.1
    ∙ every_of (λ (s : Timed). before (entry_at k v.0 t) (entry_at k u.0 s))
    (λ s. before-val (entry_at k v.0 t) (entry_at k u.0 s) refl q) u.1)
    vs (firsts_all v vs h)) v.1)

-- every entry of a key has that key
pub every-key : (p : ℕ → Bool) (k : ℕ) (vs : List Valued) → p k ≡ true → every (λ (e : Entry). p e.key) (flat_vals k vs) ≡ true
every-key p k vs h =
    every-flat_map (flat_val k) (λ (e : Entry). p e.key) vs
    ∙ every_of (λ (v : Valued). every (λ (e : Entry). p e.key) (flat_val k v))
    (λ v. every_map (entry_at k v.0) (λ (e : Entry). p e.key) v.1 ∙ every_of (λ (t : Timed). p k) (λ t. h) v.1) vs

-- and so for a test of keys that all the tree's keys pass
pub every_keys : (p : ℕ → Bool) (ks : List Keyed) → every (λ (k : Keyed). p k.0) ks ≡ true → every (λ (e : Entry). p e.key) (flat ks) ≡ true
every_keys p ks h =
    every-flat_map flat_key (λ (e : Entry). p e.key) ks
    ∙ every_imp (λ (k : Keyed). p k.0) (λ (k : Keyed). every (λ (e : Entry). p e.key) (flat_key k))
    (λ k q. every-key p k.0 k.1 q) ks h

-- the entries of a tree whose lists rise are rising
pub flat-rising : (ks : List Keyed) → ok ks ≡ true → rising (flat ks) ≡ true
unfolding rising flat_map every
flat-rising [] o = refl
flat-rising (k ∷ ks) o =
    let r : rises (firsts (k ∷ ks)) ≡ true = and_left _ _ o in
    let e : (ok_key k && every ok_key ks) ≡ true = and_right (rises (firsts (k ∷ ks))) _ o in
    let ov : (rises (firsts k.1) && every ok_val k.1) ≡ true = and_right (full k.1) _ (and_left (ok_key k) _ e) in
    rising-append (flat_key k) (flat ks)
    (rising_vals k.0 k.1 (and_left _ _ ov) (and_right (rises (firsts k.1)) _ ov))
    (flat-rising ks (and_both _ _ (rises_tail k.0 (firsts ks) r) (and_right (ok_key k) _ e)))
    (every_imp (λ (a : Entry). eqb k.0 a.key) (λ (a : Entry). every (before a) (flat ks))
    (λ a q. let s : k.0 ≡ a.key = eqb-true _ _ q in
    every_imp (λ (b : Entry). ltb k.0 b.key) (before a) (λ b l. before-key a b (rw (← s) l)) (flat ks)
    (every_keys (ltb k.0) ks (firsts_all k ks r)))
    (flat_key k) (every-key (eqb k.0) k.0 k.1 (eq-eqb k.0 k.0 refl)))
