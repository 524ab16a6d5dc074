-- Rising entries are the entries of a tree whose lists rise: each entry, from the last one on, joins the first key and value or opens a new one.
use Prim.Native.Nat.{ℕ}
use mathlib.Core.Path.{◌≡◌, refl, sym, ap, ◌∙◌}
use mathlib.Core.Bool.{true, false, ◌&&◌}
use mathlib.Core.List.{List, [], ◌∷◌, ◌++◌, flat_map}
use native.Mathlib.Omega.{arith}
use lib.Dec.{eqb, ltb}
use borrow.Author.Tests.{eqb-true, eq-eqb, le-ltb}
use Rattle.chunk.specs.Entry.{Entry, before, rising, every}
use Rattle.chunk.specs.Words.{rises, rises_from, head_or_0}
use Rattle.laws.proofs.Tests.{by_test, and_left, and_right, and_both, true-not-false}
use Rattle.laws.proofs.Order.{rising_all, rising_tail}
use Rattle.laws.proofs.Lists.{full, firsts, every_imp, every_of, every_append, every_map, full-map}
use Rattle.laws.proofs.Cuts.{short}
use Rattle.laws.proofs.Groups.{last, last-every}
use Rattle.laws.proofs.Tries.{Timed, Valued, Keyed, entry_at, flat_val, flat_vals, flat_key, flat, ok_time, ok_val, ok_key, ok, every-key}
use Rattle.laws.proofs.Layers.{cell, leaf, full-key, vals-ok}

-- ---- what `before` says of the first number that differs

before_keys : (a b : Entry) → eqb a.key b.key ≡ false → before a b ≡ true → ltb a.key b.key ≡ true
before_keys a b e h = by_test (ltb a.key b.key) (λ l. l) (λ l. absurd (true-not-false (sym h ∙ simp (l, e))))

before_vals : (a b : Entry) → a.key ≡ b.key → eqb a.val b.val ≡ false → before a b ≡ true → ltb a.val b.val ≡ true
before_vals a b k e h =
    let n : ltb a.key b.key ≡ false = le-ltb a.key b.key (omega arith) in
    by_test (ltb a.val b.val) (λ l. l) (λ l. absurd (true-not-false (sym h ∙ simp (n, eq-eqb a.key b.key k, l, e))))

before_times : (a b : Entry) → a.key ≡ b.key → a.val ≡ b.val → before a b ≡ true → ltb a.time b.time ≡ true
before_times a b k v h =
    let n : ltb a.key b.key ≡ false = le-ltb a.key b.key (omega arith) in
    let m : ltb a.val b.val ≡ false = le-ltb a.val b.val (omega arith) in
    by_test (ltb a.time b.time) (λ l. l)
    (λ l. absurd (true-not-false (sym h ∙ simp (n, eq-eqb a.key b.key k, m, eq-eqb a.val b.val v, l))))

-- below all of a rising list
all_rises : (a : ℕ) (l : List ℕ) → every (ltb a) l ≡ true → rises l ≡ true → rises (a ∷ l) ≡ true
unfolding rises rises_from every
all_rises a [] h r = refl
all_rises a (b ∷ l) h r = and_both (ltb a b) _ (and_left (ltb a b) _ h) r

-- ---- an entry as a time and its diffs

head_cell : (d : ℕ) → head_or_0 (cell d) ≡ d
unfolding head_or_0
head_cell d = by_test (eqb d 0) (λ h. let e : d ≡ 0 = eqb-true _ _ h in rw h (sym e)) (λ h. rw h)

leaf-ok : (d : ℕ) → short (cell d) ≡ true
leaf-ok d = by_test (eqb d 0) (λ h. rw h) (λ h. rw h (simp h))

-- an entry is the entry of its key, its value, its time and its diffs
at_own : (e : Entry) (k v : ℕ) → e.key ≡ k → e.val ≡ v → entry_at k v (leaf e) ≡ e
at_own e k v p q = λ i. record { key = sym p i; val = sym q i; time = e.time; diff = head_cell e.diff i }

-- ---- an entry before all of a key's values

-- a row of values with the entry in front
record Vals (e : Entry) (vs : List Valued) : Type 0 where
  us : List Valued
  some : full us ≡ true
  up : rises (firsts us) ≡ true
  each : every ok_val us ≡ true
  reads : flat_vals e.key us ≡ e ∷ flat_vals e.key vs

-- the entry as a value of its own
abbrev alone : Entry → Valued
alone e = (e.val, leaf e ∷ [])

alone-ok : (e : Entry) → ok_val (alone e) ≡ true
unfolding every rises rises_from
alone-ok e = and_both _ _ (leaf-ok e.diff) refl

grow_vals : (e : Entry) (vs : List Valued) → rises (firsts vs) ≡ true → every ok_val vs ≡ true
    → every (before e) (flat_vals e.key vs) ≡ true → Vals e vs
unfolding every rises rises_from flat_map
grow_vals e [] r o b =
    record {
      us = alone e ∷ [];
      some = refl;
      up = refl;
      each = and_both (ok_val (alone e)) true (alone-ok e) refl;
      reads = ap (λ (x : Entry). x ∷ []) (at_own e e.key e.val refl refl);
    }
grow_vals e (v ∷ vs) r o b =
    let ov : ok_val v ≡ true = and_left (ok_val v) (every ok_val vs) o in
    let os : every ok_val vs ≡ true = and_right (ok_val v) (every ok_val vs) o in
    let bv : every (before e) (flat_val e.key v) ≡ true =
    and_left (every (before e) (flat_val e.key v)) _ (sym (every_append (before e) (flat_val e.key v) (flat_vals e.key vs)) ∙ b) in
    by_test (eqb e.val v.0) (joins ov os bv) (opens ov os bv)
  where
    joins : ok_val v ≡ true → every ok_val vs ≡ true → every (before e) (flat_val e.key v) ≡ true → eqb e.val v.0 ≡ true → Vals e (v ∷ vs)
    joins ov os bv h =
        let q : e.val ≡ v.0 = eqb-true _ _ h in
        let rv : (rises (firsts v.1) && every ok_time v.1) ≡ true = and_right (full v.1) _ ov in
        let later : every (ltb e.time) (firsts v.1) ≡ true =
        every_map (λ (t : Timed). t.0) (ltb e.time) v.1
        ∙ every_imp (λ (t : Timed). before e (entry_at e.key v.0 t)) (λ (t : Timed). ltb e.time t.0)
        (λ t l. before_times e (entry_at e.key v.0 t) refl q l) v.1
        (sym (every_map (entry_at e.key v.0) (before e) v.1) ∙ bv) in
        record {
          us = (v.0, leaf e ∷ v.1) ∷ vs;
          some = refl;
          up = r;
          each =
              and_both _ (every ok_val vs)
              (and_both _ (ok_time (leaf e) && every ok_time v.1) (all_rises e.time (firsts v.1) later (and_left _ _ rv))
              (and_both _ (every ok_time v.1) (leaf-ok e.diff) (and_right (rises (firsts v.1)) _ rv)))
              os;
          reads = ap (λ (x : Entry). x ∷ (flat_val e.key v ++ flat_vals e.key vs)) (at_own e e.key v.0 refl q);
        }

    opens : ok_val v ≡ true → every ok_val vs ≡ true → every (before e) (flat_val e.key v) ≡ true → eqb e.val v.0 ≡ false → Vals e (v ∷ vs)
    opens ov os bv h =
        let f : full (flat_val e.key v) ≡ true = full-map (entry_at e.key v.0) v.1 ∙ and_left _ _ ov in
        let l : Entry = last (flat_val e.key v) in
        let lk : e.key ≡ l.key =
        eqb-true _ _
        (last-every (λ (x : Entry). eqb e.key x.key) (flat_val e.key v) f
        (every_map (entry_at e.key v.0) (λ (x : Entry). eqb e.key x.key) v.1
        ∙ every_of (λ (t : Timed). eqb e.key e.key) (λ t. eq-eqb e.key e.key refl) v.1)) in
        let lv : v.0 ≡ l.val =
        eqb-true _ _
        (last-every (λ (x : Entry). eqb v.0 x.val) (flat_val e.key v) f
        (every_map (entry_at e.key v.0) (λ (x : Entry). eqb v.0 x.val) v.1
        ∙ every_of (λ (t : Timed). eqb v.0 v.0) (λ t. eq-eqb v.0 v.0 refl) v.1)) in
        let under : ltb e.val v.0 ≡ true =
        rw lv (before_vals e l lk (rw (← lv) h) (last-every (before e) (flat_val e.key v) f bv)) in
        record {
          us = alone e ∷ v ∷ vs;
          some = refl;
          up = and_both (ltb e.val v.0) _ under r;
          each = and_both (ok_val (alone e)) _ (alone-ok e) (and_both (ok_val v) _ ov os);
          reads = ap (λ (x : Entry). x ∷ (flat_val e.key v ++ flat_vals e.key vs)) (at_own e e.key e.val refl refl);
        }

-- ---- an entry before all of a tree's

-- a tree with these entries
pub record Grown (es : List Entry) : Type 0 where
  pub tree : List Keyed
  pub fine : ok tree ≡ true
  pub reads : flat tree ≡ es

-- the entry as a key of its own, before a tree whose first key is above it
opened : (e : Entry) (ks : List Keyed) → rises (e.key ∷ firsts ks) ≡ true → every ok_key ks ≡ true → Grown (e ∷ flat ks)
unfolding every flat_map rises rises_from
opened e ks r o =
    record {
      tree = (e.key, alone e ∷ []) ∷ ks;
      fine = and_both _ _ r (and_both (ok_key (e.key, alone e ∷ [])) _ (and_both (ok_val (alone e)) true (alone-ok e) refl) o);
      reads = ap (λ (x : Entry). x ∷ flat ks) (at_own e e.key e.val refl refl);
    }

grow : (e : Entry) (ks : List Keyed) → ok ks ≡ true → every (before e) (flat ks) ≡ true → Grown (e ∷ flat ks)
unfolding every flat_map rises rises_from
grow e [] o b = opened e [] refl refl
grow e (k ∷ ks) o b =
    let r : rises (firsts (k ∷ ks)) ≡ true = and_left _ _ o in
    let os : (ok_key k && every ok_key ks) ≡ true = and_right (rises (firsts (k ∷ ks))) _ o in
    let oj : ok_key k ≡ true = and_left (ok_key k) (every ok_key ks) os in
    let bk : every (before e) (flat_key k) ≡ true =
    and_left (every (before e) (flat_key k)) _ (sym (every_append (before e) (flat_key k) (flat ks)) ∙ b) in
    by_test (eqb e.key k.0) (joins r os oj bk) (opens r os oj bk)
  where
    joins : rises (firsts (k ∷ ks)) ≡ true → (ok_key k && every ok_key ks) ≡ true → ok_key k ≡ true → every (before e) (flat_key k) ≡ true
        → eqb e.key k.0 ≡ true → Grown (e ∷ flat (k ∷ ks))
    joins r os oj bk h =
        let q : e.key ≡ k.0 = eqb-true _ _ h in
        let ov : (rises (firsts k.1) && every ok_val k.1) ≡ true = and_right (full k.1) _ oj in
        let g : Vals e k.1 =
        grow_vals e k.1 (and_left _ _ ov) (and_right (rises (firsts k.1)) _ ov)
        (ap (λ (n : ℕ). every (before e) (flat_vals n k.1)) q ∙ bk) in
        record {
          tree = (k.0, g.us) ∷ ks;
          fine =
              and_both _ _ r
              (and_both (ok_key (k.0, g.us)) _ (and_both _ _ g.some (and_both _ _ g.up g.each)) (and_right (ok_key k) _ os));
          reads =
              (λ i. flat_vals (sym q i) g.us ++ flat ks)
              ∙ ap (λ (x : List Entry). x ++ flat ks) g.reads
              ∙ (λ i. e ∷ (flat_vals (q i) k.1 ++ flat ks));
        }

    opens : rises (firsts (k ∷ ks)) ≡ true → (ok_key k && every ok_key ks) ≡ true → ok_key k ≡ true → every (before e) (flat_key k) ≡ true
        → eqb e.key k.0 ≡ false → Grown (e ∷ flat (k ∷ ks))
    opens r os oj bk h =
        let f : full (flat_key k) ≡ true = full-key k.0 k.1 (and_left _ _ oj) (vals-ok k oj) in
        let l : Entry = last (flat_key k) in
        let lk : k.0 ≡ l.key =
        eqb-true _ _
        (last-every (λ (x : Entry). eqb k.0 x.key) (flat_key k) f
        (every-key (eqb k.0) k.0 k.1 (eq-eqb k.0 k.0 refl))) in
        let under : ltb e.key k.0 ≡ true =
        rw lk (before_keys e l (rw (← lk) h) (last-every (before e) (flat_key k) f bk)) in
        opened e (k ∷ ks) (and_both (ltb e.key k.0) _ under r) os

pub grown : (es : List Entry) → rising es ≡ true → Grown es
unfolding every flat_map rising rises rises_from
grown [] h = record { tree = []; fine = refl; reads = refl }
grown (e ∷ es) h =
    let g : Grown es = grown es (rising_tail e es h) in
    rw (← g.reads) (grow e g.tree g.fine (rw g.reads (rising_all e es h)))
