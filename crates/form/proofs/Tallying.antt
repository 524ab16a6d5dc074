-- The first pass on its way through the updates: with the updates that are left it gives the tests of all updates and, where no position
-- falls, the sizes of all that is formed. There the last entry counted has at most the pending position, so one with another key or value
-- than the pending one's is not met again.
use Rattle.std.proofs.Common.{◌≡◌, ℕ, ◌+◌, ◌^◌, ◌<◌, ◌≤◌, Bool, true, false, cond, not, ◌&&◌, ◌||◌, eqb, ltb, List, [], ◌∷◌, length, drop, sym, refl, ap, ◌∙◌, subst, add-zero, arith, ltb-false, eq-eqb, ne_eqb, eqb-true}
use mathlib.Core.Bool.{or-true}
use borrow.Author.Tests.{eqb-false}
use Rattle.chunk.specs.Entry.{Entry, before, same, same_list, stands, every}
use Rattle.sort.specs.Sort.{entry_of, nth}
use Rattle.laws.proofs.Tests.{by_test, and_left, and_right, or-false}
use Rattle.laws.proofs.Order.{same_parts}
use Rattle.sort.specs.declared.Update.{Update}
use Rattle.form.specs.declared.Counts.{Counts}
use Rattle.form.specs.declared.Sizes.{Sizes}
use Rattle.form.specs.declared.Tally.{Tally}
use Rattle.form.specs.Form.{consolidated, falls, in_range}
use Rattle.form.specs.Pass.{no_counts, counted, opens_key, opens_val, count_from, next_counts, next_pending, final_counts, sizes_of}
use Rattle.form.specs.Tally.{bit, no_tally, sizes_after, ends_at, tallied, tally_from, Sized}
use Rattle.form.proofs.Formed.{or_left, or_right}
use Rattle.form.proofs.Left.{turn, done, starts, starts-falls, count_turn, count_done, falls-turn, range_more, range_done}

-- ---- sizes grow by one at most

pub bit_one : (n : ℕ) (b : Bool) → n ≡ bit b → n ≤ 1
bit_one n true h = omega arith
bit_one n false h = omega arith

pub sized_wider : {m n : ℕ} {s : Sizes} → m ≤ n → Sized m s → Sized n s
sized_wider l h = record { keys = omega (arith, h); vals = omega (arith, h); times = omega (arith, h) }

sized_after : (n : ℕ) (t : Tally) (b : Bool) → Sized n t.sizes → Sized (n + 1) (sizes_after t b)
sized_after n t b h =
    record {
      keys = omega (arith, h.keys, bit_one _ (b && not t.keyed) refl);
      vals = omega (arith, h.vals, bit_one _ (b && not t.valued) refl);
      times = omega (arith, h.times, bit_one _ b refl);
    }

-- ---- the sizes are those of the counts

-- at most this key, and with it at most this value
record UpTo (a b : Entry) : Type 0 where
  key : a.key ≤ b.key
  val : a.key ≡ b.key → a.val ≤ b.val

up_to : (a b : Entry) → before b a ≡ false → UpTo a b
up_to a b h =
    record {
      key = ltb-false _ _ (or_left (ltb b.key a.key) _ h);
      val = λ q.
          let r : (ltb b.val a.val || (eqb b.val a.val && ltb b.time a.time)) ≡ false = simp (eq-eqb b.key a.key (sym q)) at (or_right (ltb b.key a.key) _ h) in
          ltb-false _ _ (or_left (ltb b.val a.val) _ r);
    }

up_to_trans : (a b d : Entry) → UpTo a b → UpTo b d → UpTo a d
up_to_trans a b d h k =
    let l : a.key ≤ b.key = h.key in
    let m : b.key ≤ d.key = k.key in
    record { key = omega arith; val = λ q. omega (arith, h.val (omega arith), k.val (omega arith)) }

-- these are the sizes of the counts, and the tests say of an entry with this key and value which lists it does not open
record Follows (c : Counts) (s : Sizes) (keyed valued : Bool) (p : Entry) : Type 0 where
  sizes : s ≡ sizes_of c
  key : keyed ≡ not (opens_key c p)
  val : valued ≡ not (opens_val c p)
  order : UpTo (entry_of c.last) p

moved : (c : Counts) (s : Sizes) (k v : Bool) (a b : Entry) → b.key ≡ a.key → b.val ≡ a.val → Follows c s k v a → Follows c s k v b
moved c s k v a b p q f =
    record { sizes = f.sizes; key = rw p f.key; val = rw (p, q) f.val; order = record { key = rw p f.order.key; val = rw (p, q) f.order.val } }

added : (o k : Bool) (n m : ℕ) → k ≡ not o → n ≡ m → n + bit (not k) ≡ cond o (m + 1) m
added true k n m h q = rw h (omega arith)
added false k n m h q = rw h (omega arith)

-- a test after an entry that is counted, by whether it is that entry's list
met : (s k o : Bool) → o ≡ not s → (s && (k || true)) ≡ not o
met true k o h = or-true k ∙ ap not (sym h)
met false k o h = ap not (sym h)

-- and after one that is not
kept : (s k o n : Bool) → k ≡ not o → (s ≡ true → o ≡ n) → (s ≡ false → n ≡ true) → (s && (k || false)) ≡ not n
kept true k o n h f g = or-false k ∙ h ∙ ap not (f refl)
kept false k o n h f g = ap not (sym (g refl))

not_both : (a b : Bool) → (not a || not b) ≡ not (a && b)
not_both true b = refl
not_both false b = refl

module _ (c : Counts) (t : Tally) (p : Entry) (f : Follows c t.sizes t.keyed t.valued p) where
  -- the pending entry counted, where it ends
  sizes_after_lem : (b : Bool) → sizes_after t b ≡ sizes_of (cond b (counted c p) c)
  sizes_after_lem true =
      let k : _ ≡ _ = added (opens_key c p) t.keyed t.sizes.nk c.nk f.key (ap (λ (s : Sizes). s.nk) f.sizes) in
      let v : _ ≡ _ = added (opens_val c p) t.valued t.sizes.nv c.nv f.val (ap (λ (s : Sizes). s.nv) f.sizes) in
      let n : t.sizes.nt + 1 ≡ c.nt + 1 = ap (λ (s : Sizes). s.nt + 1) f.sizes in
      λ i. record { nk = k i; nv = v i; nt = n i }
  sizes_after_lem false = simp add-zero f.sizes

  module _ (e : Entry) (m : UpTo p e) where
    -- no entry so far has a key, or a value, that is past the pending one's
    key_opens : eqb p.key e.key ≡ false → opens_key c e ≡ true
    key_opens h =
        let l : c.last.key ≤ p.key = f.order.key in
        let r : p.key ≤ e.key = m.key in
        let d : p.key ≡ e.key → ⊥ = eqb-false _ _ h in
        simp (ne_eqb c.last.key e.key (λ q. d (omega arith)), or-true)

    val_opens : same_list p e ≡ false → opens_val c e ≡ true
    val_opens h =
        by_test (eqb p.key e.key)
        (λ (k : eqb p.key e.key ≡ true).
        let q : p.key ≡ e.key = eqb-true _ _ k in
        let d : p.val ≡ e.val → ⊥ = eqb-false _ _ (simp k at h) in
        let r : p.val ≤ e.val = m.val q in
        by_test (eqb c.last.key e.key)
        (λ (z : eqb c.last.key e.key ≡ true).
        let y : c.last.key ≡ e.key = eqb-true _ _ z in
        let l : c.last.val ≤ p.val = f.order.val (y ∙ sym q) in
        simp (ne_eqb c.last.val e.val (λ x. d (omega arith)), or-true))
        (λ (z : eqb c.last.key e.key ≡ false). simp (z, or-true)))
        (λ (k : eqb p.key e.key ≡ false). rw (key_opens k))

    follows_on : (b : Bool) → Follows (cond b (counted c p) c) (sizes_after t b) (eqb p.key e.key && (t.keyed || b)) (same_list p e && (t.valued || b)) e
    follows_on true =
        record {
          sizes = sizes_after_lem true;
          key = met (eqb p.key e.key) t.keyed (opens_key (counted c p) e) (simp (ne_eqb (c.nt + 1) 0 (λ q. omega arith)));
          val = met (same_list p e) t.valued (opens_val (counted c p) e) (simp (ne_eqb (c.nt + 1) 0 (λ q. omega arith)) (not_both (eqb p.key e.key) (eqb p.val e.val)));
          order = m;
        }
    follows_on false =
        record {
          sizes = sizes_after_lem false;
          key = kept (eqb p.key e.key) t.keyed (opens_key c p) (opens_key c e) f.key (λ h. rw (eqb-true p.key e.key h)) key_opens;
          val = kept (same_list p e) t.valued (opens_val c p) (opens_val c e) f.val (λ h. rw (eqb-true p.key e.key (and_left _ _ h), eqb-true p.val e.val (and_right (eqb p.key e.key) _ h))) val_opens;
          order = up_to_trans _ p e f.order m;
        }

-- an update at another position ends the pending entry, if that stands
next_ends : (c : Counts) (a b : Entry) → next_counts c a b ≡ cond (ends_at a b) (counted c a) c
next_ends c a b = by_cases (same a b) (stands a) (counted c a)
  where
    by_cases : (s z : Bool) (d : Counts) → cond s c (cond z d c) ≡ cond (not s && z) d c
    by_cases true z d = refl
    by_cases false z d = refl

-- the key and the value that are pending after an update are its own
next_key_lem : (a b : Entry) → (next_pending a b).key ≡ b.key
next_key_lem a b = by_test (same a b) (λ (s : same a b ≡ true). rw s (same_parts a b s).key) (λ (s : same a b ≡ false). rw s)

next_val_lem : (a b : Entry) → (next_pending a b).val ≡ b.val
next_val_lem a b = by_test (same a b) (λ (s : same a b ≡ true). rw s (same_parts a b s).val) (λ (s : same a b ≡ false). rw s)

-- what the pass finds from here on is what is counted from here on, where no position falls
found : (c : Counts) (t : Tally) (es : List Entry) → Follows c t.sizes t.keyed t.valued (entry_of t.pending) → falls (entry_of t.pending ∷ es) ≡ false
    → tally_from t es ≡ sizes_of (count_from c (consolidated (entry_of t.pending) es))
unfolding tally_from
found c t [] f h = sizes_after_lem c t (entry_of t.pending) f (stands (entry_of t.pending)) ∙ sym (ap (λ (k : Counts). sizes_of k) (count_done c (entry_of t.pending)))
found c t (e ∷ es) f h =
    let p : Entry = entry_of t.pending in
    let r : Tally = tallied t e in
    let g : (before e p || falls (next_pending p e ∷ es)) ≡ false = sym (falls-turn p e es) ∙ h in
    let m : UpTo p e = up_to p e (or_left (before e p) _ g) in
    let n : Follows (next_counts c p e) r.sizes r.keyed r.valued e =
    subst (λ (k : Counts). Follows k r.sizes r.keyed r.valued e) (sym (next_ends c p e)) (follows_on c t p f e m (ends_at p e)) in
    found (next_counts c p e) r es (moved _ _ _ _ e (next_pending p e) (next_key_lem p e) (next_val_lem p e) n) (or_right (before e p) _ g)
    ∙ sym (ap (λ (k : Counts). sizes_of k) (count_turn c p e es))

-- ---- on the way

pub record Surveying (es : List Entry) (i : ℕ) (t : Tally) (fell inside : Bool) : Type 0 where
  pub sized : Sized i t.sizes
  pub sizes : falls es ≡ false → sizes_of (final_counts es) ≡ tally_from t (drop i es)
  pub falling : falls es ≡ (fell || falls (entry_of t.pending ∷ drop i es))
  pub ranging : every in_range es ≡ (inside && every in_range (drop i es))

-- before the first entry there is none whose lists another one would not open
first_follows : Follows no_counts no_tally.sizes false false (entry_of no_tally.pending)
first_follows = record { sizes = refl; key = refl; val = refl; order = record { key = omega arith; val = λ q. omega arith } }

pub surveying_starts : (es : List Entry) → (nth es 0).diff < 2 ^ 64 → Surveying es 0 no_tally false true
surveying_starts es h =
    record {
      sized = record { keys = omega arith; vals = omega arith; times = omega arith };
      sizes = λ k.
          ap (λ (l : List Entry). sizes_of (count_from no_counts l)) (starts es h)
          ∙ sym (found no_counts no_tally es first_follows (sym (starts-falls es) ∙ k));
      falling = starts-falls es;
      ranging = refl;
    }

or_assoc : (a b d : Bool) → (a || (b || d)) ≡ ((a || b) || d)
or_assoc true b d = refl
or_assoc false b d = refl

pub surveying_turn : (es : List Entry) (i : ℕ) (t r : Tally) (fell falling inside within : Bool) (u : Update) → i < length es → entry_of u ≡ nth es i
    → Surveying es i t fell inside → r ≡ tallied t (entry_of u) → falling ≡ (fell || before (entry_of u) (entry_of t.pending)) → within ≡ (inside && in_range (entry_of u))
    → Surveying es (i + 1) r falling within
unfolding tally_from
surveying_turn es i t r fell falling inside within u more q h k l m =
    let p : Entry = entry_of t.pending in
    let e : Entry = entry_of u in
    let rest : List Entry = drop (i + 1) es in
    let opened : drop i es ≡ e ∷ rest = turn es i more ∙ ap (λ (x : Entry). x ∷ rest) (sym q) in
    subst (λ (x : Tally). Surveying es (i + 1) x falling within) (sym k)
    (record {
      sized = sized_after i t (ends_at p e) h.sized;
      sizes = λ z. h.sizes z ∙ ap (λ (l : List Entry). tally_from t l) opened;
      falling =
          h.falling
          ∙ ap (λ (l : List Entry). fell || falls (p ∷ l)) opened
          ∙ ap (λ (b : Bool). fell || b) (falls-turn p e rest)
          ∙ or_assoc fell (before e p) (falls (next_pending p e ∷ rest))
          ∙ ap (λ (b : Bool). b || falls (next_pending p e ∷ rest)) (sym l);
      ranging =
          h.ranging
          ∙ range_more es i inside u more q
          ∙ ap (λ (b : Bool). b && every in_range rest) (sym m);
    })

-- ---- at the last update

module _ (es : List Entry) (i : ℕ) (t : Tally) (fell inside : Bool) (over : length es ≤ i) (h : Surveying es i t fell inside) where
  pub ends_falls : falls es ≡ fell
  unfolding falls
  ends_falls = h.falling ∙ ap (λ (l : List Entry). fell || falls (entry_of t.pending ∷ l)) (done es i over) ∙ or-false fell

  pub ends_range : every in_range es ≡ inside
  ends_range = h.ranging ∙ range_done es i inside over

  pub ends_sizes : falls es ≡ false → sizes_of (final_counts es) ≡ sizes_after t (stands (entry_of t.pending))
  unfolding tally_from
  ends_sizes k = h.sizes k ∙ ap (λ (l : List Entry). tally_from t l) (done es i over)
