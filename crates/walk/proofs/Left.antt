-- What is left at a place: each body, from its index on, is that body of the entries that are left.
use Prim.Native.Nat.{ℕ, zero, suc, ◌≤◌, ◌<◌}
use mathlib.Core.Path.{◌≡◌, refl, sym, ◌∙◌, ap}
use mathlib.Core.Bool.{Bool, true, false, cond}
use mathlib.Core.List.{List, [], ◌∷◌, map}
use native.Mathlib.Omega.{arith}
use native.Mathlib.Nat.{add-zero}
use lib.Dec.{eqb}
use lib.ListN.{length, get_or, drop}
use lib.Seq.{get_or-drop}
use borrow.Author.Tests.{lt-ltb, le-ltb, eqb-true, eq-eqb}
use Rattle.laws.proofs.Tests.{by_test, and_left, and_right, and_both}
use Rattle.laws.proofs.Groups.{Alike, alike-key, alike_list}
use Rattle.chunk.specs.Entry.{Entry, same_list, stands, keep}
use Rattle.chunk.specs.Bodies.{lasts_of, ends_of, diff_ends_from, same_key, keys, vals, times, diffs}
use Rattle.chunk.specs.Words.{key_body, val_end_body, val_body, time_end_body, time_body, diff_end_body, diff_body}
use Rattle.walk.specs.Walk.{Place, moved, next_key, to_key, to_val, next_val, next_time, val_on, time_on, diff_on, at_key, with_time_end, with_diff_end, read_time_end, read_diff_end}
use Rattle.walk.proofs.Turns.{stays, turned}
use Rattle.walk.proofs.Counts.{key_loop, val_loop}

-- the item at an index is the first of what is left there
pub first_left : (l : List ℕ) (i : ℕ) (x : List ℕ) → drop i l ≡ x → get_or l i 0 ≡ get_or x 0 0
first_left l i x e = ap (λ (j : ℕ). get_or l j 0) (sym (add-zero i)) ∙ sym (get_or-drop i l 0 0) ∙ ap (λ (r : List ℕ). get_or r 0 0) e

-- one item on
pub record More (l : List ℕ) (i : ℕ) (x : List ℕ) : Type 0 where
  pub within : i < length l
  pub rest : drop (suc i) l ≡ x

pub more : (l : List ℕ) (i a : ℕ) (x : List ℕ) → drop i l ≡ a ∷ x → More l i x
more [] zero a x e = absurd (let z : ◌≡◌ {A = ℕ} 0 1 = cc in omega arith)
more [] (suc i) a x e = absurd (let z : ◌≡◌ {A = ℕ} 0 1 = cc in omega arith)
more (b ∷ l) zero a x e = record { within = omega arith; rest = cc }
more (b ∷ l) (suc i) a x e = let m = more l i a x e in record { within = omega (arith, m.within); rest = m.rest }

-- nothing is left
pub none : (l : List ℕ) (i : ℕ) → drop i l ≡ [] → length l ≤ i
none [] i e = omega arith
none (b ∷ l) zero e = absurd (let z : ◌≡◌ {A = ℕ} 0 1 = cc in omega arith)
none (b ∷ l) (suc i) e = omega (arith, none l i e)

-- what is left begins with an end that is not 0, so there is one
pub read_left : (l : List ℕ) (i : ℕ) (x : List ℕ) → drop i l ≡ x → 0 < get_or x 0 0 → i < length l
read_left l i [] e h = absurd (omega arith)
read_left l i (a ∷ x) e h = (more l i a x e).within

-- a list goes on, or is closed
module _ (same : Entry → Entry → Bool) (a b : Entry) (es : List Entry) where
  pub lasts_same : same a b ≡ true → lasts_of same (a ∷ b ∷ es) ≡ lasts_of same (b ∷ es)
  unfolding lasts_of
  lasts_same h = rw h

  pub lasts_other : same a b ≡ false → lasts_of same (a ∷ b ∷ es) ≡ a ∷ lasts_of same (b ∷ es)
  unfolding lasts_of
  lasts_other h = rw h

  pub ends_same : (n : ℕ) → same a b ≡ true → ends_of same n (a ∷ b ∷ es) ≡ ends_of same (suc n) (b ∷ es)
  unfolding ends_of
  ends_same n h = rw h

  pub ends_other : (n : ℕ) → same a b ≡ false → ends_of same n (a ∷ b ∷ es) ≡ suc n ∷ ends_of same (suc n) (b ∷ es)
  unfolding ends_of
  ends_other n h = rw h

-- the first of some items
abbrev pub head : List ℕ → ℕ
head x = get_or x 0 0

-- the list that the first item stands in ends after it
pub end_after : (same : Entry → Entry → Bool) (n : ℕ) (a : Entry) (es : List Entry) → n < head (ends_of same n (a ∷ es))
unfolding ends_of
end_after same n a [] = omega arith
end_after same n a (b ∷ es) =
    by_test (same a b)
    (λ h. rw h (omega (arith, end_after same (suc n) b es)))
    (λ h. rw h (omega arith))

-- the last entry of a list is like the first
pub record Leads (same : Entry → Entry → Bool) (a : Entry) (es : List Entry) : Type 0 where
  pub lead : Entry
  pub others : List Entry
  pub is : lasts_of same (a ∷ es) ≡ lead ∷ others
  pub like : same a lead ≡ true

leads : (same : Entry → Entry → Bool) → Alike same → ((a : Entry) → same a a ≡ true) → (a : Entry) (es : List Entry) → Leads same a es
unfolding lasts_of
leads same alike self a [] = record { lead = a; others = []; is = refl; like = self a }
leads same alike self a (b ∷ es) =
    by_test (same a b)
    (λ h.
    let r = leads same alike self b es in
    record { lead = r.lead; others = r.others; is = rw h r.is; like = sym (alike a b r.lead h) ∙ r.like })
    (λ h. record { lead = a; others = lasts_of same (b ∷ es); is = rw h; like = self a })

pub leads_key : (a : Entry) (es : List Entry) → Leads same_key a es
leads_key = leads same_key alike-key (λ a. eq-eqb a.key a.key refl)

pub leads_list : (a : Entry) (es : List Entry) → Leads same_list a es
leads_list = leads same_list alike_list (λ a. and_both _ _ (eq-eqb a.key a.key refl) (eq-eqb a.val a.val refl))

-- the value ends that are left, by the entries
module _ (v : ℕ) (a b : Entry) (es : List Entry) where
  -- the key of the value's last entry
  lead-key : same_key a (leads_list b es).lead ≡ same_key a b
  lead-key =
      let r = leads_list b es in
      let k : b.key ≡ r.lead.key = eqb-true _ _ (and_left _ _ r.like) in
      ap (eqb a.key) (sym k)

  pub val_ends_same : same_list a b ≡ false → same_key a b ≡ true
      → ends_of same_key v (lasts_of same_list (a ∷ b ∷ es)) ≡ ends_of same_key (suc v) (lasts_of same_list (b ∷ es))
  val_ends_same h k =
      let r = leads_list b es in
      ap (ends_of same_key v) (lasts_other same_list a b es h ∙ ap (λ (l : List Entry). a ∷ l) r.is)
      ∙ ends_same same_key a r.lead r.others v (lead-key ∙ k)
      ∙ ap (ends_of same_key (suc v)) (sym r.is)

  pub val_ends_other : same_list a b ≡ false → same_key a b ≡ false
      → ends_of same_key v (lasts_of same_list (a ∷ b ∷ es)) ≡ suc v ∷ ends_of same_key (suc v) (lasts_of same_list (b ∷ es))
  val_ends_other h k =
      let r = leads_list b es in
      ap (ends_of same_key v) (lasts_other same_list a b es h ∙ ap (λ (l : List Entry). a ∷ l) r.is)
      ∙ ends_other same_key a r.lead r.others v (lead-key ∙ k)
      ∙ ap (λ (l : List Entry). suc v ∷ ends_of same_key (suc v) l) (sym r.is)

pub val_end_after : (v : ℕ) (a : Entry) (es : List Entry) → v < head (ends_of same_key v (lasts_of same_list (a ∷ es)))
val_end_after v a es = let r = leads_list a es in rw r.is (end_after same_key v r.lead r.others)

-- the diffs up to and including an entry's, from those before it
abbrev pub used : Entry → ℕ → ℕ
used e d = cond (stands e) (suc d) d

pub diff_ends_cons : (d : ℕ) (e : Entry) (es : List Entry) → diff_ends_from d (e ∷ es) ≡ used e d ∷ diff_ends_from (used e d) es
unfolding diff_ends_from
diff_ends_cons d e es = by_test (stands e) (λ h. rw h) (λ h. rw h)

pub diffs-on : (l : List ℕ) (d : ℕ) (e : Entry) (es : List Entry) → drop d l ≡ diffs (e ∷ es) → drop (used e d) l ≡ diffs es
unfolding keep
diffs-on l d e es h =
    by_test (stands e)
    (λ s. rw s (more l d e.diff (diffs es) (rw s at h)).rest)
    (λ s. rw s (rw s at h))

-- the entries from e on are left at a place, with d diffs before them
pub record At (w : List ℕ) (p : Place) (d : ℕ) (e : Entry) (es : List Entry) : Type 0 where
  pub keys_left : drop p.k (key_body w) ≡ keys (e ∷ es)
  pub val_ends_left : drop p.k (val_end_body w) ≡ ends_of same_key p.v (lasts_of same_list (e ∷ es))
  pub vals_left : drop p.v (val_body w) ≡ vals (e ∷ es)
  pub time_ends_left : drop p.v (time_end_body w) ≡ ends_of same_list p.t (e ∷ es)
  pub times_left : drop p.t (time_body w) ≡ times (e ∷ es)
  pub diff_ends_left : drop p.t (diff_end_body w) ≡ diff_ends_from d (e ∷ es)
  pub diffs_left : drop d (diff_body w) ≡ diffs (e ∷ es)
  pub val_end_is : p.val_end ≡ head (ends_of same_key p.v (lasts_of same_list (e ∷ es)))
  pub time_end_is : p.time_end ≡ head (ends_of same_list p.t (e ∷ es))
  pub diff_end_is : p.diff_end ≡ used e d

-- a turn of the times' loop leads to the next entry
pub record Next (w : List ℕ) (p : Place) (d : ℕ) (f : Entry) (fs : List Entry) : Type 0 where
  pub to : Place
  pub turns : next_time (val_end_body w) (time_end_body w) (diff_end_body w) p ≡ moved to
  pub same_d : to.d ≡ p.d
  pub there : At w to d f fs

module _ (w : List ℕ) (p : Place) (d : ℕ) (e f : Entry) (fs : List Entry) (here : At w p d e (f ∷ fs)) where
  times_more : More (time_body w) p.t (times (f ∷ fs))
  times_more = more (time_body w) p.t e.time (times (f ∷ fs)) here.times_left

  diff_ends_more : More (diff_end_body w) p.t (diff_ends_from (used e d) (f ∷ fs))
  diff_ends_more = more (diff_end_body w) p.t (used e d) (diff_ends_from (used e d) (f ∷ fs)) (here.diff_ends_left ∙ diff_ends_cons d e (f ∷ fs))

  -- the end of f's diffs
  next_d_end : get_or (diff_end_body w) (suc p.t) 0 ≡ used f (used e d)
  next_d_end = first_left (diff_end_body w) (suc p.t) _ (diff_ends_more.rest ∙ diff_ends_cons (used e d) f fs)

  reads_d_end : (r : Place) → r.t ≡ suc p.t → read_diff_end (diff_end_body w) r ≡ moved (with_diff_end r (used f (used e d)))
  reads_d_end r h =
      let m : More (diff_end_body w) (suc p.t) _ = more (diff_end_body w) (suc p.t) _ _ (diff_ends_more.rest ∙ diff_ends_cons (used e d) f fs) in
      rw (h, lt-ltb (suc p.t) (length (diff_end_body w)) m.within, next_d_end)

  -- f in the same list as e
  in_list : same_list e f ≡ true → Next w p (used e d) f fs
  unfolding to_val
  in_list h =
      let k : same_key e f ≡ true = and_left _ _ h in
      let o : p.time_end ≡ head (ends_of same_list (suc p.t) (f ∷ fs)) = here.time_end_is ∙ ap head (ends_same same_list e f fs p.t h) in
      let i : suc p.t < p.time_end = rw o (end_after same_list (suc p.t) f fs) in
      let v : to_val (val_end_body w) (time_end_body w) (time_on p) ≡ moved (time_on p) = stays (val_loop (val_end_body w) (time_end_body w)) (time_on p) (lt-ltb _ _ i) in
      record {
        to = with_diff_end (time_on p) (used f (used e d));
        turns = rw v (reads_d_end (time_on p) refl);
        same_d = refl;
        there =
            record {
              keys_left = here.keys_left ∙ ap (map (λ (x : Entry). x.key)) (lasts_same same_key e f fs k);
              val_ends_left = here.val_ends_left ∙ ap (ends_of same_key p.v) (lasts_same same_list e f fs h);
              vals_left = here.vals_left ∙ ap (map (λ (x : Entry). x.val)) (lasts_same same_list e f fs h);
              time_ends_left = here.time_ends_left ∙ ends_same same_list e f fs p.t h;
              times_left = times_more.rest;
              diff_ends_left = diff_ends_more.rest;
              diffs_left = diffs-on (diff_body w) d e (f ∷ fs) here.diffs_left;
              val_end_is = here.val_end_is ∙ ap (λ (l : List Entry). head (ends_of same_key p.v l)) (lasts_same same_list e f fs h);
              time_end_is = o;
              diff_end_is = refl;
            };
      }

  -- f in another list: its value is the next, in a key that is known
  other_list : same_list e f ≡ false → (k val_end : ℕ)
      → to_key (val_end_body w) (val_on (time_on p)) ≡ moved (at_key (val_on (time_on p)) k val_end)
      → drop k (key_body w) ≡ keys (f ∷ fs)
      → drop k (val_end_body w) ≡ ends_of same_key (suc p.v) (lasts_of same_list (f ∷ fs))
      → val_end ≡ head (ends_of same_key (suc p.v) (lasts_of same_list (f ∷ fs)))
      → Next w p (used e d) f fs
  unfolding to_val
  other_list h k val_end keyed ks ves ve =
      let tm : More (time_end_body w) p.v (ends_of same_list (suc p.t) (f ∷ fs)) = more (time_end_body w) p.v (suc p.t) _ (here.time_ends_left ∙ ends_other same_list e f fs p.t h) in
      let vm : More (val_body w) p.v (vals (f ∷ fs)) = more (val_body w) p.v e.val _ (here.vals_left ∙ ap (map (λ (x : Entry). x.val)) (lasts_other same_list e f fs h)) in
      let te : ℕ = head (ends_of same_list (suc p.t) (f ∷ fs)) in
      let on : suc p.t < te = end_after same_list (suc p.t) f fs in
      let r : Place = at_key (val_on (time_on p)) k val_end in
      let q : Place = with_time_end r te in
      let o : p.time_end ≡ suc p.t = here.time_end_is ∙ ap head (ends_other same_list e f fs p.t h) in
      let z : read_time_end (time_end_body w) r ≡ moved q = rw (lt-ltb (suc p.v) (length (time_end_body w)) (read_left (time_end_body w) (suc p.v) _ tm.rest (omega arith)), first_left (time_end_body w) (suc p.v) _ tm.rest) in
      let n : next_val (val_end_body w) (time_end_body w) (time_on p) ≡ moved q = rw keyed z in
      let v : to_val (val_end_body w) (time_end_body w) (time_on p) ≡ moved q =
      turned (val_loop (val_end_body w) (time_end_body w)) (time_on p) q (le-ltb (suc p.t) p.time_end (omega arith)) n
      ∙ stays (val_loop (val_end_body w) (time_end_body w)) q (lt-ltb _ _ on) in
      record {
        to = with_diff_end q (used f (used e d));
        turns = rw v (reads_d_end q refl);
        same_d = refl;
        there =
            record {
              keys_left = ks;
              val_ends_left = ves;
              vals_left = vm.rest;
              time_ends_left = tm.rest;
              times_left = times_more.rest;
              diff_ends_left = diff_ends_more.rest;
              diffs_left = diffs-on (diff_body w) d e (f ∷ fs) here.diffs_left;
              val_end_is = ve;
              time_end_is = refl;
              diff_end_is = refl;
            };
      }

  -- in the same key: v stands in its list
  in_key_lem : same_list e f ≡ false → same_key e f ≡ true → Next w p (used e d) f fs
  unfolding to_key
  in_key_lem h k =
      let o : p.val_end ≡ head (ends_of same_key (suc p.v) (lasts_of same_list (f ∷ fs))) = here.val_end_is ∙ ap head (val_ends_same p.v e f fs h k) in
      let i : suc p.v < p.val_end = rw o (val_end_after (suc p.v) f fs) in
      other_list h p.k p.val_end
      (stays (key_loop (val_end_body w)) (val_on (time_on p)) (lt-ltb _ _ i))
      (here.keys_left ∙ ap (map (λ (x : Entry). x.key)) (lasts_same same_key e f fs k))
      (here.val_ends_left ∙ val_ends_same p.v e f fs h k)
      o

  -- in another key, which is the next
  other_key : same_list e f ≡ false → same_key e f ≡ false → Next w p (used e d) f fs
  unfolding to_key
  other_key h k =
      let ve : ℕ = head (ends_of same_key (suc p.v) (lasts_of same_list (f ∷ fs))) in
      let on : suc p.v < ve = val_end_after (suc p.v) f fs in
      let o : p.val_end ≡ suc p.v = here.val_end_is ∙ ap head (val_ends_other p.v e f fs h k) in
      let m : More (val_end_body w) p.k (ends_of same_key (suc p.v) (lasts_of same_list (f ∷ fs))) = more (val_end_body w) p.k (suc p.v) _ (here.val_ends_left ∙ val_ends_other p.v e f fs h k) in
      let u : Place = val_on (time_on p) in
      let r : Place = at_key u (suc p.k) ve in
      let n : next_key (val_end_body w) u ≡ moved r = rw (lt-ltb (suc p.k) (length (val_end_body w)) (read_left (val_end_body w) (suc p.k) _ m.rest (omega arith)), first_left (val_end_body w) (suc p.k) _ m.rest) in
      other_list h (suc p.k) ve
      (turned (key_loop (val_end_body w)) u r (le-ltb (suc p.v) p.val_end (omega arith)) n ∙ stays (key_loop (val_end_body w)) r (lt-ltb _ _ on))
      (more (key_body w) p.k e.key _ (here.keys_left ∙ ap (map (λ (x : Entry). x.key)) (lasts_other same_key e f fs k))).rest
      m.rest
      refl

  pub next : Next w p (used e d) f fs
  next = by_test (same_list e f) in_list (λ h. by_test (same_key e f) (in_key_lem h) (other_key h))

-- an item of a body
pub record Item (l : List ℕ) (i a : ℕ) : Type 0 where
  pub within : i < length l
  pub is : get_or l i 0 ≡ a

item : (l : List ℕ) (i a : ℕ) (x : List ℕ) → drop i l ≡ a ∷ x → Item l i a
item l i a x e = record { within = (more l i a x e).within; is = first_left l i (a ∷ x) e }

-- the first entry that is left stands at the indices
module _ (w : List ℕ) (p : Place) (d : ℕ) (e : Entry) (es : List Entry) (here : At w p d e es) where
  pub key-item : Item (key_body w) p.k e.key
  key-item =
      let r = leads_key e es in
      let k : e.key ≡ r.lead.key = eqb-true _ _ r.like in
      rw k (item (key_body w) p.k r.lead.key _ (here.keys_left ∙ ap (map (λ (x : Entry). x.key)) r.is))

  pub val-item : Item (val_body w) p.v e.val
  val-item =
      let r = leads_list e es in
      let k : e.val ≡ r.lead.val = eqb-true _ _ (and_right (eqb e.key r.lead.key) _ r.like) in
      rw k (item (val_body w) p.v r.lead.val _ (here.vals_left ∙ ap (map (λ (x : Entry). x.val)) r.is))

  pub time-item : Item (time_body w) p.t e.time
  time-item = item (time_body w) p.t e.time _ here.times_left

  pub diff-item : stands e ≡ true → Item (diff_body w) d e.diff
  unfolding keep
  diff-item s = item (diff_body w) d e.diff (diffs es) (rw s at here.diffs_left)

  -- the same entries are left whatever the diff's index
  pub whatever_d : At w (diff_on p) d e es
  whatever_d =
      record {
        keys_left = here.keys_left;
        val_ends_left = here.val_ends_left;
        vals_left = here.vals_left;
        time_ends_left = here.time_ends_left;
        times_left = here.times_left;
        diff_ends_left = here.diff_ends_left;
        diffs_left = here.diffs_left;
        val_end_is = here.val_end_is;
        time_end_is = here.time_end_is;
        diff_end_is = here.diff_end_is;
      }
