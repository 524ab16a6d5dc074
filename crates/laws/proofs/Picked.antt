-- The bodies of the entries that are picked, from the bodies of all, layer by layer.
use Prim.Native.Nat.{ℕ, zero, suc, ◌+◌, ◌-◌, ◌<◌}
use mathlib.Core.Path.{◌≡◌, refl, sym, ◌∙◌, ap}
use mathlib.Core.Bool.{Bool, true, false, cond, ◌&&◌, ◌||◌}
use mathlib.Core.List.{List, [], ◌∷◌, map}
use native.Mathlib.Omega.{arith}
use native.Mathlib.Nat.{add-zero}
use lib.Dec.{ltb, eqb}
use lib.ListN.{length, length-map, get_or, drop}
use lib.Seq.{get_or-drop, drop-drop}
use borrow.Author.Tests.{ltb-true, eqb-true, eqb-false, eq-eqb, ne_eqb}
use Rattle.chunk.specs.Entry.{Entry, every, rising, before, same_list, stands, keep}
use Rattle.chunk.specs.Bodies.{lasts_of, ends_of, same_key, keys, vals, val_ends, time_ends, diff_ends_from}
use Rattle.chunk.specs.Contents.{start_of}
use Rattle.laws.proofs.Tests.{by_test, and_left, and_right, and_both, true-not-false}
use Rattle.laws.proofs.Order.{rising_all, rising_tail, all_rising}
use Rattle.laws.specs.Picked.{count_kept, pick, count_up, nodes, item_of, end_of, list_kept}
use Rattle.laws.proofs.Closings.{Groups, closings, closings_lasts, closings-ends, grouped}

-- ---- the two samenesses

-- a list's place: its key and value alone
abbrev place : Entry → Entry
place e = record { key = e.key; val = e.val; time = 0; diff = 0 }

same_list_lem : (a b : Entry) → same_list a b ≡ true → (a.key ≡ b.key) × (a.val ≡ b.val)
same_list_lem a b h = (eqb-true _ _ (and_left _ _ h), eqb-true _ _ (and_right (eqb a.key b.key) _ h))

-- where a list stands to a later one
data Later (a b : Entry) : Type 0 where
  by_key : a.key < b.key → Later a b
  by_val : a.key ≡ b.key → a.val < b.val → Later a b
  by_time : a.key ≡ b.key → a.val ≡ b.val → Later a b

later : (a b : Entry) → before a b ≡ true → Later a b
later a b h =
    by_test (ltb a.key b.key) (λ k. by_key (ltb-true _ _ k)) λ k.
    let h1 : (eqb a.key b.key && (ltb a.val b.val || (eqb a.val b.val && ltb a.time b.time))) ≡ true = simp k at h in
    let e : a.key ≡ b.key = eqb-true _ _ (and_left _ _ h1) in
    let h2 : (ltb a.val b.val || (eqb a.val b.val && ltb a.time b.time)) ≡ true = and_right (eqb a.key b.key) _ h1 in
    by_test (ltb a.val b.val) (λ v. by_val e (ltb-true _ _ v)) λ v.
    let h3 : (eqb a.val b.val && ltb a.time b.time) ≡ true = simp v at h2 in
    by_time e (eqb-true _ _ (and_left _ _ h3))

apart_list : (a b x : Entry) → before a b ≡ true → before b x ≡ true → same_list a b ≡ false → same_list a x ≡ false
apart_list a b x h k n = by_test (same_list a x) (λ t. absurd (clash (later a b h) (later b x k) (same_list_lem a x t))) (λ t. t)
  where
    differ : (a.key ≡ b.key) → (a.val ≡ b.val) → ⊥
    differ p q = true-not-false (sym (and_both _ _ (eq-eqb _ _ p) (eq-eqb _ _ q)) ∙ n)

    clash : Later a b → Later b x → (a.key ≡ x.key) × (a.val ≡ x.val) → ⊥
    clash (by_key p) (by_key q) s = omega arith
    clash (by_key p) (by_val q r) s = omega arith
    clash (by_key p) (by_time q r) s = omega arith
    clash (by_val p u) (by_key q) s = omega arith
    clash (by_val p u) (by_val q r) s = omega arith
    clash (by_val p u) (by_time q r) s = omega arith
    clash (by_time p u) q s = differ p u

apart-key : (a b x : Entry) → before a b ≡ true → before b x ≡ true → same_key a b ≡ false → same_key a x ≡ false
apart-key a b x h k n = ne_eqb _ _ (λ t. clash (later a b h) (later b x k) t)
  where
    differ : (a.key ≡ b.key) → ⊥
    differ p = eqb-false _ _ n p

    clash : Later a b → Later b x → (a.key ≡ x.key) → ⊥
    clash (by_key p) (by_key q) s = omega arith
    clash (by_key p) (by_val q r) s = omega arith
    clash (by_key p) (by_time q r) s = omega arith
    clash (by_val p u) q s = differ p
    clash (by_time p u) q s = differ p

-- what a list's entries have in common
list_groups : {A : Type 0} (f : Entry → A) → ((p a : Entry) → same_list p a ≡ true → f p ≡ f a) → Groups same_list f
list_groups f keeps =
    record {
      itself = λ a. and_both _ _ (eq-eqb a.key _ refl) (eq-eqb a.val _ refl);
      alike = λ p a x h. let s = same_list_lem p a h in simp (s.0, s.1);
      kept = keeps;
      apart = apart_list;
    }

key_groups : Groups same_key (λ (e : Entry). e.key)
key_groups =
    record {
      itself = λ a. eq-eqb a.key _ refl;
      alike = λ p a x h. simp (eqb-true p.key a.key h);
      kept = λ p a h. eqb-true _ _ h;
      apart = apart-key;
    }

-- ---- lasts

-- a list of lists closes where its lists do
first_last : (b : Entry) (es : List Entry) (x : Entry) (l : List Entry) → lasts_of same_list (b ∷ es) ≡ x ∷ l → b.key ≡ x.key
unfolding lasts_of
first_last b [] x l h = cc
first_last b (d ∷ es) x l h =
    by_test (same_list b d)
    (λ k. (same_list_lem b d k).0 ∙ first_last d es x l (simp k at h))
    (λ k. let g : b ∷ lasts_of same_list (d ∷ es) ≡ x ∷ l = simp k at h in cc)

lasts_some : (b : Entry) (es : List Entry) → (x : Entry) × (l : List Entry) × (lasts_of same_list (b ∷ es) ≡ x ∷ l)
unfolding lasts_of
lasts_some b [] = (b, [], refl)
lasts_some b (d ∷ es) =
    by_test (same_list b d)
    (λ k. let r = lasts_some d es in (r.0, r.1, simp k r.2))
    (λ k. (b, lasts_of same_list (d ∷ es), simp k))

pub lasts_lasts : (es : List Entry) → lasts_of same_key (lasts_of same_list es) ≡ lasts_of same_key es
unfolding lasts_of
lasts_lasts [] = refl
lasts_lasts (a ∷ []) = refl
lasts_lasts (a ∷ b ∷ es) =
    let ih : lasts_of same_key (lasts_of same_list (b ∷ es)) ≡ lasts_of same_key (b ∷ es) = lasts_lasts (b ∷ es) in
    by_test (same_list a b)
    (λ k. let s : same_key a b ≡ true = and_left _ _ k in
    let v : eqb a.val b.val ≡ true = and_right (same_key a b) _ k in
    simp (s, v) ih)
    (λ k. let r = lasts_some b es in
    let e : b.key ≡ r.0.key = first_last b es r.0 r.1 r.2 in
    let q : lasts_of same_key (r.0 ∷ r.1) ≡ lasts_of same_key (b ∷ es) = simp r.2 at ih in
    simp k (simp (r.2, e) (ap (λ (l : List Entry). cond (same_key a r.0) l (a ∷ l)) q)))

-- in a sublist every entry passes that passes in the list
every_lasts : (same : Entry → Entry → Bool) (q : Entry → Bool) (es : List Entry) → every q es ≡ true → every q (lasts_of same es) ≡ true
unfolding every lasts_of
every_lasts same q [] h = refl
every_lasts same q (a ∷ []) h = h
every_lasts same q (a ∷ b ∷ es) h =
    let t : every q (lasts_of same (b ∷ es)) ≡ true = every_lasts same q (b ∷ es) (and_right (q a) _ h) in
    by_test (same a b) (λ k. simp k t) (λ k. simp k (and_both (q a) _ (and_left _ _ h) t))

pub lasts_rising : (same : Entry → Entry → Bool) (es : List Entry) → rising es ≡ true → rising (lasts_of same es) ≡ true
unfolding rising lasts_of
lasts_rising same [] h = refl
lasts_rising same (a ∷ []) h = refl
lasts_rising same (a ∷ b ∷ es) h =
    let t : rising (lasts_of same (b ∷ es)) ≡ true = lasts_rising same (b ∷ es) (rising_tail a (b ∷ es) h) in
    by_test (same a b) (λ k. simp k t)
    (λ k. simp k (all_rising a (lasts_of same (b ∷ es)) (every_lasts same (before a) (b ∷ es) (rising_all a (b ∷ es) h)) t))

-- what closes by the key goes by the entries' places
closings_places : {B : Type 0} (h : Entry → ℕ → B) → ((a : Entry) (n : ℕ) → h (place a) n ≡ h a n) → (n : ℕ) (es : List Entry)
    → closings same_key h n (map place es) ≡ closings same_key h n es
unfolding closings
closings_places h q n [] = refl
closings_places h q n (a ∷ []) = simp (q a (suc n))
closings_places h q n (a ∷ b ∷ es) =
    let ih : closings same_key h (suc n) (map place (b ∷ es)) ≡ closings same_key h (suc n) (b ∷ es) = closings_places h q (suc n) (b ∷ es) in
    simp (q a (suc n), ih)

pub pick-map : {A B : Type 0} (f : A → B) (m : ℕ → Bool) (i : ℕ) (l : List A) → map f (pick m i l) ≡ pick m i (map f l)
unfolding pick
pick-map f m i [] = refl
pick-map f m i (a ∷ l) = by_test (m i) (λ k. simp (k, pick-map f m (suc i) l)) (λ k. simp (k, pick-map f m (suc i) l))

-- as many lists end as there are last entries
ends_lasts : (same : Entry → Entry → Bool) (n : ℕ) (es : List Entry) → length (lasts_of same es) ≡ length (ends_of same n es)
unfolding lasts_of ends_of
ends_lasts same n [] = refl
ends_lasts same n (a ∷ []) = refl
ends_lasts same n (a ∷ b ∷ es) =
    by_test (same a b) (λ k. simp (k, ends_lasts same (suc n) (b ∷ es))) (λ k. simp (k, ends_lasts same (suc n) (b ∷ es)))

-- ---- by index

-- the items of the nodes are the items whose list has one that passes
pub nodes-pick : {A : Type 0} (m : ℕ → Bool) (all : List ℕ) (xs : List A) (ends : List ℕ) (i c j : ℕ)
    → drop j all ≡ ends → start_of all j ≡ i → length xs ≡ length ends → nodes m item_of i c xs ends ≡ pick (list_kept m all) j xs
unfolding nodes pick list_kept
nodes-pick m all [] ends i c j d s n = refl
nodes-pick m all (x ∷ xs) [] i c j d s n = absurd (omega arith)
nodes-pick m all (x ∷ xs) (e ∷ ends) i c j d s n =
    let g : get_or all j 0 ≡ e = ap (λ (k : ℕ). get_or all k 0) (sym (add-zero j)) ∙ sym (get_or-drop j all 0 0) ∙ ap (λ (l : List ℕ). get_or l 0 0) d in
    let q : suc j ≡ j + 1 = omega arith in
    let t : drop (suc j) all ≡ ends = ap (λ (k : ℕ). drop k all) q ∙ sym (drop-drop 1 j all) ∙ ap (λ (l : List ℕ). drop 1 l) d in
    let k : ℕ = count_kept m i (e - i) in
    let ih : nodes m item_of e (c + k) xs ends ≡ pick (list_kept m all) (suc j) xs = nodes-pick m all xs ends e (c + k) (suc j) t g (omega arith) in
    simp (g, s, ih)

-- ---- the bodies of what is picked

module _ (m : ℕ → Bool) (es : List Entry) (u : rising es ≡ true) where
  abbrev picked : List Entry
  picked = pick m 0 es

  -- whether a value has a time that is kept
  abbrev value_kept : ℕ → Bool
  value_kept = list_kept m (time_ends es)

  pub picked-vals : vals picked ≡ nodes m item_of 0 0 (vals es) (time_ends es)
  picked-vals =
      sym (closings_lasts same_list (λ (e : Entry). e.val) 0 picked)
      ∙ sym (grouped same_list (λ (e : Entry). e.val) (list_groups _ (λ p a h. (same_list_lem p a h).1)) item_of m es u)
      ∙ simp (closings_lasts same_list (λ (e : Entry). e.val) 0 es, closings-ends same_list 0 es)

  pub picked-time_ends : time_ends picked ≡ nodes m end_of 0 0 (vals es) (time_ends es)
  picked-time_ends =
      sym (closings-ends same_list 0 picked)
      ∙ sym (grouped same_list (λ (e : Entry). e.val) (list_groups _ (λ p a h. (same_list_lem p a h).1)) end_of m es u)
      ∙ simp (closings_lasts same_list (λ (e : Entry). e.val) 0 es, closings-ends same_list 0 es)

  -- the values' places, for the layer above
  places_picked : map place (pick value_kept 0 (lasts_of same_list es)) ≡ map place (lasts_of same_list picked)
  places_picked =
      pick-map place value_kept 0 (lasts_of same_list es)
      ∙ sym (nodes-pick m (time_ends es) (map place (lasts_of same_list es)) (time_ends es) 0 0 0 refl refl (length-map (lasts_of same_list es) place ∙ ends_lasts same_list 0 es))
      ∙ simp (sym (closings_lasts same_list place 0 es), sym (closings-ends same_list 0 es))
      (grouped same_list place (list_groups place (λ p a h. let s = same_list_lem p a h in simp (s.0, s.1))) item_of m es u)
      ∙ closings_lasts same_list place 0 picked

  -- what closes by the key, of the values that are kept and of the values of what is picked
  by_places : {B : Type 0} (h : Entry → ℕ → B) → ((a : Entry) (n : ℕ) → h (place a) n ≡ h a n)
      → closings same_key h 0 (pick value_kept 0 (lasts_of same_list es)) ≡ closings same_key h 0 (lasts_of same_list picked)
  by_places h q =
      sym (closings_places h q 0 (pick value_kept 0 (lasts_of same_list es)))
      ∙ ap (closings same_key h 0) places_picked
      ∙ closings_places h q 0 (lasts_of same_list picked)

  -- the key layer, for whatever is asked of a key and its end
  by_keys : {B : Type 0} (g : ℕ → ℕ → B)
      → nodes value_kept g 0 0 (keys es) (val_ends es) ≡ closings same_key (λ (e : Entry) (n : ℕ). g e.key n) 0 (lasts_of same_list picked)
  by_keys g =
      simp (sym (lasts_lasts es), sym (closings_lasts same_key (λ (e : Entry). e.key) 0 (lasts_of same_list es)), sym (closings-ends same_key 0 (lasts_of same_list es)))
      (grouped same_key (λ (e : Entry). e.key) key_groups g value_kept (lasts_of same_list es) (lasts_rising same_list es u))
      ∙ by_places (λ (e : Entry) (n : ℕ). g e.key n) (λ a n. refl)

  pub picked-keys : keys picked ≡ nodes value_kept item_of 0 0 (keys es) (val_ends es)
  picked-keys =
      ap (map (λ (e : Entry). e.key)) (sym (lasts_lasts picked))
      ∙ sym (closings_lasts same_key (λ (e : Entry). e.key) 0 (lasts_of same_list picked))
      ∙ sym (by_keys item_of)

  pub picked-val_ends : val_ends picked ≡ nodes value_kept end_of 0 0 (keys es) (val_ends es)
  picked-val_ends = sym (closings-ends same_key 0 (lasts_of same_list picked)) ∙ sym (by_keys end_of)

-- ---- entries that all stand

-- where every entry stands the diff ends count up
pub diff_ends_up : (n : ℕ) (es : List Entry) → every stands es ≡ true → diff_ends_from n es ≡ count_up n (length es)
unfolding diff_ends_from every count_up
diff_ends_up n [] h = refl
diff_ends_up n (e ∷ es) h = simp (and_left (stands e) _ h, diff_ends_up (suc n) es (and_right (stands e) _ h))

pub keep_all : (p : Entry → Bool) (es : List Entry) → every p es ≡ true → keep p es ≡ es
unfolding keep every
keep_all p [] h = refl
keep_all p (e ∷ es) h = simp (and_left (p e) _ h, keep_all p es (and_right (p e) _ h))

-- the numbers after n, one by one
pub length-count_up : (n k : ℕ) → length (count_up n k) ≡ k
unfolding count_up
length-count_up n zero = refl
length-count_up n (suc k) = ap suc (length-count_up (suc n) k)

pub get_or-count_up : (n k j : ℕ) → j < k → get_or (count_up n k) j 0 ≡ suc (n + j)
unfolding count_up
get_or-count_up n zero j h = absurd (omega arith)
get_or-count_up n (suc k) zero h = let e : n ≡ n + 0 = omega arith in ap suc e
get_or-count_up n (suc k) (suc j) h = let e : suc n + j ≡ n + suc j = omega arith in get_or-count_up (suc n) k j (omega arith) ∙ ap suc e
