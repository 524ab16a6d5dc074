-- The seven bodies of a tree's entries are the tree's own: firsts of each layer, ends of each list, and the diffs.
use Prim.Native.Nat.{ℕ, suc, ◌+◌, ◌<◌}
use mathlib.Core.Path.{◌≡◌, refl, sym, ap, ◌∙◌}
use mathlib.Core.Bool.{Bool, true, false, ◌&&◌, not, cond}
use mathlib.Core.List.{List, [], ◌∷◌, ◌++◌, map, flatten, flat_map, map-append, map-map}
use native.Mathlib.Omega.{arith}
use lib.Dec.{eqb, ltb}
use lib.ListN.{length, length-map}
use borrow.Author.Tests.{eqb-true, eq-eqb, ne_eqb, ltb-true, not-true}
use Rattle.chunk.specs.Entry.{Entry, same_list, keep, every}
use Rattle.chunk.specs.Bodies.{lasts_of, ends_of, same_key, keys, vals, times, diffs, val_ends, time_ends, diff_ends, diff_ends_from}
use Rattle.chunk.specs.Words.{rises, head_or_0}
use Rattle.laws.proofs.Tests.{by_test, and_left, and_right, and_both, true-not-false}
use Rattle.laws.proofs.Lists.{full, firsts, seconds, every_imp, every_both, every_of, every_append, every_map, every-flatten, flatten-append, full-map, flat_map-flatten}
use Rattle.laws.proofs.Cuts.{sums, ends_at, short}
use Rattle.laws.proofs.Groups.{Grouped, none, more, unlike, last, last-every, alike-key, alike_list, grouped_lasts, grouped_ends}
use Rattle.laws.proofs.Tries.{Timed, Valued, Keyed, entry_at, flat_val, flat_vals, flat_key, flat, ok_time, ok_val, ok_key, ok, rises_tail, firsts_all, every-key, every_keys}

-- the seven bodies of a chunk, whatever they were read from
pub record Seven : Type 0 where
  pub key_list : List ℕ
  pub val_end_list : List ℕ
  pub val_list : List ℕ
  pub time_end_list : List ℕ
  pub time_list : List ℕ
  pub diff_end_list : List ℕ
  pub diff_list : List ℕ

-- the values, and the times, of a tree
abbrev pub valued_of : List Keyed → List Valued
valued_of ks = flatten (seconds ks)

abbrev pub timed_of : List Keyed → List Timed
timed_of ks = flatten (seconds (valued_of ks))

abbrev pub of_entries : List Entry → Seven
of_entries es =
    record {
      key_list = keys es;
      val_end_list = val_ends es;
      val_list = vals es;
      time_end_list = time_ends es;
      time_list = times es;
      diff_end_list = diff_ends es;
      diff_list = diffs es;
    }

abbrev pub of_trie : List Keyed → Seven
of_trie ks =
    record {
      key_list = firsts ks;
      val_end_list = ends_at 0 (seconds ks);
      val_list = firsts (valued_of ks);
      time_end_list = ends_at 0 (seconds (valued_of ks));
      time_list = firsts (timed_of ks);
      diff_end_list = ends_at 0 (seconds (timed_of ks));
      diff_list = flatten (seconds (timed_of ks));
    }

-- ---- times and diffs: an entry is a time with a diff list of none or one

abbrev pub cell : ℕ → List ℕ
cell d = cond (eqb d 0) [] (d ∷ [])

abbrev pub leaf : Entry → Timed
leaf e = (e.time, cell e.diff)

cell_head : (ds : List ℕ) → short ds ≡ true → cell (head_or_0 ds) ≡ ds
unfolding head_or_0
cell_head [] h = refl
cell_head (d ∷ []) h = let e : eqb d 0 ≡ false = not-true _ h in rw e
cell_head (d ∷ c ∷ ds) h = absurd (true-not-false (sym h))

leaf-val : (k v : ℕ) (ts : List Timed) → every ok_time ts ≡ true → map leaf (map (entry_at k v) ts) ≡ ts
unfolding every
leaf-val k v [] o = refl
leaf-val k v (t ∷ ts) o =
    let c : cell (head_or_0 t.1) ≡ t.1 = cell_head t.1 (and_left _ _ o) in
    let r : map leaf (map (entry_at k v) ts) ≡ ts = leaf-val k v ts (and_right (ok_time t) _ o) in
    λ i. (t.0, c i) ∷ r i

leaf-vals : (k : ℕ) (vs : List Valued) → every ok_val vs ≡ true → map leaf (flat_vals k vs) ≡ flatten (seconds vs)
unfolding every flat_map flatten
leaf-vals k [] o = refl
leaf-vals k (v ∷ vs) o =
    let ov : ok_val v ≡ true = and_left _ _ o in
    let ot : every ok_time v.1 ≡ true = and_right (rises (firsts v.1)) _ (and_right (full v.1) _ ov) in
    map-append leaf (flat_val k v) (flat_vals k vs)
    ∙ (λ i. leaf-val k v.0 v.1 ot i ++ leaf-vals k vs (and_right (ok_val v) _ o) i)

leaves : (ks : List Keyed) → every ok_key ks ≡ true → map leaf (flat ks) ≡ timed_of ks
unfolding every flat_map flatten
leaves [] o = refl
leaves (k ∷ ks) o =
    let ok : ok_key k ≡ true = and_left _ _ o in
    let ov : every ok_val k.1 ≡ true = and_right (rises (firsts k.1)) _ (and_right (full k.1) _ ok) in
    map-append leaf (flat_key k) (flat ks)
    ∙ (λ i. leaf-vals k.0 k.1 ov i ++ leaves ks (and_right (ok_key k) _ o) i)
    ∙ sym (ap flatten (map-append (λ (p : Valued). p.1) k.1 (valued_of ks)) ∙ flatten-append (seconds k.1) (seconds (valued_of ks)))

times-leaves : (es : List Entry) → times es ≡ firsts (map leaf es)
times-leaves [] = refl
times-leaves (e ∷ es) = ap (λ (l : List ℕ). e.time ∷ l) (times-leaves es)

diffs-leaves : (es : List Entry) → diffs es ≡ flatten (seconds (map leaf es))
unfolding flatten keep
diffs-leaves [] = refl
diffs-leaves (e ∷ es) =
    by_test (eqb e.diff 0)
    (λ h. rw h (diffs-leaves es))
    (λ h. rw h (ap (λ (l : List ℕ). e.diff ∷ l) (diffs-leaves es)))

ends_leaves : (n : ℕ) (es : List Entry) → diff_ends_from n es ≡ ends_at n (seconds (map leaf es))
unfolding diff_ends_from sums
ends_leaves n [] = refl
ends_leaves n (e ∷ es) =
    by_test (eqb e.diff 0)
    (λ h. let m : n + 0 ≡ n = omega arith in rw (h, m) (ap (λ (l : List ℕ). n ∷ l) (ends_leaves n es)))
    (λ h. let m : n + 1 ≡ suc n = omega arith in rw (h, m) (ap (λ (l : List ℕ). suc n ∷ l) (ends_leaves (suc n) es)))

-- ---- values: the groups of one key and value

abbrev val_groups : List Keyed → List (List Entry)
val_groups ks = flat_map (λ (k : Keyed). map (flat_val k.0) k.1) ks

flatten_groups : (ks : List Keyed) → flatten (val_groups ks) ≡ flat ks
unfolding flatten flat_map
flatten_groups [] = refl
flatten_groups (k ∷ ks) =
    flatten-append (map (flat_val k.0) k.1) (val_groups ks)
    ∙ (λ i. sym (flat_map-flatten (flat_val k.0) k.1) i ++ flatten_groups ks i)

-- an entry that stands for a key and value
abbrev mark : ℕ → ℕ → Entry
mark k v = record { key = k; val = v; time = 0; diff = 0 }

pub eqb_below : (a b : ℕ) → ltb a b ≡ true → eqb a b ≡ false
eqb_below a b h = ne_eqb a b (λ e. let l : a < b = ltb-true _ _ h in omega arith)

vals_grouped : (k : ℕ) (vs : List Valued) (gs : List (List Entry)) → rises (firsts vs) ≡ true → every ok_val vs ≡ true
    → every (λ (e : Entry). ltb k e.key) (flatten gs) ≡ true → Grouped same_list gs → Grouped same_list (map (flat_val k) vs ++ gs)
unfolding every
vals_grouped k [] gs h o c r = r
vals_grouped k (v ∷ vs) gs h o c r =
    let x : Entry = mark k v.0 in
    let kk : eqb k k ≡ true = eq-eqb k k refl in
    let vv : eqb v.0 v.0 ≡ true = eq-eqb v.0 v.0 refl in
    let ov : ok_val v ≡ true = and_left _ _ o in
    more x (full-map (entry_at k v.0) v.1 ∙ and_left _ _ ov)
    (every_map (entry_at k v.0) (same_list x) v.1
    ∙ every_of (λ (t : Timed). same_list x (entry_at k v.0 t)) (λ t. simp (kk, vv)) v.1)
    (ap (every (unlike same_list x)) (flatten-append (map (flat_val k) vs) gs)
    ∙ every_append (unlike same_list x) (flatten (map (flat_val k) vs)) (flatten gs)
    ∙ and_both _ _
    (every-flatten (unlike same_list x) (map (flat_val k) vs)
    ∙ every_map (flat_val k) (every (unlike same_list x)) vs
    ∙ every_imp (λ (u : Valued). ltb v.0 u.0) (λ (u : Valued). every (unlike same_list x) (flat_val k u))
    (λ u q. every_map (entry_at k u.0) (unlike same_list x) u.1
    ∙ every_of (λ (t : Timed). unlike same_list x (entry_at k u.0 t)) (λ t. simp (kk, eqb_below v.0 u.0 q)) u.1)
    vs (firsts_all v vs h))
    (every_imp (λ (e : Entry). ltb k e.key) (unlike same_list x) (λ e q. simp (eqb_below k e.key q)) (flatten gs) c))
    (vals_grouped k vs gs (rises_tail v.0 (firsts vs) h) (and_right (ok_val v) _ o) c r)

tree_grouped : (ks : List Keyed) → ok ks ≡ true → Grouped same_list (val_groups ks)
unfolding every flat_map
tree_grouped [] o = none
tree_grouped (k ∷ ks) o =
    let r : rises (firsts (k ∷ ks)) ≡ true = and_left _ _ o in
    let e : (ok_key k && every ok_key ks) ≡ true = and_right (rises (firsts (k ∷ ks))) _ o in
    let ov : (rises (firsts k.1) && every ok_val k.1) ≡ true = and_right (full k.1) _ (and_left (ok_key k) _ e) in
    vals_grouped k.0 k.1 (val_groups ks) (and_left _ _ ov) (and_right (rises (firsts k.1)) _ ov)
    (ap (every (λ (e : Entry). ltb k.0 e.key)) (flatten_groups ks) ∙ every_keys (ltb k.0) ks (firsts_all k ks r))
    (tree_grouped ks (and_both _ _ (rises_tail k.0 (firsts ks) r) (and_right (ok_key k) _ e)))

-- ---- keys: the groups of one key, of all entries or of one of each value

keys_grouped : (f : Keyed → List Entry) → ((k : Keyed) → ok_key k ≡ true → full (f k) ≡ true)
    → ((k : Keyed) (p : ℕ → Bool) → ok_key k ≡ true → p k.0 ≡ true → every (λ (e : Entry). p e.key) (f k) ≡ true)
    → (ks : List Keyed) → ok ks ≡ true → Grouped same_key (map f ks)
unfolding every
keys_grouped f fulls all [] o = none
keys_grouped f fulls all (k ∷ ks) o =
    let r : rises (firsts (k ∷ ks)) ≡ true = and_left _ _ o in
    let e : (ok_key k && every ok_key ks) ≡ true = and_right (rises (firsts (k ∷ ks))) _ o in
    let x : Entry = mark k.0 0 in
    more x (fulls k (and_left _ _ e)) (all k (eqb k.0) (and_left _ _ e) (eq-eqb k.0 k.0 refl))
    (every-flatten (unlike same_key x) (map f ks)
    ∙ every_map f (every (unlike same_key x)) ks
    ∙ every_both ok_key (λ (j : Keyed). ltb k.0 j.0) (λ (j : Keyed). every (unlike same_key x) (f j))
    (λ j q l. all j (λ (n : ℕ). not (eqb k.0 n)) q (simp (eqb_below k.0 j.0 l)))
    ks (and_right (ok_key k) _ e) (firsts_all k ks r))
    (keys_grouped f fulls all ks (and_both _ _ (rises_tail k.0 (firsts ks) r) (and_right (ok_key k) _ e)))

full-append : (xs ys : List Entry) → full xs ≡ true → full (xs ++ ys) ≡ true
full-append [] ys h = absurd (true-not-false (sym h))
full-append (x ∷ xs) ys h = refl

pub full-key : (k : ℕ) (vs : List Valued) → full vs ≡ true → every ok_val vs ≡ true → full (flat_vals k vs) ≡ true
unfolding every flat_map
full-key k [] h o = absurd (true-not-false (sym h))
full-key k (v ∷ vs) h o =
    full-append (flat_val k v) (flat_vals k vs) (full-map (entry_at k v.0) v.1 ∙ and_left _ _ (and_left (ok_val v) _ o))

-- the parts of `ok_key`
pub vals-ok : (k : Keyed) → ok_key k ≡ true → every ok_val k.1 ≡ true
vals-ok k o = and_right (rises (firsts k.1)) _ (and_right (full k.1) _ o)

key_grouped : (ks : List Keyed) → ok ks ≡ true → Grouped same_key (map flat_key ks)
key_grouped ks o =
    keys_grouped flat_key (λ k q. full-key k.0 k.1 (and_left _ _ q) (vals-ok k q)) (λ k p q h. every-key p k.0 k.1 h) ks o

-- the last entry of each value of a key
abbrev lasts_key : Keyed → List Entry
lasts_key k = map (λ (v : Valued). last (flat_val k.0 v)) k.1

last_grouped : (ks : List Keyed) → ok ks ≡ true → Grouped same_key (map lasts_key ks)
last_grouped ks o =
    keys_grouped lasts_key (λ k q. full-map (λ (v : Valued). last (flat_val k.0 v)) k.1 ∙ and_left _ _ q)
    (λ k p q h. every_map (λ (v : Valued). last (flat_val k.0 v)) (λ (e : Entry). p e.key) k.1
    ∙ every_imp ok_val (λ (v : Valued). p (last (flat_val k.0 v)).key)
    (λ v r. last-every (λ (e : Entry). p e.key) (flat_val k.0 v)
    (full-map (entry_at k.0 v.0) v.1 ∙ and_left _ _ r)
    (every_map (entry_at k.0 v.0) (λ (e : Entry). p e.key) v.1 ∙ every_of (λ (t : Timed). p k.0) (λ t. h) v.1))
    k.1 (vals-ok k q))
    ks o

-- ---- lasts and lengths of the groups

key_lasts : (ks : List Keyed) → every ok_key ks ≡ true → map (λ (e : Entry). e.key) (map last (map flat_key ks)) ≡ firsts ks
unfolding every
key_lasts [] o = refl
key_lasts (k ∷ ks) o =
    let q : ok_key k ≡ true = and_left _ _ o in
    let e : k.0 ≡ (last (flat_key k)).key =
    eqb-true _ _
    (last-every (λ (e : Entry). eqb k.0 e.key) (flat_key k) (full-key k.0 k.1 (and_left _ _ q) (vals-ok k q))
    (every-key (eqb k.0) k.0 k.1 (eq-eqb k.0 k.0 refl))) in
    λ i. sym e i ∷ key_lasts ks (and_right (ok_key k) _ o) i

val-lasts_key : (k : ℕ) (vs : List Valued) → every ok_val vs ≡ true → map (λ (e : Entry). e.val) (map last (map (flat_val k) vs)) ≡ firsts vs
unfolding every
val-lasts_key k [] o = refl
val-lasts_key k (v ∷ vs) o =
    let e : v.0 ≡ (last (flat_val k v)).val =
    eqb-true _ _
    (last-every (λ (e : Entry). eqb v.0 e.val) (flat_val k v)
    (full-map (entry_at k v.0) v.1 ∙ and_left _ _ (and_left (ok_val v) _ o))
    (every_map (entry_at k v.0) (λ (e : Entry). eqb v.0 e.val) v.1
    ∙ every_of (λ (t : Timed). eqb v.0 v.0) (λ t. eq-eqb v.0 v.0 refl) v.1)) in
    λ i. sym e i ∷ val-lasts_key k vs (and_right (ok_val v) _ o) i

val_lasts : (ks : List Keyed) → every ok_key ks ≡ true → map (λ (e : Entry). e.val) (map last (val_groups ks)) ≡ firsts (valued_of ks)
unfolding every flat_map flatten
val_lasts [] o = refl
val_lasts (k ∷ ks) o =
    ap (map (λ (e : Entry). e.val)) (map-append last (map (flat_val k.0) k.1) (val_groups ks))
    ∙ map-append (λ (e : Entry). e.val) (map last (map (flat_val k.0) k.1)) (map last (val_groups ks))
    ∙ (λ i. val-lasts_key k.0 k.1 (vals-ok k (and_left _ _ o)) i ++ val_lasts ks (and_right (ok_key k) _ o) i)
    ∙ sym (map-append (λ (p : Valued). p.0) k.1 (valued_of ks))

flatten_lasts : (ks : List Keyed) → flatten (map lasts_key ks) ≡ map last (val_groups ks)
unfolding flat_map flatten
flatten_lasts [] = refl
flatten_lasts (k ∷ ks) =
    (λ i. sym (map-map last (flat_val k.0) k.1) i ++ flatten_lasts ks i)
    ∙ sym (map-append last (map (flat_val k.0) k.1) (val_groups ks))

lengths_lasts : (ks : List Keyed) → map length (map lasts_key ks) ≡ map length (seconds ks)
lengths_lasts [] = refl
lengths_lasts (k ∷ ks) = λ i. length-map k.1 (λ (v : Valued). last (flat_val k.0 v)) i ∷ lengths_lasts ks i

lengths_key : (k : ℕ) (vs : List Valued) → map length (map (flat_val k) vs) ≡ map length (seconds vs)
lengths_key k [] = refl
lengths_key k (v ∷ vs) = λ i. length-map v.1 (entry_at k v.0) i ∷ lengths_key k vs i

lengths_vals : (ks : List Keyed) → map length (val_groups ks) ≡ map length (seconds (valued_of ks))
unfolding flat_map flatten
lengths_vals [] = refl
lengths_vals (k ∷ ks) =
    map-append length (map (flat_val k.0) k.1) (val_groups ks)
    ∙ (λ i. lengths_key k.0 k.1 i ++ lengths_vals ks i)
    ∙ sym (ap (map length) (map-append (λ (p : Valued). p.1) k.1 (valued_of ks)) ∙ map-append length (seconds k.1) (seconds (valued_of ks)))

-- ---- the bodies, one by one

module _ (ks : List Keyed) (o : ok ks ≡ true) where
  keys-ok : every ok_key ks ≡ true
  keys-ok = and_right (rises (firsts ks)) _ o

  lasts_keys : lasts_of same_key (flat ks) ≡ map last (map flat_key ks)
  lasts_keys = rw (flat_map-flatten flat_key ks) (grouped_lasts same_key alike-key (key_grouped ks o))

  lasts_vals : lasts_of same_list (flat ks) ≡ map last (val_groups ks)
  lasts_vals = rw (← (flatten_groups ks)) (grouped_lasts same_list alike_list (tree_grouped ks o))

  ends_times : time_ends (flat ks) ≡ ends_at 0 (val_groups ks)
  ends_times = rw (← (flatten_groups ks)) (grouped_ends same_list alike_list 0 (tree_grouped ks o))

  ends_vals : val_ends (flat ks) ≡ ends_at 0 (map lasts_key ks)
  ends_vals =
      ap (ends_of same_key 0) (lasts_vals ∙ sym (flatten_lasts ks)) ∙ grouped_ends same_key alike-key 0 (last_grouped ks o)

  body_keys : keys (flat ks) ≡ firsts ks
  body_keys = ap (map (λ (e : Entry). e.key)) lasts_keys ∙ key_lasts ks keys-ok

  body_val_ends : val_ends (flat ks) ≡ ends_at 0 (seconds ks)
  body_val_ends = ends_vals ∙ ap (sums 0) (lengths_lasts ks)

  body_vals : vals (flat ks) ≡ firsts (valued_of ks)
  body_vals = ap (map (λ (e : Entry). e.val)) lasts_vals ∙ val_lasts ks keys-ok

  body_time_ends : time_ends (flat ks) ≡ ends_at 0 (seconds (valued_of ks))
  body_time_ends = ends_times ∙ ap (sums 0) (lengths_vals ks)

  body_times : times (flat ks) ≡ firsts (timed_of ks)
  body_times = times-leaves (flat ks) ∙ ap {B = List ℕ} firsts (leaves ks keys-ok)

  body_diff_ends : diff_ends (flat ks) ≡ ends_at 0 (seconds (timed_of ks))
  body_diff_ends = ends_leaves 0 (flat ks) ∙ ap (λ (l : List Timed). ends_at 0 (seconds l)) (leaves ks keys-ok)

  body_diffs : diffs (flat ks) ≡ flatten (seconds (timed_of ks))
  body_diffs = diffs-leaves (flat ks) ∙ ap (λ (l : List Timed). flatten (seconds l)) (leaves ks keys-ok)

  -- all of them at once
  pub trie_bodies : of_entries (flat ks) ≡ of_trie ks
  trie_bodies =
      λ i. record {
        key_list = body_keys i;
        val_end_list = body_val_ends i;
        val_list = body_vals i;
        time_end_list = body_time_ends i;
        time_list = body_times i;
        diff_end_list = body_diff_ends i;
        diff_list = body_diffs i;
      }
