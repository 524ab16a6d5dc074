-- The times and diffs of the entries that are picked, by index from those of all.
use Prim.Native.Nat.{ℕ, suc, ◌+◌, ◌≤◌}
use mathlib.Core.Path.{◌≡◌, refl, sym, ◌∙◌, ap}
use mathlib.Core.Bool.{Bool, true, false, ◌&&◌}
use mathlib.Core.List.{List, [], ◌∷◌, map}
use native.Mathlib.Omega.{arith}
use native.Mathlib.Nat.{add-zero}
use lib.Dec.{ltb, eqb}
use lib.ListN.{length, get_or, drop}
use lib.Seq.{get_or-drop, drop-drop}
use borrow.Author.Tests.{lt-ltb, le-ltb, not-true}
use Rattle.chunk.specs.Entry.{Entry, every, stands, keep}
use Rattle.chunk.specs.Bodies.{diffs, diff_ends_from}
use Rattle.chunk.specs.Contents.{start_of}
use Rattle.laws.proofs.Tests.{by_test, and_left, and_both}
use Rattle.laws.specs.Picked.{count_kept, pick}
use Rattle.retain.specs.Layers.{pick_at, has_diff}

-- a list from one index on, and from the next
pub cut_head : (all : List ℕ) (j e : ℕ) (rest : List ℕ) → drop j all ≡ e ∷ rest → get_or all j 0 ≡ e
cut_head all j e rest d = ap (λ (k : ℕ). get_or all k 0) (sym (add-zero j)) ∙ sym (get_or-drop j all 0 0) ∙ ap (λ (l : List ℕ). get_or l 0 0) d

pub cut_tail : (all : List ℕ) (j e : ℕ) (rest : List ℕ) → drop j all ≡ e ∷ rest → drop (suc j) all ≡ rest
cut_tail all j e rest d =
    let q : suc j ≡ j + 1 = omega arith in
    ap (λ (k : ℕ). drop k all) q ∙ sym (drop-drop 1 j all) ∙ ap (λ (l : List ℕ). drop 1 l) d

-- what is picked by index is picked of the entries
pub pick_at_list : (m : ℕ → Bool) (all : List ℕ) (h : Entry → ℕ) (es : List Entry) (i : ℕ)
    → drop i all ≡ map h es → pick_at m (λ (t : ℕ). get_or all t 0) i (length es) ≡ map h (pick m i es)
unfolding pick_at pick
pick_at_list m all h [] i d = refl
pick_at_list m all h (e ∷ es) i d =
    let ih : pick_at m (λ (t : ℕ). get_or all t 0) (suc i) (length es) ≡ map h (pick m (suc i) es) = pick_at_list m all h es (suc i) (cut_tail all i (h e) (map h es) d) in
    by_test (m i) (λ k. simp (k, ih, cut_head all i (h e) (map h es) d)) (λ k. simp (k, ih))

pub length-pick : {A : Type 0} (m : ℕ → Bool) (i : ℕ) (es : List A) → length (pick m i es) ≡ count_kept m i (length es)
unfolding pick count_kept
length-pick m i [] = refl
length-pick m i (e ∷ es) = by_test (m i) (λ k. simp (k, length-pick m (suc i) es)) (λ k. simp (k, length-pick m (suc i) es))

ltb_self : (n : ℕ) → ltb n n ≡ false
ltb_self n = le-ltb n n (omega arith)

-- a time that is kept has a diff: an entry that is picked stands
module _ (leaf : ℕ → Bool) (all : List ℕ) where
  abbrev kept : ℕ → Bool
  kept t = has_diff all t && leaf t

  -- whether a time has a diff is whether its entry stands
  pub has_stands : (e : Entry) (es : List Entry) (i n : ℕ) → drop i all ≡ diff_ends_from n (e ∷ es) → start_of all i ≡ n → has_diff all i ≡ stands e
  unfolding diff_ends_from
  has_stands e es i n d s =
      by_test (eqb e.diff 0)
      (λ k. let g : get_or all i 0 ≡ n = cut_head all i n (diff_ends_from n es) (simp k at d) in simp (g, s, k, ltb_self))
      (λ k. let g : get_or all i 0 ≡ suc n = cut_head all i (suc n) (diff_ends_from (suc n) es) (simp k at d) in simp (g, s, k, lt-ltb n (suc n) (omega arith)))

  -- the count of diffs after an entry
  abbrev pub onto : Bool → ℕ → ℕ
  onto true n = suc n
  onto false n = n

  pub next_start : (e : Entry) (es : List Entry) (i n : ℕ) → drop i all ≡ diff_ends_from n (e ∷ es) → get_or all i 0 ≡ onto (stands e) n
  unfolding diff_ends_from
  next_start e es i n d =
      by_test (eqb e.diff 0)
      (λ k. simp k (cut_head all i n (diff_ends_from n es) (simp k at d)))
      (λ k. simp k (cut_head all i (suc n) (diff_ends_from (suc n) es) (simp k at d)))

  pub next_ends : (e : Entry) (es : List Entry) (i n : ℕ) → drop i all ≡ diff_ends_from n (e ∷ es) → drop (suc i) all ≡ diff_ends_from (onto (stands e) n) es
  unfolding diff_ends_from
  next_ends e es i n d =
      by_test (eqb e.diff 0)
      (λ k. simp k (cut_tail all i n (diff_ends_from n es) (simp k at d)))
      (λ k. simp k (cut_tail all i (suc n) (diff_ends_from (suc n) es) (simp k at d)))

  pub picked_stands : (es : List Entry) (i n : ℕ) → drop i all ≡ diff_ends_from n es → start_of all i ≡ n → every stands (pick kept i es) ≡ true
  unfolding pick every
  picked_stands [] i n d s = refl
  picked_stands (e ∷ es) i n d s =
      let ih : every stands (pick kept (suc i) es) ≡ true = picked_stands es (suc i) (onto (stands e) n) (next_ends e es i n d) (next_start e es i n d) in
      by_test (kept i)
      (λ k. simp k (and_both (stands e) _ (sym (has_stands e es i n d s) ∙ and_left _ _ k) ih))
      (λ k. simp (k, ih))

  -- each kept time's diff stands where its list starts
  pub pick_at-diffs : (ds : List ℕ) (es : List Entry) (i n : ℕ) → drop i all ≡ diff_ends_from n es → start_of all i ≡ n → drop n ds ≡ diffs es
      → pick_at kept (λ (t : ℕ). get_or ds (start_of all t) 0) i (length es) ≡ map (λ (e : Entry). e.diff) (pick kept i es)
  unfolding pick_at pick keep
  pick_at-diffs ds [] i n d s q = refl
  pick_at-diffs ds (e ∷ es) i n d s q =
      let f : ℕ → ℕ = λ (t : ℕ). get_or ds (start_of all t) 0 in
      by_test (eqb e.diff 0)
      (λ k. let no : has_diff all i ≡ false = has_stands e es i n d s ∙ simp k in
      let ns : get_or all i 0 ≡ n = next_start e es i n d ∙ simp k in
      let ne : drop (suc i) all ≡ diff_ends_from n es = simp k at (next_ends e es i n d) in
      let ih : pick_at kept f (suc i) (length es) ≡ map (λ (x : Entry). x.diff) (pick kept (suc i) es) = pick_at-diffs ds es (suc i) n ne ns (simp k at q) in
      simp (no, ih))
      (λ k. let yes : has_diff all i ≡ true = has_stands e es i n d s ∙ simp k in
      let ns : get_or all i 0 ≡ suc n = next_start e es i n d ∙ simp k in
      let ne : drop (suc i) all ≡ diff_ends_from (suc n) es = simp k at (next_ends e es i n d) in
      let dq : drop n ds ≡ e.diff ∷ diffs es = simp k at q in
      let ih : pick_at kept f (suc i) (length es) ≡ map (λ (x : Entry). x.diff) (pick kept (suc i) es) = pick_at-diffs ds es (suc i) (suc n) ne ns (cut_tail ds n e.diff (diffs es) dq) in
      by_test (leaf i)
      (λ t. simp (yes, t, ih) (simp (s, cut_head ds n e.diff (diffs es) dq)))
      (λ t. simp (yes, t, ih)))

  -- no more are picked than stand
  pub picked_few : (es : List Entry) (i n : ℕ) → drop i all ≡ diff_ends_from n es → start_of all i ≡ n → length (pick kept i es) ≤ length (keep stands es)
  unfolding pick keep
  picked_few [] i n d s = omega arith
  picked_few (e ∷ es) i n d s =
      let ih : length (pick kept (suc i) es) ≤ length (keep stands es) = picked_few es (suc i) (onto (stands e) n) (next_ends e es i n d) (next_start e es i n d) in
      by_test (kept i)
      (λ k. let y : eqb e.diff 0 ≡ false = not-true _ (sym (has_stands e es i n d s) ∙ and_left _ _ k) in simp (k, y) (omega arith))
      (λ k. by_test (eqb e.diff 0) (λ y. simp (k, y) ih) (λ y. simp (k, y) (omega arith)))
