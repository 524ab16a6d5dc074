-- Which entries are picked by each rule: those that stand, the open ones, the others.
use Prim.Native.Nat.{ℕ, suc}
use mathlib.Core.Path.{◌≡◌, refl, sym, ◌∙◌}
use mathlib.Core.Bool.{Bool, true, false, not, ◌&&◌}
use mathlib.Core.List.{List, [], ◌∷◌}
use lib.Dec.{eqb}
use lib.ListN.{get_or, drop}
use Rattle.chunk.specs.Entry.{Entry, every, stands, keep}
use Rattle.chunk.specs.Bodies.{times, diff_ends_from}
use Rattle.chunk.specs.Words.{well_formed, entries, time_body, diff_end_body}
use Rattle.chunk.specs.Contents.{start_of}
use Rattle.laws.proofs.Tests.{by_test, and_left, and_right}
use Rattle.laws.specs.Picked.{pick}
use Rattle.retain.specs.Layers.{has_diff}
use Rattle.retain.specs.Keep.{all_times, is_shut, retained_of}
use Rattle.retain.specs.Frontier.{is_open}
use Rattle.retain.specs.Extract.{kept_of, shipped_of}
use Rattle.retain.proofs.Filtered.{has_stands, next_start, next_ends, onto, cut_head, cut_tail}
use Rattle.laws.proofs.Bodies.{diff_ends_in_lem, times_in_lem}

module _ (leaf : ℕ → Bool) (all : List ℕ) where
  -- where every time passes, those that stand are picked
  picks_all : ((i : ℕ) → leaf i ≡ true) → (es : List Entry) (i n : ℕ) → drop i all ≡ diff_ends_from n es → start_of all i ≡ n
      → pick (λ (t : ℕ). has_diff all t && leaf t) i es ≡ keep stands es
  unfolding pick keep
  picks_all q [] i n d s = refl
  picks_all q (e ∷ es) i n d s =
      let ih : pick (λ (t : ℕ). has_diff all t && leaf t) (suc i) es ≡ keep stands es = picks_all q es (suc i) (onto leaf all (stands e) n) (next_ends leaf all e es i n d) (next_start leaf all e es i n d) in
      by_test (eqb e.diff 0)
      (λ k. let h : has_diff all i ≡ false = has_stands leaf all e es i n d s ∙ simp k in simp (h, k, ih))
      (λ k. let h : has_diff all i ≡ true = has_stands leaf all e es i n d s ∙ simp k in simp (h, k, q i, ih))

  -- where every entry stands, the rule alone decides
  picks_settled : (es : List Entry) (i n : ℕ) → every stands es ≡ true → drop i all ≡ diff_ends_from n es → start_of all i ≡ n
      → pick (λ (t : ℕ). has_diff all t && leaf t) i es ≡ pick leaf i es
  unfolding pick every
  picks_settled [] i n v d s = refl
  picks_settled (e ∷ es) i n v d s =
      let h : has_diff all i ≡ true = has_stands leaf all e es i n d s ∙ and_left _ _ v in
      let ih : pick (λ (t : ℕ). has_diff all t && leaf t) (suc i) es ≡ pick leaf (suc i) es =
      picks_settled es (suc i) (onto leaf all (stands e) n) (and_right (stands e) _ v) (next_ends leaf all e es i n d) (next_start leaf all e es i n d) in
      simp (h, ih)

pick-times : (q : ℕ → Bool) (all : List ℕ) (es : List Entry) (i : ℕ) → drop i all ≡ times es → pick (λ (t : ℕ). q (get_or all t 0)) i es ≡ keep (λ (e : Entry). q e.time) es
unfolding pick keep
pick-times q all [] i d = refl
pick-times q all (e ∷ es) i d =
    let ih : pick (λ (t : ℕ). q (get_or all t 0)) (suc i) es ≡ keep (λ (e : Entry). q e.time) es = pick-times q all es (suc i) (cut_tail all i e.time (times es) d) in
    let g : get_or all i 0 ≡ e.time = cut_head all i e.time (times es) d in
    simp (g, ih)

-- ---- what is retained by each rule

module _ (w : List ℕ) (f : well_formed w ≡ true) (corners : List ℕ) where
  pub retained_all : retained_of all_times w ≡ keep stands (entries w)
  unfolding retained_of
  retained_all = picks_all (λ (i : ℕ). true) (diff_end_body w) (λ i. refl) (entries w) 0 0 (sym (diff_ends_in_lem w f)) refl

  module _ (v : every stands (entries w) ≡ true) where
    pub retained_open : retained_of (is_open corners) w ≡ kept_of corners (entries w)
    unfolding retained_of kept_of
    retained_open =
        picks_settled (λ (i : ℕ). is_open corners (get_or (time_body w) i 0)) (diff_end_body w) (entries w) 0 0 v (sym (diff_ends_in_lem w f)) refl
        ∙ pick-times (is_open corners) (time_body w) (entries w) 0 (sym (times_in_lem w f))

    pub retained_shut : retained_of (is_shut corners) w ≡ shipped_of corners (entries w)
    unfolding retained_of shipped_of
    retained_shut =
        picks_settled (λ (i : ℕ). not (is_open corners (get_or (time_body w) i 0))) (diff_end_body w) (entries w) 0 0 v (sym (diff_ends_in_lem w f)) refl
        ∙ pick-times (λ (t : ℕ). not (is_open corners t)) (time_body w) (entries w) 0 (sym (times_in_lem w f))
