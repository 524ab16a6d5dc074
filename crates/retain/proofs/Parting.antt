-- Whether a value stays: in a filter by where its diffs end, in an extract, where each time has a diff, by how many of its times are open.
use Prim.Native.Nat.{ℕ, ◌+◌, ◌-◌, ◌<◌, ◌≤◌}
use mathlib.Core.Path.{◌≡◌, refl, sym, ◌∙◌, ap}
use mathlib.Core.Bool.{Bool, true}
use mathlib.Core.List.{List}
use native.Mathlib.Omega.{arith}
use lib.Dec.{ltb}
use lib.ListN.{length, take, drop, get_or}
use borrow.Author.Tests.{lt-ltb, le-ltb, ltb-true, ltb-false}
use Rattle.chunk.specs.Contents.{start_of}
use Rattle.chunk.specs.Entry.{keep}
use Rattle.laws.proofs.Tests.{by_test}
use Rattle.retain.specs.Frontier.{is_open}
use Rattle.retain.specs.Keep.{is_shut, time_passes, time_kept}
use Rattle.retain.specs.Layers.{bit, has_diff, EndsStep, AllDiffs, ListsLeft}
use Rattle.laws.specs.Picked.{count_kept, list_kept, RisesTo}
use Rattle.laws.proofs.Ends.{start_below, start_as, ends_up}
use Rattle.retain.proofs.Counts.{start_next, start_counts, list_left}
use Rattle.retain.proofs.Steps.{count-diffs, count_same, open_times, shut_times, start_before}

-- a list that is there has an item, and ends within the items
pub end_within : (ends : List ℕ) (n i lower : ℕ) → RisesTo ends n → i < length ends → lower ≡ start_of ends i → (lower < get_or ends i 0) × (get_or ends i 0 ≤ n)
end_within ends n i lower w h p =
    let a : start_of ends i < get_or ends i 0 = rw start_as (start_below 0 ends i w.rise h) in
    let b : get_or ends i 0 ≤ get_or ends (length ends - 1) 0 = ends_up ends i (length ends - 1) w.rise (omega arith) (omega arith) in
    let s : start_of ends (length ends) ≡ get_or ends (length ends - 1) 0 = start_before ends (length ends) (λ z. omega arith) in
    let l = w.last in
    (omega arith, omega arith)

-- less than all is to leave some
left_over : (n all : ℕ) → ltb n all ≡ ltb 0 (all - n)
left_over n all =
    by_test (ltb n all)
    (λ k. let h : n < all = ltb-true _ _ k in k ∙ sym (lt-ltb 0 (all - n) (omega arith)))
    (λ k. let h : all ≤ n = ltb-false _ _ k in k ∙ sym (le-ltb 0 (all - n) (omega arith)))

-- a value, so many of whose times are open
module _ (times corners time_ends : List ℕ) (w : RisesTo time_ends (length times)) (i lower n : ℕ) (h : i < length time_ends)
    (p : lower ≡ start_of time_ends i) (q : n ≡ length (keep (is_open corners) (take (get_or time_ends i 0 - lower) (drop lower times)))) where
  fits : lower + (get_or time_ends i 0 - lower) ≤ length times
  fits = let e = end_within time_ends (length times) i lower w h p in omega arith

  pub open_left : (b : ℕ) → b ≡ bit (ltb 0 n) → b ≡ bit (list_kept (time_passes (is_open corners) times) time_ends i)
  open_left b e =
      let m = time_passes (is_open corners) times in
      list_left m time_ends i n b (start_counts m time_ends i lower n p (q ∙ open_times corners times lower (get_or time_ends i 0 - lower) fits)) e

  pub shut_left : (b : ℕ) → b ≡ bit (ltb n (get_or time_ends i 0 - lower)) → b ≡ bit (list_kept (time_passes (is_shut corners) times) time_ends i)
  shut_left b e =
      let m = time_passes (is_shut corners) times in
      let all = get_or time_ends i 0 - lower in
      list_left m time_ends i (all - n) b
      (start_counts m time_ends i lower (all - n) p (ap (λ (x : ℕ). all - x) q ∙ shut_times corners times lower all fits))
      (e ∙ ap bit (left_over n all))

-- lists whose items pass alike by two tests
module _ (m m' : ℕ → Bool) (ends : List ℕ) (n : ℕ) (w : RisesTo ends n) (f : (k : ℕ) → k < n → m k ≡ m' k) where
  pub list_same : (i : ℕ) → i < length ends → list_kept m ends i ≡ list_kept m' ends i
  unfolding list_kept
  list_same i h =
      let e = end_within ends n i (start_of ends i) w h refl in
      ap (ltb 0) (count_same m m' (start_of ends i) (get_or ends i 0 - start_of ends i) (λ k a b. f k (omega (arith, e.0, e.1))))

  pub lists_same : (l c : ℕ) → ListsLeft m ends l c → ListsLeft m' ends l c
  lists_same l c q =
      record {
        lists = q.lists ∙ count_same (list_kept m ends) (list_kept m' ends) 0 (length ends) (λ k a b. list_same k (omega arith));
        items = q.items ∙ count_same m m' 0 (start_of ends (length ends)) (λ k a b. f k (omega (arith, w.last)));
      }

-- where each time has a diff, those that pass are those that are kept
pub settled_lists : (p : ℕ → Bool) (times diff_ends time_ends val_ends : List ℕ) → AllDiffs times diff_ends → RisesTo time_ends (length times) → RisesTo val_ends (length time_ends)
    → (l c : ℕ) → ListsLeft (list_kept (time_passes p times) time_ends) val_ends l c → ListsLeft (list_kept (time_kept p times diff_ends) time_ends) val_ends l c
settled_lists p times diff_ends time_ends val_ends full w v l c q =
    let m = time_passes p times in
    let m' = time_kept p times diff_ends in
    lists_same (list_kept m time_ends) (list_kept m' time_ends) val_ends (length time_ends) v
    (list_same m m' time_ends (length times) w (λ k h. let d : has_diff diff_ends k ≡ true = full k h in simp d)) l c q

-- a value, before which so many diffs end, and so many with it
module _ (diff_ends time_ends : List ℕ) (steps : EndsStep diff_ends) (w : RisesTo time_ends (length diff_ends)) (i below : ℕ) (h : i < length time_ends) (p : below ≡ start_of diff_ends (start_of time_ends i)) where
  abbrev reach : ℕ
  reach = get_or diff_ends (get_or time_ends i 0 - 1) 0

  reached : start_of diff_ends (get_or time_ends i 0) ≡ reach
  reached = let e = end_within time_ends (length diff_ends) i (start_of time_ends i) w h refl in start_before diff_ends (get_or time_ends i 0) (λ z. omega (arith, e.0))

  -- the next one's diffs start there
  pub reach_next : reach ≡ start_of diff_ends (start_of time_ends (i + 1))
  reach_next = sym reached ∙ ap (start_of diff_ends) (start_next time_ends i)

  pub standing_left : (b : ℕ) → b ≡ bit (ltb below reach) → b ≡ bit (list_kept (has_diff diff_ends) time_ends i)
  standing_left b e =
      let s : ℕ = start_of time_ends i in
      let t : ℕ = get_or time_ends i 0 in
      let a = end_within time_ends (length diff_ends) i s w h refl in
      let z : s + (t - s) ≡ t = omega (arith, a.0) in
      let c : count_kept (has_diff diff_ends) s (t - s) + start_of diff_ends s ≡ start_of diff_ends (s + (t - s)) = count-diffs diff_ends s (t - s) steps (omega (arith, a.1)) in
      let r : start_of diff_ends (s + (t - s)) ≡ reach = ap (start_of diff_ends) z ∙ reached in
      list_left (has_diff diff_ends) time_ends i (reach - below) b (omega arith) (e ∙ ap bit (left_over below reach))
