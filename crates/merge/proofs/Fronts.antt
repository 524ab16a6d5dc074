-- Items to the end of their list: how many of them are below a target.
use Rattle.std.proofs.Common.{◌≡◌, ℕ, ◌+◌, ◌-◌, ◌≤◌, true, false, ltb, List, length, get_or, take, drop, sym, ap, ◌∙◌, arith, take_all, length-take, length-drop, lt-ltb, ltb-false}
use Rattle.laws.proofs.Tests.{by_test, and_both, true-not-false}
use Rattle.chunk.specs.Words.{rises}
use Rattle.chunk.proofs.Parting.{drop-take}
use Rattle.reports.specs.Survey.{below, reports_from}
use Rattle.reports.specs.Gallop.{between, below_at, Reached, Rises, run_end}
use Rattle.reports.specs.Scratch.{pair_of, PairRoom}
use Rattle.reports.proofs.Galloping.{reached_end, no_run, run_within}

module _ (items : List ℕ) where
  to_end : (from : ℕ) → between from (length items) items ≡ drop from items
  to_end from = take_all (length items - from) (drop from items) (omega (arith, length-drop from items))

  rises_whole : rises items ≡ true → Rises items 0 (length items)
  rises_whole h = record { ordered = omega arith; within = omega arith; rise = ap rises (to_end 0) ∙ h }

  run_whole : (target : ℕ) → run_end items 0 (length items) target ≡ below target items
  unfolding run_end
  run_whole target = ap (λ (l : List ℕ). 0 + below target l) (to_end 0) ∙ native.Mathlib.Nat.zero-add (below target items)

  pub under_length : (target : ℕ) → below target items ≤ length items
  under_length target = omega (arith, run_within items 0 (length items) target (omega arith) (omega arith), run_whole target)

  -- the first item isn't below the target
  pub none_under : (target : ℕ) → below_at items (length items) target 0 ≡ false → rises items ≡ true → 0 ≡ below target items
  unfolding below_at
  none_under target h y =
      no_run items 0 (length items) target (omega arith) (omega arith)
      (λ o. by_test (ltb (get_or items 0 0) target)
      (λ t. absurd (true-not-false (sym (and_both (ltb 0 (length items)) _ (lt-ltb _ _ o) t) ∙ h)))
      (λ t. ltb-false _ _ t))
      ∙ run_whole target

  -- a gallop has reached the last one that is
  pub all_under : (target r : ℕ) → rises items ≡ true → Reached items 0 (length items) target r → r + 1 ≡ below target items
  all_under target r h e = reached_end items 0 0 (length items) target r (omega arith) (rises_whole h) e ∙ run_whole target

  -- a run by how many items it has
  pub run_counted : (from upper target n : ℕ) → n ≡ below target (between from upper items) → from + n ≡ run_end items from upper target
  unfolding run_end
  run_counted from upper target n e = ap (λ (m : ℕ). from + m) e

  pub counted_part : (from upper target n : ℕ) → Rises items from upper → n ≡ below target (between from upper items) → from + n ≤ upper
  counted_part from upper target n r e = let q : from + n ≡ run_end items from upper target = run_counted from upper target n e in omega (arith, run_within items from upper target r.ordered r.within)

-- ---- items up to an index, cut from their list

module _ (items : List ℕ) (from to : ℕ) (r : Rises items from to) where
  pub cut-length : length (take to items) ≡ to
  cut-length = length-take to items ∙ omega (arith, r.within)

  cut-same : between from (length (take to items)) (take to items) ≡ between from to items
  cut-same =
      let n : ℕ = to - from in
      let e : to ≡ from + n = omega (arith, r.ordered) in
      ap (λ (m : ℕ). take (m - from) (drop from (take to items))) cut-length
      ∙ ap (take n) (ap (λ (m : ℕ). drop from (take m items)) e ∙ drop-take from n items)
      ∙ take_all n (take n (drop from items)) (omega (arith, length-take n (drop from items)))

  rises_cut : Rises (take to items) from (length (take to items))
  rises_cut = record { ordered = omega (arith, cut-length, r.ordered); within = omega arith; rise = ap rises cut-same ∙ r.rise }

module _ (items0 : List ℕ) (from0 to0 : ℕ) (items1 : List ℕ) (from1 to1 : ℕ) (s : List ℕ) (at : ℕ) (r : PairRoom items0 from0 to0 items1 from1 to1 s at) where
  -- the room for the reports of two ranges is there for the lists cut where they end
  pub room_cut : PairRoom (take to0 items0) from0 (length (take to0 items0)) (take to1 items1) from1 (length (take to1 items1)) s at
  room_cut =
      record {
        rise0 = rises_cut items0 from0 to0 r.rise0;
        rise1 = rises_cut items1 from1 to1 r.rise1;
        room = omega (arith, cut-length items0 from0 to0 r.rise0, cut-length items1 from1 to1 r.rise1, r.room);
      }

  -- and so are the reports the same
  pub reports_cut : pair_of (take to0 items0) from0 (length (take to0 items0)) (take to1 items1) from1 (length (take to1 items1)) ≡ pair_of items0 from0 to0 items1 from1 to1
  unfolding pair_of
  reports_cut =
      λ i. reports_from (cut-length items0 from0 to0 r.rise0 i - from0 + (cut-length items1 from1 to1 r.rise1 i - from1)) from0 from1
      (cut-same items0 from0 to0 r.rise0 i) (cut-same items1 from1 to1 r.rise1 i)
