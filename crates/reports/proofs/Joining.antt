-- The entries that woven reports name are those of the plain walk along both lists, and so of the merge.
use Prim.Native.Nat.{ℕ, zero, suc, ◌+◌, ◌-◌, ◌<◌, ◌≤◌}
use mathlib.Core.Path.{◌≡◌, refl, sym, ◌∙◌, ap}
use mathlib.Core.Bool.{Bool, true, false}
use mathlib.Core.List.{List, [], ◌∷◌, ◌++◌, append_assoc, append-nil}
use native.Mathlib.Omega.{arith}
use lib.Dec.{ltb}
use lib.ListN.{length, get_or, take, drop, drop_of_length-le, take-append-drop}
use lib.Seq.{drop-cons, drop-drop}
use borrow.Author.Tests.{ltb-true, ltb-false}
use Rattle.laws.proofs.Tests.{by_test, and_left, and_right, true-not-false}
use Rattle.chunk.specs.Entry.{Entry, before, same, rising, every}
use Rattle.reports.specs.Survey.{Report, this, that, both}
use Rattle.reports.specs.Write.{entries_of, entries_by}
use Rattle.reports.specs.Merge.{merged}
use Rattle.reports.specs.Theorems.{walked, plain, whole}
use Rattle.reports.proofs.Walked.{walked-less, walked_more, walked_same}
use Rattle.reports.proofs.Merged.{merged_is_plain}
use Rattle.reports.specs.Tail.{only_this, only_that, trimmed, trailing}
use Rattle.reports.specs.Woven.{no_entry, ahead, Woven}
use Rattle.reports.proofs.Trimming.{ending, by_ending, ending-this, ending-that, ending-none, ending_with_both, trimmed-none, trimmed-some, trailing_all, trailing_tail}

-- ---- the walk past a run

module _ (rest : List Entry → List Entry) where
  -- items before the head of the other list are taken first
  walked_run : (n : ℕ) (xs : List Entry) (y : Entry) (ys : List Entry) → every (ahead before (y ∷ ys)) (take n xs) ≡ true
      → walked rest xs (y ∷ ys) ≡ take n xs ++ walked rest (drop n xs) (y ∷ ys)
  unfolding every
  walked_run zero xs y ys h = refl
  walked_run (suc n) [] y ys h = refl
  walked_run (suc n) (x ∷ xs) y ys h =
      walked-less rest x xs y ys (and_left (before x y) _ h)
      ∙ ap (λ (l : List Entry). x ∷ l) (walked_run n xs y ys (and_right (before x y) _ h))

  walked_run_more : (n : ℕ) (x : Entry) (xs ys : List Entry) → every (ahead before (x ∷ xs)) (take n ys) ≡ true
      → walked rest (x ∷ xs) ys ≡ take n ys ++ walked rest (x ∷ xs) (drop n ys)
  unfolding every
  walked_run_more zero x xs ys h = refl
  walked_run_more (suc n) x xs [] h = refl
  walked_run_more (suc n) x xs (y ∷ ys) h =
      walked_more rest x xs y ys (and_left (before y x) _ h)
      ∙ ap (λ (l : List Entry). y ∷ l) (walked_run_more n x xs ys (and_right (before y x) _ h))

  walked-nil : (xs : List Entry) → walked rest xs [] ≡ rest xs
  unfolding walked
  walked-nil [] = refl
  walked-nil (x ∷ xs) = refl

-- a run, then what stands past it
run_then : (l h : ℕ) (es : List Entry) → l < h → take (h - l) (drop l es) ++ drop h es ≡ drop l es
run_then l h es k =
    let q : l + (h - l) ≡ h = omega arith in
    ap (λ (n : ℕ). take (h - l) (drop l es) ++ drop n es) (sym q)
    ∙ ap (λ (r : List Entry). take (h - l) (drop l es) ++ r) (sym (drop-drop (h - l) l es))
    ∙ take-append-drop (h - l) (drop l es)

pub past_run : (l h : ℕ) (es : List Entry) → l < h → drop (h - l) (drop l es) ≡ drop h es
past_run l h es k =
    let q : l + (h - l) ≡ h = omega arith in
    drop-drop (h - l) l es ∙ ap (λ (n : ℕ). drop n es) q

-- ---- runs of one input alone

module _ (lt eq : Entry → Entry → Bool) (es fs : List Entry) where
  -- they leave nothing of the other, and name all that is left of their own
  pub only_this_lem : (i j : ℕ) (rs : List Report) → Woven lt eq es fs i j rs → only_this rs ≡ true → j ≡ length fs
  unfolding only_this
  only_this_lem i j [] w o = w.1
  only_this_lem i j (this l h ∷ rs) w o = only_this_lem h j rs w.4 o
  only_this_lem i j (that l h ∷ rs) w o = absurd (true-not-false (sym o))
  only_this_lem i j (both a b ∷ rs) w o = absurd (true-not-false (sym o))

  pub only_that_lem : (i j : ℕ) (rs : List Report) → Woven lt eq es fs i j rs → only_that rs ≡ true → i ≡ length es
  unfolding only_that
  only_that_lem i j [] w o = w.0
  only_that_lem i j (this l h ∷ rs) w o = absurd (true-not-false (sym o))
  only_that_lem i j (that l h ∷ rs) w o = only_that_lem i h rs w.4 o
  only_that_lem i j (both a b ∷ rs) w o = absurd (true-not-false (sym o))

  pub this_all : (i j : ℕ) (rs : List Report) → Woven lt eq es fs i j rs → only_this rs ≡ true → entries_by es fs rs ≡ drop i es
  unfolding only_this entries_by
  this_all i j [] w o = sym (drop_of_length-le es {i = i} (omega (arith, w.0)))
  this_all i j (this l h ∷ rs) w o =
      ap (λ (r : List Entry). take (h - l) (drop l es) ++ r) (this_all h j rs w.4 o)
      ∙ run_then l h es w.1 ∙ ap (λ (n : ℕ). drop n es) w.0
  this_all i j (that l h ∷ rs) w o = absurd (true-not-false (sym o))
  this_all i j (both a b ∷ rs) w o = absurd (true-not-false (sym o))

  pub that_all : (i j : ℕ) (rs : List Report) → Woven lt eq es fs i j rs → only_that rs ≡ true → entries_by es fs rs ≡ drop j fs
  unfolding only_that entries_by
  that_all i j [] w o = sym (drop_of_length-le fs {i = j} (omega (arith, w.1)))
  that_all i j (this l h ∷ rs) w o = absurd (true-not-false (sym o))
  that_all i j (that l h ∷ rs) w o =
      ap (λ (r : List Entry). take (h - l) (drop l fs) ++ r) (that_all i h rs w.4 o)
      ∙ run_then l h fs w.1 ∙ ap (λ (n : ℕ). drop n fs) w.0
  that_all i j (both a b ∷ rs) w o = absurd (true-not-false (sym o))

  -- where nothing is left of one, only runs of the other follow
  pub ended_this : (i j : ℕ) (rs : List Report) → Woven lt eq es fs i j rs → length fs ≤ j → only_this rs ≡ true
  unfolding only_this
  ended_this i j [] w k = refl
  ended_this i j (this l h ∷ rs) w k = ended_this h j rs w.4 k
  ended_this i j (that l h ∷ rs) w k = absurd (omega (arith, w.0, w.1, w.2))
  ended_this i j (both a b ∷ rs) w k = absurd (omega (arith, w.3))

  pub ended_that : (i j : ℕ) (rs : List Report) → Woven lt eq es fs i j rs → length es ≤ i → only_that rs ≡ true
  unfolding only_that
  ended_that i j [] w k = refl
  ended_that i j (this l h ∷ rs) w k = absurd (omega (arith, w.0, w.1, w.2))
  ended_that i j (that l h ∷ rs) w k = ended_that i h rs w.4 k
  ended_that i j (both a b ∷ rs) w k = absurd (omega (arith, w.2))

  -- so where what follows is not of one input, something is left of both
  pub open_first : (i j : ℕ) (rs : List Report) → Woven lt eq es fs i j rs → ending rs ≡ false → i < length es
  open_first i j rs w e =
      by_test (ltb i (length es)) (λ t. ltb-true _ _ t)
      (λ t. absurd (true-not-false (sym (ending-that rs (ended_that i j rs w (ltb-false _ _ t))) ∙ e)))

  pub open_second : (i j : ℕ) (rs : List Report) → Woven lt eq es fs i j rs → ending rs ≡ false → j < length fs
  open_second i j rs w e =
      by_test (ltb j (length fs)) (λ t. ltb-true _ _ t)
      (λ t. absurd (true-not-false (sym (ending-this rs (ended_this i j rs w (ltb-false _ _ t))) ∙ e)))

-- ---- the walk along the reports

module _ (rest : List Entry → List Entry) (es fs : List Entry) where
  -- the walk from i and j is what the reports name up to the runs they end with, and then what becomes of those
  abbrev Joined : ℕ → ℕ → List Report → Type 0
  Joined i j rs = walked rest (drop i es) (drop j fs) ≡ entries_by es fs (trimmed rs) ++ rest (entries_by es fs (trailing rs))

  joined_end : (i j : ℕ) (rs : List Report) → Woven before same es fs i j rs → ending rs ≡ true → Joined i j rs
  unfolding entries_by walked
  joined_end i j rs w e =
      by_ending rs e
      (λ o. ap (walked rest (drop i es)) (drop_of_length-le fs {i = j} (omega (arith, only_this_lem before same es fs i j rs w o)))
      ∙ walked-nil rest (drop i es) ∙ ap rest (sym (this_all before same es fs i j rs w o)) ∙ sym parts)
      (λ o. ap (λ (l : List Entry). walked rest l (drop j fs)) (drop_of_length-le es {i = i} (omega (arith, only_that_lem before same es fs i j rs w o)))
      ∙ empty (drop j fs) ∙ ap rest (sym (that_all before same es fs i j rs w o)) ∙ sym parts)
    where
      parts : entries_by es fs (trimmed rs) ++ rest (entries_by es fs (trailing rs)) ≡ rest (entries_by es fs rs)
      parts = λ t. entries_by es fs (trimmed-none rs e t) ++ rest (entries_by es fs (trailing_all rs e t))

      empty : (ys : List Entry) → walked rest [] ys ≡ rest ys
      empty ys = refl

  -- one more report at the front
  joined_more : (r : Report) (rs : List Report) → ending (r ∷ rs) ≡ false
      → entries_of es fs r ++ (entries_by es fs (trimmed rs) ++ rest (entries_by es fs (trailing rs)))
      ≡ entries_by es fs (trimmed (r ∷ rs)) ++ rest (entries_by es fs (trailing (r ∷ rs)))
  unfolding entries_by
  joined_more r rs e =
      sym (append_assoc (entries_of es fs r) (entries_by es fs (trimmed rs)) (rest (entries_by es fs (trailing rs))))
      ∙ sym (λ t. entries_by es fs (trimmed-some r rs e t) ++ rest (entries_by es fs (trailing_tail r rs e t)))

  -- a step of the walk for each kind of report
  this_step : (l h j : ℕ) (y : Entry) (ys : List Entry) → drop j fs ≡ y ∷ ys → l < h → every (ahead before (drop j fs)) (take (h - l) (drop l es)) ≡ true
      → walked rest (drop l es) (drop j fs) ≡ take (h - l) (drop l es) ++ walked rest (drop h es) (drop j fs)
  this_step l h j y ys q k m =
      rw q
      (walked_run rest (h - l) (drop l es) y ys (rw q at m)
      ∙ ap (λ (x : List Entry). take (h - l) (drop l es) ++ walked rest x (y ∷ ys)) (past_run l h es k))

  that_step : (l h i : ℕ) (x : Entry) (xs : List Entry) → drop i es ≡ x ∷ xs → l < h → every (ahead before (drop i es)) (take (h - l) (drop l fs)) ≡ true
      → walked rest (drop i es) (drop l fs) ≡ take (h - l) (drop l fs) ++ walked rest (drop i es) (drop h fs)
  that_step l h i x xs q k m =
      rw q
      (walked_run_more rest (h - l) x xs (drop l fs) (rw q at m)
      ∙ ap (λ (y : List Entry). take (h - l) (drop l fs) ++ walked rest (x ∷ xs) y) (past_run l h fs k))

  both_step : (i j : ℕ) → i < length es → j < length fs → same (get_or es i no_entry) (get_or fs j no_entry) ≡ true
      → walked rest (drop i es) (drop j fs) ≡ entries_of es fs (both i j) ++ walked rest (drop (suc i) es) (drop (suc j) fs)
  both_step i j m n s =
      rw (drop-cons es i no_entry m, drop-cons fs j no_entry n)
      (walked_same rest (get_or es i no_entry) (drop (suc i) es) (get_or fs j no_entry) (drop (suc j) fs) s)

  joined_along : (i j : ℕ) (rs : List Report) → Woven before same es fs i j rs → Joined i j rs
  joined_along i j [] w = joined_end i j [] w ending-none
  joined_along i j (this l h ∷ rs) w =
      let ih : Joined h j rs = joined_along h j rs w.4 in
      by_test (ending (this l h ∷ rs)) (joined_end i j (this l h ∷ rs) w)
      (λ e. let y : Entry = get_or fs j no_entry in
      let q : drop j fs ≡ y ∷ drop (suc j) fs = drop-cons fs j no_entry (open_second before same es fs i j (this l h ∷ rs) w e) in
      ap (λ (n : ℕ). walked rest (drop n es) (drop j fs)) (sym w.0)
      ∙ this_step l h j y (drop (suc j) fs) q w.1 w.3
      ∙ ap (λ (x : List Entry). take (h - l) (drop l es) ++ x) ih
      ∙ joined_more (this l h) rs e)
  joined_along i j (that l h ∷ rs) w =
      let ih : Joined i h rs = joined_along i h rs w.4 in
      by_test (ending (that l h ∷ rs)) (joined_end i j (that l h ∷ rs) w)
      (λ e. let x : Entry = get_or es i no_entry in
      let q : drop i es ≡ x ∷ drop (suc i) es = drop-cons es i no_entry (open_first before same es fs i j (that l h ∷ rs) w e) in
      ap (λ (n : ℕ). walked rest (drop i es) (drop n fs)) (sym w.0)
      ∙ that_step l h i x (drop (suc i) es) q w.1 w.3
      ∙ ap (λ (x : List Entry). take (h - l) (drop l fs) ++ x) ih
      ∙ joined_more (that l h) rs e)
  joined_along i j (both a b ∷ rs) w =
      let ih : Joined (suc i) (suc j) rs = joined_along (suc i) (suc j) rs w.5 in
      both_step i j w.2 w.3 w.4
      ∙ ap (λ (x : List Entry). entries_of es fs (both i j) ++ x) ih
      ∙ (λ t. entries_of es fs (both (sym w.0 t) (sym w.1 t)) ++ (entries_by es fs (trimmed rs) ++ rest (entries_by es fs (trailing rs))))
      ∙ joined_more (both a b) rs (ending_with_both a b rs)

-- ---- the merge

module _ (es fs : List Entry) (ts : List Report) (w : Woven before same es fs 0 0 ts) where
  -- the walk to the end of both is all that the reports name
  pub whole_by : whole es fs ≡ entries_by es fs (trimmed ts) ++ entries_by es fs (trailing ts)
  whole_by = joined_along (λ (l : List Entry). l) es fs 0 0 ts w

  -- the one that stops with the first of them is what they name up to the runs they end with
  pub plain_by : plain es fs ≡ entries_by es fs (trimmed ts)
  plain_by = joined_along (λ (l : List Entry). []) es fs 0 0 ts w ∙ append-nil (entries_by es fs (trimmed ts))

  -- and so is the merge
  pub merged_by : rising es ≡ true → rising fs ≡ true → 0 < length es → 0 < length fs → entries_by es fs (trimmed ts) ≡ merged es fs
  merged_by h k m n = sym (merged_is_plain es fs h k m n ∙ plain_by)
