-- Who survives a merge, by the runs that woven reports end with: what they name is what the merge leaves.
use Prim.Native.Nat.{ℕ, zero, suc, ◌<◌}
use mathlib.Core.Path.{◌≡◌, refl, sym, ◌∙◌, ap, subst}
use mathlib.Core.Bool.{true, ◌&&◌}
use mathlib.Core.List.{List, [], ◌∷◌, ◌++◌, append_cancel_left}
use native.Mathlib.Omega.{arith}
use lib.Dec.{eqb, ltb}
use lib.ListN.{length, drop, length-drop}
use borrow.Author.Tests.{eqb-true}
use Rattle.laws.proofs.Tests.{by_test, and_left, and_right, true-not-false}
use Rattle.laws.proofs.Order.{same_refl}
use Rattle.chunk.specs.Entry.{Entry, before, same, rising}
use Rattle.reports.specs.Survey.{Report, this, that, both}
use Rattle.reports.specs.Write.{entries_by}
use Rattle.reports.specs.Merge.{last_or, last_of, merged, Place, place_at, survivor, Survives, nobody, the_first, the_second, sound_at}
use Rattle.reports.specs.Theorems.{left_of, Sound, SoundOf}
use Rattle.reports.proofs.Walked.{union-whole}
use Rattle.reports.proofs.Merged.{merged_then_left, survivor-sound}
use Rattle.reports.specs.Tail.{trimmed, trailing, survivor_by}
use Rattle.reports.specs.Woven.{no_entry, Woven}
use Rattle.reports.proofs.Trimming.{ending, trailing_all, trailing_tail, trailing_ends, ending_with_this, ending_with_that, ending_with_both}
use Rattle.reports.proofs.Joining.{this_all, that_all, merged_by, whole_by}

-- ---- the last entry

-- of a part that goes to the end
last_drop : (d : Entry) (n : ℕ) (es : List Entry) → n < length es → last_or d (drop n es) ≡ last_or d es
unfolding last_or
last_drop d n [] h = absurd (omega arith)
last_drop d zero (e ∷ es) h = refl
last_drop d (suc n) (e ∷ []) h = absurd (omega arith)
last_drop d (suc n) (e ∷ f ∷ es) h = last_drop d n (f ∷ es) (omega arith)

drop-some : (m n : ℕ) (es fs : List Entry) → m < length es → drop m es ≡ drop n fs → n < length fs
drop-some m n es fs h q = omega (arith, length-drop m es, length-drop n fs, ap length q)

-- two lists that end alike end at one position
ends_alike : (m n : ℕ) (es fs : List Entry) → m < length es → drop m es ≡ drop n fs → same (last_of es) (last_of fs) ≡ true
ends_alike m n es fs h q =
    let l : last_of es ≡ last_of fs = sym (last_drop no_entry m es h) ∙ ap (last_or no_entry) q ∙ last_drop no_entry n fs (drop-some m n es fs h q) in
    ap (same (last_of es)) (sym l) ∙ same_refl (last_of es)

survivor-none : (a b : List Entry) → same (last_of a) (last_of b) ≡ true → survivor a b ≡ nobody
unfolding survivor
survivor-none a b h = rw h

-- a sound cursor is the place of its own time
sound_place : (es : List Entry) (p : Place) → Sound es p → place_at es p.t ≡ p
unfolding sound_at place_at
sound_place es p s =
    let h : (eqb p.v (place_at es p.t).v && eqb p.k (place_at es p.t).k) ≡ true = and_right (ltb p.t (length es)) _ s.sound in
    let v : p.v ≡ (place_at es p.t).v = eqb-true _ _ (and_left _ _ h) in
    let k : p.k ≡ (place_at es p.t).k = eqb-true _ _ (and_right (eqb p.v (place_at es p.t).v) _ h) in
    sym (λ i. record { k = k i; v = v i; t = p.t })

-- ---- what trails is woven from where its runs start

-- where the reports that trail start, in both lists
pub record Stopped (es fs : List Entry) (rs : List Report) : Type 0 where
  pub i : ℕ
  pub j : ℕ
  pub woven : Woven before same es fs i j rs

pub stopped : (es fs : List Entry) (i j : ℕ) (rs : List Report) → Woven before same es fs i j rs → Stopped es fs (trailing rs)
unfolding trailing trimmed
stopped es fs i j [] w = record { i = i; j = j; woven = w }
stopped es fs i j (r ∷ rs) w =
    by_test (ending (r ∷ rs))
    (λ e. subst (Stopped es fs) (sym (trailing_all (r ∷ rs) e)) (record { i = i; j = j; woven = w }))
    (λ e. subst (Stopped es fs) (sym (trailing_tail r rs e)) (further r w (λ x y v. stopped es fs x y rs v)))
  where
    further : (r : Report) → Woven before same es fs i j (r ∷ rs) → ((x y : ℕ) → Woven before same es fs x y rs → Stopped es fs (trailing rs))
        → Stopped es fs (trailing rs)
    further (this l h) w ih = ih h j w.4
    further (that l h) w ih = ih i h w.4
    further (both a b) w ih = ih (suc i) (suc j) w.5

-- ---- who survives

-- parts to the end that are alike start at one index
starts_alike : (m n : ℕ) (es : List Entry) → n < length es → drop m es ≡ drop n es → m ≡ n
starts_alike m n es h q = omega (arith, length-drop m es, length-drop n es, ap length q)

none_left : (m : ℕ) (es : List Entry) → m < length es → drop m es ≡ [] → ⊥
none_left m es h q = omega (arith, length-drop m es, ap length q)

module _ (es fs : List Entry) where
  first_left : (s : Survives) → survivor es fs ≡ s → SoundOf es fs s → (l : ℕ) → l < length es → drop l es ≡ left_of es fs s → s ≡ the_first (place_at es l)
  first_left nobody q v l h m = absurd (none_left l es h m)
  first_left (the_first p) q v l h m =
      ap the_first (sym (sound_place es p v) ∙ ap (place_at es) (sym (starts_alike l p.t es v.within m)))
  first_left (the_second p) q v l h m =
      let n : survivor es fs ≡ nobody = survivor-none es fs (ends_alike l p.t es fs h m) in
      let z : ◌≡◌ {A = ℕ} 0 1 = cc in
      absurd (omega arith)

  second_left : (s : Survives) → survivor es fs ≡ s → SoundOf es fs s → (l : ℕ) → l < length fs → drop l fs ≡ left_of es fs s → s ≡ the_second (place_at fs l)
  second_left nobody q v l h m = absurd (none_left l fs h m)
  second_left (the_first p) q v l h m =
      let n : survivor es fs ≡ nobody = survivor-none es fs (ends_alike p.t l es fs v.within (sym m)) in
      let z : ◌≡◌ {A = ℕ} 0 1 = cc in
      absurd (omega arith)
  second_left (the_second p) q v l h m =
      ap the_second (sym (sound_place fs p v) ∙ ap (place_at fs) (sym (starts_alike l p.t fs v.within m)))

  nothing_left : (s : Survives) → SoundOf es fs s → [] ≡ left_of es fs s → s ≡ nobody
  nothing_left nobody v m = refl
  nothing_left (the_first p) v m = absurd (none_left p.t es v.within (sym m))
  nothing_left (the_second p) v m = absurd (none_left p.t fs v.within (sym m))

  -- by the runs that name what is left
  by_left : (s : Survives) → survivor es fs ≡ s → SoundOf es fs s → (rs : List Report) → Stopped es fs rs → ending rs ≡ true
      → entries_by es fs rs ≡ left_of es fs s → s ≡ survivor_by es fs rs
  unfolding survivor_by entries_by
  by_left s q v [] p e m = nothing_left s v m
  by_left s q v (this l h ∷ rs) p e m =
      let w : Woven before same es fs p.i p.j (this l h ∷ rs) = p.woven in
      first_left s q v l (omega (arith, w.1, w.2))
      (ap (λ (n : ℕ). drop n es) w.0 ∙ sym (this_all before same es fs p.i p.j (this l h ∷ rs) w (ending_with_this l h rs e)) ∙ m)
  by_left s q v (that l h ∷ rs) p e m =
      let w : Woven before same es fs p.i p.j (that l h ∷ rs) = p.woven in
      second_left s q v l (omega (arith, w.1, w.2))
      (ap (λ (n : ℕ). drop n fs) w.0 ∙ sym (that_all before same es fs p.i p.j (that l h ∷ rs) w (ending_with_that l h rs e)) ∙ m)
  by_left s q v (both a b ∷ rs) p e m = absurd (true-not-false (sym e ∙ ending_with_both a b rs))

  module _ (ts : List Report) (w : Woven before same es fs 0 0 ts) (h : rising es ≡ true) (k : rising fs ≡ true) (m : 0 < length es) (n : 0 < length fs) where
    -- what trails names what the merge leaves
    pub left_by : entries_by es fs (trailing ts) ≡ left_of es fs (survivor es fs)
    left_by =
        append_cancel_left (merged es fs) (entries_by es fs (trailing ts)) (left_of es fs (survivor es fs))
        (ap (λ (l : List Entry). l ++ entries_by es fs (trailing ts)) (sym (merged_by es fs ts w h k m n))
        ∙ sym (whole_by es fs ts w) ∙ sym (union-whole es fs h k) ∙ sym (merged_then_left es fs h k))

    pub survivor_by_lem : survivor es fs ≡ survivor_by es fs (trailing ts)
    survivor_by_lem =
        by_left (survivor es fs) refl (survivor-sound es fs h k) (trailing ts) (stopped es fs 0 0 ts w) (trailing_ends ts) left_by
