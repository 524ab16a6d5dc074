-- Surveys without the runs of one input that they end with: what is left lies under what is left of the survey above, in its place and no more.
use Prim.Native.Nat.{ℕ, suc, ◌+◌, ◌-◌, ◌<◌, ◌≤◌}
use mathlib.Core.Path.{◌≡◌, refl, sym, ◌∙◌, ap}
use mathlib.Core.Bool.{Bool, true, false, ◌&&◌, ◌||◌}
use mathlib.Core.List.{List, [], ◌∷◌, ◌++◌, append-nil}
use native.Mathlib.Omega.{arith}
use lib.ListN.{length, get_or}
use Rattle.laws.proofs.Tests.{by_test, and-false, true-not-false}
use Rattle.chunk.specs.Contents.{start_of}
use Rattle.reports.specs.Survey.{Report, this, that, both}
use Rattle.reports.specs.Scratch.{pair_of, survey_of, surveyed, Layer, Covers}
use Rattle.reports.specs.Write.{Run, Inside, Under, ended, first, second, shared, widths, AllServe, AllSome}
use Rattle.reports.proofs.Covering.{pair_covers}
use Rattle.reports.proofs.Surveying.{starts_apart, start_within}
use Rattle.reports.specs.Tail.{only_this, only_that, trimmed}
use Rattle.reports.proofs.Trimming.{ending, trimmed-none, trimmed-some}

-- reports of both inputs leave some
trimmed-full : (rs : List Report) → ending rs ≡ false → 0 < length (trimmed rs)
unfolding only_this
trimmed-full [] h = absurd (true-not-false h)
trimmed-full (r ∷ rs) h = rw (trimmed-some r rs h) (omega arith)

this-append : (a b : List Report) → only_this (a ++ b) ≡ (only_this a && only_this b)
unfolding only_this
this-append [] b = refl
this-append (this l h ∷ a) b = this-append a b
this-append (that l h ∷ a) b = refl
this-append (both i j ∷ a) b = refl

that-append : (a b : List Report) → only_that (a ++ b) ≡ (only_that a && only_that b)
unfolding only_that
that-append [] b = refl
that-append (this l h ∷ a) b = refl
that-append (that l h ∷ a) b = that-append a b
that-append (both i j ∷ a) b = refl

or_split : (a b : Bool) → (a || b) ≡ false → (a ≡ false) × (b ≡ false)
or_split true b h = absurd (true-not-false h)
or_split false b h = (refl, h)

some_pair : (l : List Report) → only_this l ≡ false → 0 < length l
unfolding only_this
some_pair [] h = absurd (true-not-false h)
some_pair (r ∷ l) h = omega arith

-- what goes before two-sided reports is two-sided with them
sided_after : (a b : List Report) → ending b ≡ false → ending (a ++ b) ≡ false
sided_after a b h =
    let s = or_split (only_this b) (only_that b) h in
    rw (this-append a b, that-append a b, s.0, s.1, and-false (only_this a), and-false (only_that a))

-- and so is what follows
sided_before : (a b : List Report) → only_this a ≡ false → only_that a ≡ false → ending (a ++ b) ≡ false
sided_before a b h k = rw (this-append a b, that-append a b, h, k)

-- reports before two-sided ones stay
trimmed-append : (a b : List Report) → ending b ≡ false → trimmed (a ++ b) ≡ a ++ trimmed b
trimmed-append [] b h = refl
trimmed-append (r ∷ a) b h = trimmed-some r (a ++ b) (sided_after (r ∷ a) b h) ∙ ap (λ (l : List Report). r ∷ l) (trimmed-append a b h)

-- ---- inside what is covered

pub covers_inside : (n m i j : ℕ) (rs : List Report) → Covers n m i j rs → Inside i n j m rs
covers_inside n m i j [] c = record {}
covers_inside n m i j (this l h ∷ rs) c = (omega (arith, c.0), c.1, c.2, covers_inside n m h j rs c.3)
covers_inside n m i j (that l h ∷ rs) c = (omega (arith, c.0), c.1, c.2, covers_inside n m i h rs c.3)
covers_inside n m i j (both a b ∷ rs) c =
    let p : a ≡ i = c.0 in
    let q : b ≡ j = c.1 in
    (omega arith, omega (arith, c.2), omega arith, omega (arith, c.3), rw (p, q) (covers_inside n m (suc i) (suc j) rs c.4))

-- reports before one-sided ones, trimmed together: only reports of the former are left
inside_before : (n m i j : ℕ) (a b : List Report) → ending b ≡ true → Inside i n j m a → Inside i n j m (trimmed (a ++ b))
unfolding trimmed
inside_before n m i j [] b h v = rw (trimmed-none b h) (record {})
inside_before n m i j (this l k ∷ a) b h v =
    by_test (ending (this l k ∷ (a ++ b))) (λ t. rw t (record {})) (λ t. rw t (v.0, v.1, v.2, inside_before n m k j a b h v.3))
inside_before n m i j (that l k ∷ a) b h v =
    by_test (ending (that l k ∷ (a ++ b))) (λ t. rw t (record {})) (λ t. rw t (v.0, v.1, v.2, inside_before n m i k a b h v.3))
inside_before n m i j (both x y ∷ a) b h v =
    (v.0, v.1, v.2, v.3, inside_before n m (suc x) (suc y) a b h v.4)

pub inside-trimmed : (n m i j : ℕ) (ls : List Report) → Covers n m i j ls → Inside i n j m (trimmed ls)
unfolding only_this
inside-trimmed n m i j ls c = rw (append-nil ls) at (inside_before n m i j ls [] refl (covers_inside n m i j ls c))

-- ---- the surveys of two layers

-- runs of one input cover nothing of the other
covers_this : (n m i j : ℕ) (rs : List Report) → Covers n m i j rs → j < m → only_this rs ≡ false
unfolding only_this
covers_this n m i j [] c h = absurd (omega (arith, c.1))
covers_this n m i j (this l k ∷ rs) c h = covers_this n m k j rs c.3 h
covers_this n m i j (that l k ∷ rs) c h = refl
covers_this n m i j (both a b ∷ rs) c h = refl

covers_that : (n m i j : ℕ) (rs : List Report) → Covers n m i j rs → i < n → only_that rs ≡ false
unfolding only_that
covers_that n m i j [] c h = absurd (omega (arith, c.0))
covers_that n m i j (this l k ∷ rs) c h = refl
covers_that n m i j (that l k ∷ rs) c h = covers_that n m i k rs c.3 h
covers_that n m i j (both a b ∷ rs) c h = refl

-- a run of lists, all their items
run_full : (ends items : List ℕ) → Layer ends items → (l h : ℕ) → l < h → h ≤ length ends → Run ends l h (start_of ends l) (get_or ends (h - 1) 0)
run_full ends items y l h a b =
    let u : start_of ends l < get_or ends l 0 = starts_apart ends items y l (suc l) (omega arith) (omega arith) in
    let v : start_of ends (h - 1) < get_or ends (h - 1) 0 = starts_apart ends items y (h - 1) (suc (h - 1)) (omega arith) (omega arith) in
    let w : start_of ends l < get_or ends (h - 1) 0 = starts_apart ends items y l (suc (h - 1)) (omega arith) (omega arith) in
    record { some = a; there = b; from = omega arith; reached = u; left = v; to = omega arith; full = w }

module _ (e0 x0 e1 x1 : List ℕ) (y0 : Layer e0 x0) (y1 : Layer e1 x1) where
  -- the survey of the layers, and that of two shared lists
  abbrev S : List Report → List Report
  S rs = surveyed e0 x0 e1 x1 rs

  abbrev P : ℕ → ℕ → List Report
  P i j = pair_of x0 (start_of e0 i) (get_or e0 i 0) x1 (start_of e1 j) (get_or e1 j 0)

  record Paired (i j : ℕ) : Type 0 where
    no_this : only_this (P i j) ≡ false
    no_that : only_that (P i j) ≡ false
    inside : Inside (start_of e0 i) (get_or e0 i 0) (start_of e1 j) (get_or e1 j 0) (P i j)

  -- two shared lists' survey names items of both
  paired : (i j : ℕ) → i < length e0 → j < length e1 → Paired i j
  paired i j a b =
      let u : start_of e0 i < get_or e0 i 0 = starts_apart e0 x0 y0 i (suc i) (omega arith) (omega arith) in
      let v : start_of e1 j < get_or e1 j 0 = starts_apart e1 x1 y1 j (suc j) (omega arith) (omega arith) in
      let c : Covers (get_or e0 i 0) (get_or e1 j 0) (start_of e0 i) (start_of e1 j) (P i j) =
      pair_covers x0 (start_of e0 i) (get_or e0 i 0) x1 (start_of e1 j) (get_or e1 j 0) (omega arith) (start_within e0 x0 y0 (suc i) (omega arith))
      (omega arith) (start_within e1 x1 y1 (suc j) (omega arith)) in
      record {
        no_this = covers_this (get_or e0 i 0) (get_or e1 j 0) (start_of e0 i) (start_of e1 j) (P i j) c v;
        no_that = covers_that (get_or e0 i 0) (get_or e1 j 0) (start_of e0 i) (start_of e1 j) (P i j) c u;
        inside = covers_inside (get_or e0 i 0) (get_or e1 j 0) (start_of e0 i) (start_of e1 j) (P i j) c;
      }

  -- a survey is one-sided where the survey above it is
  survey_this : (i j : ℕ) (rs : List Report) → Covers (length e0) (length e1) i j rs → only_this (S rs) ≡ only_this rs
  unfolding only_this surveyed survey_of
  survey_this i j [] c = refl
  survey_this i j (this l h ∷ rs) c = survey_this h j rs c.3
  survey_this i j (that l h ∷ rs) c = refl
  survey_this i j (both a b ∷ rs) c =
      let p : Paired a b = paired a b (omega (arith, c.0, c.2)) (omega (arith, c.1, c.3)) in
      rw (this-append (P a b) (S rs), p.no_this)

  survey_that : (i j : ℕ) (rs : List Report) → Covers (length e0) (length e1) i j rs → only_that (S rs) ≡ only_that rs
  unfolding only_that surveyed survey_of
  survey_that i j [] c = refl
  survey_that i j (this l h ∷ rs) c = refl
  survey_that i j (that l h ∷ rs) c = survey_that i h rs c.3
  survey_that i j (both a b ∷ rs) c =
      let p : Paired a b = paired a b (omega (arith, c.0, c.2)) (omega (arith, c.1, c.3)) in
      rw (that-append (P a b) (S rs), p.no_that)

  survey_sided : (i j : ℕ) (rs : List Report) → Covers (length e0) (length e1) i j rs → ending (S rs) ≡ ending rs
  survey_sided i j rs c = rw (survey_this i j rs c, survey_that i j rs c)

  -- one-sided reports leave nothing in either
  under_none : (i j : ℕ) (ls : List Report) → Covers (length e0) (length e1) i j ls → ending ls ≡ true → Under e0 e1 (trimmed ls) (trimmed (S ls))
  under_none i j ls c h = rw (trimmed-none ls h, trimmed-none (S ls) (survey_sided i j ls c ∙ h)) ended

  pub under_trimmed : (i j : ℕ) (ls : List Report) → Covers (length e0) (length e1) i j ls
      → Under e0 e1 (trimmed ls) (trimmed (surveyed e0 x0 e1 x1 ls))
  unfolding surveyed survey_of only_this only_that
  under_trimmed i j [] c = under_none i j [] c refl
  under_trimmed i j (this l h ∷ rs) c =
      by_test (ending (this l h ∷ rs)) (under_none i j (this l h ∷ rs) c)
      (λ t. rw (trimmed-some (this l h) rs t, trimmed-some (this (start_of e0 l) (get_or e0 (h - 1) 0)) (S rs) (survey_sided i j (this l h ∷ rs) c ∙ t))
      (first (run_full e0 x0 y0 l h c.1 c.2) (under_trimmed h j rs c.3)))
  under_trimmed i j (that l h ∷ rs) c =
      by_test (ending (that l h ∷ rs)) (under_none i j (that l h ∷ rs) c)
      (λ t. rw (trimmed-some (that l h) rs t, trimmed-some (that (start_of e1 l) (get_or e1 (h - 1) 0)) (S rs) (survey_sided i j (that l h ∷ rs) c ∙ t))
      (second (run_full e1 x1 y1 l h c.1 c.2) (under_trimmed i h rs c.3)))
  under_trimmed i j (both a b ∷ rs) c =
      rw (trimmed-some (both a b) rs refl)
      (by_test (ending rs) last_shared (more (under_trimmed (suc i) (suc j) rs c.4)))
    where
      p : Paired a b
      p = paired a b (omega (arith, c.0, c.2)) (omega (arith, c.1, c.3))

      last_shared : ending rs ≡ true → Under e0 e1 (both a b ∷ trimmed rs) (trimmed (P a b ++ S rs))
      last_shared t =
          let s : ending (S rs) ≡ true = survey_sided (suc i) (suc j) rs c.4 ∙ t in
          rw (trimmed-none rs t)
          (shared {i = a} {j = b} (trimmed (P a b ++ S rs))
          (record {
            there0 = omega (arith, c.0, c.2);
            there1 = omega (arith, c.1, c.3);
            some = trimmed-full (P a b ++ S rs) (sided_before (P a b) (S rs) p.no_this p.no_that);
            inside = inside_before (get_or e0 a 0) (get_or e1 b 0) (start_of e0 a) (start_of e1 b) (P a b) (S rs) s p.inside;
          })
          (sym (append-nil (trimmed (P a b ++ S rs)))) ended)

      more : Under e0 e1 (trimmed rs) (trimmed (S rs)) → ending rs ≡ false → Under e0 e1 (both a b ∷ trimmed rs) (trimmed (P a b ++ S rs))
      more u t =
          let s : ending (S rs) ≡ false = survey_sided (suc i) (suc j) rs c.4 ∙ t in
          shared {i = a} {j = b} (P a b)
          (record {
            there0 = omega (arith, c.0, c.2);
            there1 = omega (arith, c.1, c.3);
            some = some_pair (P a b) p.no_this;
            inside = p.inside;
          })
          (trimmed-append (P a b) (S rs) s) u

-- ---- how many items are left, and that they are there

inside-widths : (n m i j : ℕ) (rs : List Report) → Inside i n j m rs → widths rs ≤ (n - i) + (m - j)
unfolding widths
inside-widths n m i j [] v = omega arith
inside-widths n m i j (this l h ∷ rs) v = omega (arith, v.0, v.1, v.2, inside-widths n m h j rs v.3)
inside-widths n m i j (that l h ∷ rs) v = omega (arith, v.0, v.1, v.2, inside-widths n m i h rs v.3)
inside-widths n m i j (both a b ∷ rs) v = omega (arith, v.0, v.1, v.2, v.3, inside-widths n m (suc a) (suc b) rs v.4)

inside_serves : (n m i j : ℕ) (rs : List Report) → Inside i n j m rs → AllServe n m rs
inside_serves n m i j [] v = record {}
inside_serves n m i j (this l h ∷ rs) v = ((omega (arith, v.1), v.2), inside_serves n m h j rs v.3)
inside_serves n m i j (that l h ∷ rs) v = ((omega (arith, v.1), v.2), inside_serves n m i h rs v.3)
inside_serves n m i j (both a b ∷ rs) v = ((v.1, v.3), inside_serves n m (suc a) (suc b) rs v.4)

inside-some : (n m i j : ℕ) (rs : List Report) → Inside i n j m rs → AllSome rs
inside-some n m i j [] v = record {}
inside-some n m i j (this l h ∷ rs) v = (omega (arith, v.1), inside-some n m h j rs v.3)
inside-some n m i j (that l h ∷ rs) v = (omega (arith, v.1), inside-some n m i h rs v.3)
inside-some n m i j (both a b ∷ rs) v = (omega arith, inside-some n m (suc a) (suc b) rs v.4)

module _ (n m i j : ℕ) (ls : List Report) (c : Covers n m i j ls) where
  pub widths-trimmed : widths (trimmed ls) ≤ (n - i) + (m - j)
  widths-trimmed = inside-widths n m i j (trimmed ls) (inside-trimmed n m i j ls c)

  pub serves_covered : AllServe n m ls
  serves_covered = inside_serves n m i j ls (covers_inside n m i j ls c)

  pub serves_trimmed : AllServe n m (trimmed ls)
  serves_trimmed = inside_serves n m i j (trimmed ls) (inside-trimmed n m i j ls c)

  pub some-trimmed : AllSome (trimmed ls)
  some-trimmed = inside-some n m i j (trimmed ls) (inside-trimmed n m i j ls c)
