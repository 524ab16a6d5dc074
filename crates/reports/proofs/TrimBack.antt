-- A search from the end of reports in the scratch: back over those of the last one's kind.
use Prim.Native.Nat.{ℕ, zero, suc, ◌+◌, ◌-◌, ◌*◌, ◌<◌, ◌≤◌}
use mathlib.Core.Path.{◌≡◌, refl, sym, ◌∙◌, ap}
use mathlib.Core.Bool.{true}
use mathlib.Core.List.{List}
use native.Mathlib.Omega.{arith}
use lib.ListN.{length, get_or, drop, drop_of_length-le}
use Rattle.chunk.specs.Entry.{every}
use Rattle.reports.specs.Survey.{Report, this}
use Rattle.reports.specs.Scratch.{report_at, reports_at}
use Rattle.reports.specs.Tail.{trimmed}
use Rattle.reports.proofs.WriteEnds.{length_reports}
use Rattle.reports.proofs.Trimming.{kind_of, of_kind, kind_back, trimmed_back, trimmed-both}

pub not_none : (n : ℕ) → (n ≡ 0 → ⊥) → 0 < n
not_none zero f = absurd (f refl)
not_none (suc n) f = omega arith

-- so many reports on
nth_report : (s : List ℕ) (p count n : ℕ) (d : Report) → n < count → get_or (reports_at s p count) n d ≡ report_at s (p + 3 * n)
unfolding reports_at
nth_report s p zero n d h = absurd (omega arith)
nth_report s p (suc count) zero d h = ap (report_at s) (omega arith)
nth_report s p (suc count) (suc n) d h = nth_report s (p + 3) count n d (omega arith) ∙ ap (report_at s) (omega arith)

module _ (s : List ℕ) (from count : ℕ) where
  abbrev all : List Report
  all = reports_at s from count

  abbrev none : Report
  none = this 0 0

  -- the kind of report n
  abbrev pub kind_nth : ℕ → ℕ
  kind_nth n = kind_of (report_at s (from + 3 * n))

  long : length all ≡ count
  long = length_reports s from count

  kind_at : (n : ℕ) → n < count → kind_of (get_or all n none) ≡ kind_nth n
  kind_at n h = ap kind_of (nth_report s from count n none h)

  -- all from `left` on are of the kind of the last one, which is a run's
  pub record Back (kind left : ℕ) : Type 0 where
    pub some : 0 < count
    pub low : kind ≤ 1
    pub last : kind_nth (count - 1) ≡ kind
    pub short : left ≤ count
    pub alike : of_kind kind (drop left all) ≡ true

  pub back_none : (kind : ℕ) → 0 < count → kind ≤ 1 → kind_nth (count - 1) ≡ kind → Back kind count
  unfolding every
  back_none kind o m e = record { some = o; low = m; last = e; short = omega arith; alike = ap (of_kind kind) (drop_of_length-le all {i = count} (omega (arith, long))) }

  pub back_more : (kind left : ℕ) → 0 < left → kind_nth (left - 1) ≡ kind → Back kind left → Back kind (left - 1)
  back_more kind left h e b =
      let n : ℕ = left - 1 in
      let q : left ≡ suc n = omega arith in
      let m : n < count = omega (arith, b.short) in
      let a : of_kind kind (drop (suc n) all) ≡ true = ap (λ (x : ℕ). of_kind kind (drop x all)) (sym q) ∙ b.alike in
      record {
        some = b.some;
        low = b.low;
        last = b.last;
        short = omega arith;
        alike = kind_back kind n all none (omega (arith, long)) (kind_at n m ∙ e) a;
      }

  pub back_found : (kind left : ℕ) → (0 < left → kind_nth (left - 1) ≡ kind → ⊥) → Back kind left → left ≡ length (trimmed all)
  back_found kind left f b =
      let q : length all - 1 ≡ count - 1 = omega (arith, long) in
      sym (trimmed_back kind left all none (omega (arith, b.low)) (omega (arith, long, b.short)) (omega (arith, long, b.some))
      (ap (λ (x : ℕ). kind_of (get_or all x none)) q ∙ kind_at (count - 1) (omega (arith, b.some)) ∙ b.last)
      b.alike
      (λ h e. f h (sym (kind_at (left - 1) (omega (arith, b.short))) ∙ e)))

  -- the last one is of both inputs
  pub back_shared : 0 < count → kind_nth (count - 1) ≡ 2 → count ≡ length (trimmed all)
  back_shared o m =
      let q : length all - 1 ≡ count - 1 = omega (arith, long) in
      sym (trimmed-both all none (omega (arith, long))
      (ap (λ (x : ℕ). kind_of (get_or all x none)) q ∙ kind_at (count - 1) (omega arith) ∙ m)
      ∙ long)

  pub back_empty : count ≡ 0 → 0 ≡ length (trimmed all)
  unfolding reports_at trimmed
  back_empty e = ap (λ (n : ℕ). length (trimmed (reports_at s from n))) (sym e)
