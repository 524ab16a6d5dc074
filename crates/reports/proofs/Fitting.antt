-- Whether the sums at shared times fit, report by report.
use Prim.Native.Nat.{ℕ, zero, suc, ◌<◌}
use mathlib.Core.Path.{◌≡◌, refl, sym, ◌∙◌, ap}
use mathlib.Core.Bool.{Bool, true, false, not, ◌||◌}
use mathlib.Core.List.{List, [], ◌∷◌}
use native.Mathlib.Omega.{arith}
use lib.ListN.{length, get_or}
use borrow.Author.Tests.{not-true, not-false}
use Rattle.chunk.specs.Sums.{sum_fits}
use Rattle.reports.specs.Survey.{Report, this, that, both}
use Rattle.reports.specs.Scratch.{report}
use Rattle.reports.specs.Write.{AllServe}
use Rattle.reports.specs.Tail.{overflows_by}

module _ (a b : List ℕ) where
  -- a shared time has one
  pub shared_fits : (k l h : ℕ) {f : Bool} → 1 < k → f ≡ sum_fits (get_or a l 0) (get_or b h 0) → f ≡ not (overflows_by a b (report k l h ∷ []))
  unfolding overflows_by
  shared_fits zero l h m e = absurd (omega arith)
  shared_fits (suc zero) l h m e = absurd (omega arith)
  shared_fits (suc (suc k)) l h m e = e ∙ twice (sum_fits (get_or a l 0) (get_or b h 0))
    where
      twice : (x : Bool) → x ≡ not (not x || false)
      twice true = refl
      twice false = refl

  -- one report and those after it
  by_first : (r : Report) (rs : List Report) → overflows_by a b (r ∷ rs) ≡ (overflows_by a b (r ∷ []) || overflows_by a b rs)
  unfolding overflows_by
  by_first (this l h) rs = refl
  by_first (that l h) rs = refl
  by_first (both i j) rs = again (not (sum_fits (get_or a i 0) (get_or b j 0))) (overflows_by a b rs)
    where
      again : (x y : Bool) → (x || y) ≡ ((x || false) || y)
      again true y = refl
      again false y = refl

  -- the reports that are left decide
  pub record Deciding (goal : Bool) (rs : List Report) : Type 0 where
    pub serves : AllServe (length a) (length b) rs
    pub whole : not (overflows_by a b rs) ≡ goal

  module _ (goal : Bool) (r : Report) (rs : List Report) (d : Deciding goal (r ∷ rs)) where
    pub next_serves : AllServe (length a) (length b) (r ∷ [])
    next_serves = (d.serves.0, record {})

    pub next_decides : {f : Bool} → f ≡ not (overflows_by a b (r ∷ [])) → f ≡ true → Deciding goal rs
    next_decides e t =
        let n : overflows_by a b (r ∷ []) ≡ false = not-true _ (sym e ∙ t) in
        record {
          serves = d.serves.1;
          whole = ap not (sym (by_first r rs ∙ ap (λ (x : Bool). x || overflows_by a b rs) n)) ∙ d.whole;
        }

    pub decides_not : {f : Bool} → f ≡ not (overflows_by a b (r ∷ [])) → f ≡ false → false ≡ goal
    decides_not e t =
        let n : overflows_by a b (r ∷ []) ≡ true = not-false _ (sym e ∙ t) in
        ap not (sym (by_first r rs ∙ ap (λ (x : Bool). x || overflows_by a b rs) n)) ∙ d.whole

  pub all_decided : (goal : Bool) → Deciding goal [] → true ≡ goal
  unfolding overflows_by
  all_decided goal d = d.whole
