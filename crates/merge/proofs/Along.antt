-- Along two ranges: the reports written so far, and that those of the rest complete them.
use Rattle.std.proofs.Common.{◌≡◌, ℕ, ◌+◌, ◌-◌, ◌*◌, ◌<◌, ◌≤◌, eqb, ltb, List, [], ◌∷◌, ◌++◌, length, get_or, sym, refl, ap, ◌∙◌, append_assoc, append-nil, arith, length-append, ltb-false, ltb-true, eqb-true}
use borrow.Author.Tests.{eqb-false}
use Rattle.laws.proofs.Tests.{by_test}
use Rattle.reports.specs.Survey.{Report}
use Rattle.reports.specs.Gallop.{Rises, run_end}
use Rattle.reports.specs.Scratch.{placed, words_of, report_words, step_report, PairRoom, pair_of}
use Rattle.merge.specs.Spots.{spot_after}
use Rattle.merge.specs.declared.Spot.{Spot}
use Rattle.reports.proofs.Galloping.{run_long, run_within, rises-past}
use Rattle.reports.proofs.Placing.{placed-none, length-placed}
use Rattle.reports.proofs.Words.{length_words, placed-more}
use Rattle.merge.proofs.Stepping.{step_both, step_this, step_that, pair_step}

pub record Along (items0 : List ℕ) (from0 upper0 : ℕ) (items1 : List ℕ) (from1 upper1 : ℕ) (s₀ : List ℕ) (from : ℕ) (s : List ℕ) (lower0 lower1 at : ℕ) : Type 0 where
  pub done : List Report
  pub split : pair_of items0 from0 upper0 items1 from1 upper1 ≡ done ++ pair_of items0 lower0 upper0 items1 lower1 upper1
  pub wrote : s ≡ placed from (report_words done) s₀
  pub place : at ≡ from + 3 * length done
  pub rise0 : Rises items0 lower0 upper0
  pub rise1 : Rises items1 lower1 upper1
  pub room : at + 3 * (upper0 - lower0 + (upper1 - lower1)) ≤ length s₀

-- where both stand past a report is further on, within the ranges
record Onward (lower0 upper0 lower1 upper1 : ℕ) (spot : Spot) : Type 0 where
  on0 : lower0 ≤ spot.lower0
  in0 : spot.lower0 ≤ upper0
  on1 : lower1 ≤ spot.lower1
  in1 : spot.lower1 ≤ upper1
  less : lower0 + lower1 < spot.lower0 + spot.lower1

module _ (items0 : List ℕ) (from0 upper0 : ℕ) (items1 : List ℕ) (from1 upper1 : ℕ) (s₀ : List ℕ) (from : ℕ) where
  pub along_start : PairRoom items0 from0 upper0 items1 from1 upper1 s₀ from → Along items0 from0 upper0 items1 from1 upper1 s₀ from s₀ from0 from1 from
  unfolding report_words
  along_start p = record { done = []; split = refl; wrote = sym (placed-none from s₀); place = omega arith; rise0 = p.rise0; rise1 = p.rise1; room = p.room }

  pub along_length : (s : List ℕ) (lower0 lower1 at : ℕ) → Along items0 from0 upper0 items1 from1 upper1 s₀ from s lower0 lower1 at → length s ≡ length s₀
  along_length s lower0 lower1 at a =
      ap length a.wrote ∙ length-placed from s₀ (report_words a.done) (omega (arith, length_words a.done, a.place, a.room))

  onward : (lower0 lower1 : ℕ) → lower0 < upper0 → lower1 < upper1 → upper0 ≤ length items0 → upper1 ≤ length items1
      → Onward lower0 upper0 lower1 upper1 (spot_after (step_report items0 lower0 upper0 items1 lower1 upper1) lower0 lower1)
  onward lower0 lower1 h k w v =
      by_test (eqb (get_or items0 lower0 0) (get_or items1 lower1 0))
      (λ t. rw (step_both items0 lower0 upper0 items1 lower1 upper1 (eqb-true _ _ t))
      (record { on0 = omega arith; in0 = omega arith; on1 = omega arith; in1 = omega arith; less = omega arith }))
      (λ t. by_test (ltb (get_or items0 lower0 0) (get_or items1 lower1 0))
      (λ u. let x : get_or items0 lower0 0 < get_or items1 lower1 0 = ltb-true _ _ u in
      let l : lower0 < run_end items0 lower0 upper0 (get_or items1 lower1 0) = run_long items0 lower0 upper0 (get_or items1 lower1 0) h w x in
      let m : run_end items0 lower0 upper0 (get_or items1 lower1 0) ≤ upper0 = run_within items0 lower0 upper0 (get_or items1 lower1 0) (omega arith) w in
      rw (step_this items0 lower0 upper0 items1 lower1 upper1 x)
      (record { on0 = omega arith; in0 = m; on1 = omega arith; in1 = omega arith; less = omega arith }))
      (λ u. let x : get_or items1 lower1 0 < get_or items0 lower0 0 = omega (arith, ltb-false (get_or items0 lower0 0) (get_or items1 lower1 0) u, eqb-false (get_or items0 lower0 0) (get_or items1 lower1 0) t) in
      let l : lower1 < run_end items1 lower1 upper1 (get_or items0 lower0 0) = run_long items1 lower1 upper1 (get_or items0 lower0 0) k v x in
      let m : run_end items1 lower1 upper1 (get_or items0 lower0 0) ≤ upper1 = run_within items1 lower1 upper1 (get_or items0 lower0 0) (omega arith) v in
      rw (step_that items0 lower0 upper0 items1 lower1 upper1 x)
      (record { on0 = omega arith; in0 = omega arith; on1 = omega arith; in1 = m; less = omega arith })))

  -- a report more
  pub along_step : (s s' : List ℕ) (lower0 lower1 at : ℕ) (spot : Spot) → lower0 < upper0 → lower1 < upper1
      → spot ≡ spot_after (step_report items0 lower0 upper0 items1 lower1 upper1) lower0 lower1
      → s' ≡ placed at (words_of (step_report items0 lower0 upper0 items1 lower1 upper1)) s
      → Along items0 from0 upper0 items1 from1 upper1 s₀ from s lower0 lower1 at
      → Along items0 from0 upper0 items1 from1 upper1 s₀ from s' spot.lower0 spot.lower1 (at + 3)
  unfolding report_words
  along_step s s' lower0 lower1 at spot h k p q a =
      let o : Onward lower0 upper0 lower1 upper1 spot = rw p (onward lower0 lower1 h k a.rise0.within a.rise1.within) in
      let r : Report = step_report items0 lower0 upper0 items1 lower1 upper1 in
      record {
        done = a.done ++ (r ∷ []);
        split = a.split
            ∙ ap (λ (l : List Report). a.done ++ l) (pair_step items0 lower0 upper0 items1 lower1 upper1 h a.rise0.within k a.rise1.within)
            ∙ ap (λ (x : Spot). a.done ++ (r ∷ pair_of items0 x.lower0 upper0 items1 x.lower1 upper1)) (sym p)
            ∙ sym (append_assoc a.done (r ∷ []) (pair_of items0 spot.lower0 upper0 items1 spot.lower1 upper1));
        wrote = placed-more from a.done (r ∷ []) s₀ s s' at a.wrote a.place (omega (arith, a.room)) (q ∙ ap (λ (l : List ℕ). placed at l s) (sym (append-nil (words_of r))));
        place = omega (arith, length-append a.done (r ∷ []), a.place);
        rise0 = rises-past items0 lower0 upper0 spot.lower0 o.on0 o.in0 a.rise0;
        rise1 = rises-past items1 lower1 upper1 spot.lower1 o.on1 o.in1 a.rise1;
        room = omega (arith, a.room, o.on0, o.in0, o.on1, o.in1, o.less);
      }

  -- how far the step brings both
  pub along_less : (s : List ℕ) (lower0 lower1 at : ℕ) (spot : Spot) → lower0 < upper0 → lower1 < upper1
      → spot ≡ spot_after (step_report items0 lower0 upper0 items1 lower1 upper1) lower0 lower1
      → Along items0 from0 upper0 items1 from1 upper1 s₀ from s lower0 lower1 at
      → upper0 - spot.lower0 + (upper1 - spot.lower1) < upper0 - lower0 + (upper1 - lower1)
  along_less s lower0 lower1 at spot h k p a =
      let o : Onward lower0 upper0 lower1 upper1 spot = rw p (onward lower0 lower1 h k a.rise0.within a.rise1.within) in
      omega (arith, o.on0, o.in0, o.on1, o.in1, o.less)

  -- the last reports
  pub along_end : (s s' : List ℕ) (lower0 lower1 at at' : ℕ) (last : List Report) → pair_of items0 lower0 upper0 items1 lower1 upper1 ≡ last
      → s' ≡ placed at (report_words last) s → at' ≡ at + 3 * length last
      → Along items0 from0 upper0 items1 from1 upper1 s₀ from s lower0 lower1 at
      → (at' ≡ from + 3 * length (pair_of items0 from0 upper0 items1 from1 upper1)) × (s' ≡ placed from (report_words (pair_of items0 from0 upper0 items1 from1 upper1)) s₀)
  along_end s s' lower0 lower1 at at' last e p q a =
      let f : pair_of items0 from0 upper0 items1 from1 upper1 ≡ a.done ++ last = a.split ∙ ap (λ (l : List Report). a.done ++ l) e in (
        rw f (omega (arith, length-append a.done last, a.place)),
        placed-more from a.done last s₀ s s' at a.wrote a.place (omega (arith, a.room)) p ∙ ap (λ (l : List Report). placed from (report_words l) s₀) (sym f),
      )
