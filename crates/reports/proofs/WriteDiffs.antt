-- Diffs written report by report: a run as a range, a shared time's sum where it isn't 0; and their ends.
use Prim.Native.Nat.{ℕ, zero, suc, ◌+◌, ◌<◌, ◌≤◌}
use mathlib.Core.Path.{◌≡◌, refl, sym, ◌∙◌, ap}
use mathlib.Core.List.{List, [], ◌∷◌}
use native.Mathlib.Omega.{arith}
use lib.ListN.{length, get_or, set, length-append}
use Rattle.chunk.specs.Sums.{plus}
use Rattle.chunk.specs.Words.{limit}
use Rattle.reports.specs.Survey.{Report, this, that, both}
use Rattle.reports.specs.Scratch.{placed}
use Rattle.reports.specs.Write.{width, widths, Serves, RunRoom, RunsRoom, low_of, list_ends, ListRoom, diff_list, diff_of, diffs_by, diff_ends_by, DiffsRoom}
use Rattle.reports.proofs.Placing.{placed-none, placed_twice, length-placed}
use Rattle.reports.proofs.WriteRuns.{length-named}
use Rattle.reports.proofs.WriteEnds.{set-placed, length-ends}

-- at most one diff
short_list : (n : ℕ) → length (diff_list n) ≤ 1
short_list zero = omega arith
short_list (suc n) = omega arith

pub short_diffs : (a b : List ℕ) (r : Report) → Serves (length a) (length b) r → length (diff_of a b r) ≤ width r
short_diffs a b (this l h) v = let e = length-named a b (this l h) v in omega arith
short_diffs a b (that l h) v = let e = length-named a b (that l h) v in omega arith
short_diffs a b (both i j) v = short_list (plus (get_or a i 0) (get_or b j 0))

-- a shared time's sum, which is left out where it is 0
pub none_written : (at : ℕ) (out : List ℕ) (x : ℕ) → x ≡ 0 → (at ≡ at + length (diff_list x)) × (out ≡ placed at (diff_list x) out)
none_written at out zero z = (omega arith, sym (placed-none at out))
none_written at out (suc x) z = absurd (omega arith)

pub one_written : (at : ℕ) (out : List ℕ) (x : ℕ) → (x ≡ 0 → ⊥) → at < length out → (at + 1 ≡ at + length (diff_list x)) × (set out at x ≡ placed at (diff_list x) out)
one_written at out zero z f = absurd (z refl)
one_written at out (suc x) z f = (refl, set-placed at (suc x) out f)

-- ---- the loop over reports

pub record Laying (a b goal out₀ out : List ℕ) (stop : ℕ) (rs : List Report) (at : ℕ) : Type 0 where
  pub room : RunsRoom (length a) (length b) rs at (length out₀)
  pub same : length out ≡ length out₀
  pub whole : placed at (diffs_by a b rs) out ≡ goal
  pub ends : at + length (diffs_by a b rs) ≡ stop

module _ (a b goal out₀ out : List ℕ) (stop at : ℕ) where
  pub next_diff : (r : Report) (rs : List Report) → Laying a b goal out₀ out stop (r ∷ rs) at → RunRoom (length a) (length b) r at (length out)
  unfolding widths
  next_diff r rs w = record { serves = w.room.serves.0; fits = omega (arith, w.room.fits, w.same) }

  pub next_laying : (r : Report) (rs : List Report) {out' : List ℕ} {at' : ℕ} → Laying a b goal out₀ out stop (r ∷ rs) at
      → at' ≡ at + length (diff_of a b r) → out' ≡ placed at (diff_of a b r) out → Laying a b goal out₀ out' stop rs at'
  unfolding widths diffs_by
  next_laying r rs w e f =
      let n : length (diff_of a b r) ≤ width r = short_diffs a b r w.room.serves.0 in
      let fit : at + length (diff_of a b r) ≤ length out = omega (arith, w.room.fits, w.same) in
      rw (e, f)
      (record {
        room = record { serves = w.room.serves.1; fits = omega (arith, w.room.fits) };
        same = length-placed at out (diff_of a b r) fit ∙ w.same;
        whole = placed_twice at out (diff_of a b r) (diffs_by a b rs) fit ∙ w.whole;
        ends = omega (arith, w.ends, length-append (diff_of a b r) (diffs_by a b rs));
      })

  pub no_more_diffs : Laying a b goal out₀ out stop [] at → (at ≡ stop) × (out ≡ goal)
  unfolding diffs_by
  no_more_diffs w = (omega (arith, w.ends), sym (placed-none at out) ∙ w.whole)

-- ---- the loop over their ends

pub record Tailing (ends0 ends1 a b goal out₀ out : List ℕ) (rs : List Report) (base at : ℕ) : Type 0 where
  pub room : DiffsRoom ends0 ends1 a b rs base at (length out₀)
  pub same : length out ≡ length out₀
  pub whole : placed at (diff_ends_by ends0 ends1 a b base rs) out ≡ goal

module _ (ends0 ends1 a b goal out₀ out : List ℕ) (base at : ℕ) where
  module _ (r : Report) (rs : List Report) (w : Tailing ends0 ends1 a b goal out₀ out (r ∷ rs) base at) where
    pub tail_count : RunRoom (length a) (length b) r base limit
    unfolding widths
    tail_count = record { serves = w.room.runs.serves.0; fits = omega (arith, w.room.small) }

    module _ (next : ℕ) (f : next ≡ base + length (diff_of a b r)) where
      pub tail_room : ListRoom ends0 ends1 r base next at (length out)
      unfolding widths
      tail_room =
          let n : length (diff_of a b r) ≤ width r = short_diffs a b r w.room.runs.serves.0 in
          record {
            serves = rw (w.room.long0, w.room.long1) w.room.runs.serves.0;
            rise0 = w.room.rise0;
            rise1 = w.room.rise1;
            some = w.room.some.0;
            fits = omega (arith, w.room.runs.fits, w.same);
            small = omega (arith, w.room.small);
            grows = omega arith;
          }

      pub next_tailing : {x at' : ℕ} {out' : List ℕ} → x ≡ low_of r → at' ≡ at + width r → out' ≡ placed at (list_ends ends0 ends1 r x base next) out
          → Tailing ends0 ends1 a b goal out₀ out' rs next at'
      unfolding widths diff_ends_by
      next_tailing h i j =
          let n : length (diff_of a b r) ≤ width r = short_diffs a b r w.room.runs.serves.0 in
          let ends : List ℕ = list_ends ends0 ends1 r (low_of r) base (base + length (diff_of a b r)) in
          let long : length ends ≡ width r = length-ends ends0 ends1 r (low_of r) base (base + length (diff_of a b r)) (rw (w.room.long0, w.room.long1) w.room.runs.serves.0) w.room.some.0 in
          let fit : at + length ends ≤ length out = omega (arith, w.room.runs.fits, w.same) in
          rw (i, j, h, f)
          (record {
            room =
                record {
                  runs = record { serves = w.room.runs.serves.1; fits = omega (arith, w.room.runs.fits) };
                  some = w.room.some.1;
                  long0 = w.room.long0;
                  long1 = w.room.long1;
                  rise0 = w.room.rise0;
                  rise1 = w.room.rise1;
                  small = omega (arith, w.room.small);
                };
            same = length-placed at out ends fit ∙ w.same;
            whole =
                ap (λ (k : ℕ). placed (at + k) (diff_ends_by ends0 ends1 a b (base + length (diff_of a b r)) rs) (placed at ends out)) (sym long)
                ∙ placed_twice at out ends (diff_ends_by ends0 ends1 a b (base + length (diff_of a b r)) rs) fit
                ∙ w.whole;
          })

  pub no_more_tail : Tailing ends0 ends1 a b goal out₀ out [] base at → out ≡ goal
  unfolding diff_ends_by
  no_more_tail w = sym (placed-none at out) ∙ w.whole
