-- Two chunks that the tests of a merge let through: what their surveys give the calls that follow, and what the merge then leaves and answers.
use Rattle.std.proofs.Common.{◌≡◌, ℕ, ◌-◌, ◌/◌, ◌≤◌, Bool, true, false, not, List, length, drop, sym, refl, ap, ◌∙◌, arith}
use borrow.Author.Tests.{not-true, not-false}
use Rattle.chunk.specs.Entry.{Entry}
use Rattle.chunk.specs.Bodies.{chunk_of}
use Rattle.chunk.specs.Words.{entries, over}
use Rattle.chunk.specs.declared.Contents.{Contents}
use Rattle.merge.specs.declared.Surveys.{Surveys}
use Rattle.merge.specs.declared.Spans.{Spans}
use Rattle.merge.specs.declared.Survivor.{Survivor}
use Rattle.reports.specs.Merge.{overflows, survivor, merged, nobody}
use Rattle.reports.specs.Scratch.{reports_at}
use Rattle.reports.specs.Survey.{Report}
use Rattle.reports.specs.Layers.{time_survey}
use Rattle.reports.specs.Tail.{trailing, survivor_by}
use Rattle.reports.proofs.Trimming.{trimmed_short}
use Rattle.reports.proofs.WriteEnds.{length_reports}
use Rattle.merge.specs.Weft.{Weft, named}
use Rattle.merge.specs.Outcome.{Joined, answer_by, survivor_of}
use Rattle.reports.specs.Mergeable.{Mergeable, Trailing}
use Rattle.merge.specs.Surveyed.{Surveyed, trimmed_spans, SettledMerge}
use Rattle.merge.specs.Surveyed.{LayersSurveyed}
use Rattle.merge.proofs.Gluing.{layers_surveyed, surveyed_weft, surveyed_merged, surveyed_trailing, surveyed_survivor}

module _ (w0 : List ℕ) (c0 : Contents) (w1 : List ℕ) (c1 : Contents) (s s' out : List ℕ) (r : Surveys)
    (y : Mergeable w0 c0 w1 c1 (length s) (length out)) (g : LayersSurveyed (entries w0) (entries w1) s s' r) (e : length s' ≡ length s) where
  abbrev es : List Entry
  es = entries w0

  abbrev fs : List Entry
  fs = entries w1

  pub surveyed : Surveyed w0 c0 w1 c1 s' r
  surveyed = layers_surveyed w0 c0 w1 c1 s s' (length out) r y g e

  -- a sum too large: 14, and the output as it was
  pub too_large : (fit : Bool) → fit ≡ not (overflows es fs) → fit ≡ false → (a : Joined) → a ≡ answer_by 14 nobody → SettledMerge es fs out a out
  too_large fit f t a q =
      let o : overflows es fs ≡ true = not-false (overflows es fs) (sym f ∙ t) in
      record { answers = rw o q; written = rw o refl }

  module _ (p : Spans) (trims : p ≡ trimmed_spans s' r) where
    pub weft : Weft w0 c0 w1 c1 s' p (length out)
    weft = rw trims (surveyed_weft w0 c0 w1 c1 s' r surveyed (length out) y.room)

    -- no more are left than there are
    pub times_left : (words : List ℕ) (from count : ℕ) → reports_at words from count ≡ reports_at s' r.vals ((r.times - r.vals) / 3) → p.times ≤ count
    times_left words from count q =
        let n : length (reports_at s' r.vals ((r.times - r.vals) / 3)) ≡ count = ap length (sym q) ∙ length_reports words from count in
        rw trims (omega (arith, trimmed_short (reports_at s' r.vals ((r.times - r.vals) / 3)), n))

    -- those past them are the runs that the times end with
    pub runs_are : (ts rs : List Report) → ts ≡ reports_at s' r.vals ((r.times - r.vals) / 3) → rs ≡ drop p.times ts → rs ≡ trailing (time_survey es fs)
    unfolding trailing
    runs_are ts rs q v = v ∙ rw (q, trims) (ap trailing surveyed.times_surveyed)

    pub trails : (rs : List Report) → rs ≡ trailing (time_survey es fs) → Trailing w0 c0 w1 c1 rs
    trails rs q = rw q (surveyed_trailing w0 c0 w1 c1 s' r surveyed)

    -- the merge, and its survivor
    pub settled_merge : (fit : Bool) → fit ≡ not (overflows es fs) → fit ≡ true → (out' : List ℕ) → out' ≡ over (chunk_of (named w0 w1 s' p)) out
        → (rs : List Report) → rs ≡ trailing (time_survey es fs) → (who : Survivor) → who ≡ survivor_of (survivor_by es fs rs)
        → SettledMerge es fs out (record { number = 0; survivor = who }) out'
    settled_merge fit f t out' q rs u who v =
        let o : overflows es fs ≡ false = not-true (overflows es fs) (sym f ∙ t) in
        let m : named w0 w1 s' p ≡ merged es fs = rw trims (surveyed_merged w0 c0 w1 c1 s' r surveyed) in
        let z : who ≡ survivor_of (survivor es fs) = v ∙ rw u (ap survivor_of (surveyed_survivor w0 c0 w1 c1 s' r surveyed)) in
        record {
          answers = rw o (ap (λ (x : Survivor). record { number = 0; survivor = x }) z);
          written = rw o (q ∙ ap (λ (l : List Entry). over (chunk_of l) out) m);
        }
