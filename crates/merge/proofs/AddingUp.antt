-- Two surveyed chunks: the sums of the shared times that the survey names are all the sums there are.
use Rattle.std.proofs.Common.{◌≡◌, ℕ, ◌-◌, ◌/◌, true, not, List, length, sym, ap, ◌∙◌}
use Rattle.laws.proofs.OneChunk.{front_is_chunk, settled_stands}
use Rattle.chunk.specs.Entry.{Entry, before, same, rising, every, stands}
use Rattle.chunk.specs.Words.{entries}
use Rattle.chunk.specs.Bodies.{diffs}
use Rattle.chunk.specs.declared.Contents.{Contents}
use Rattle.merge.specs.declared.Surveys.{Surveys}
use Rattle.reports.specs.Merge.{overflows}
use Rattle.reports.specs.Scratch.{reports_at}
use Rattle.reports.specs.Layers.{time_survey}
use Rattle.reports.specs.Write.{AllServe}
use Rattle.reports.specs.Tail.{overflows_by}
use Rattle.reports.specs.Woven.{Woven}
use Rattle.reports.specs.Whole.{Whole}
use Rattle.merge.specs.Surveyed.{Surveyed}
use Rattle.reports.proofs.Weaving.{time_woven}
use Rattle.reports.proofs.Neighbours.{woven_covers}
use Rattle.reports.proofs.Lying.{serves_covered}
use Rattle.reports.proofs.Overflowing.{overflows_by_lem}
use Rattle.reports.proofs.WriteEntries.{diffs_all}

module _ (w : List ℕ) (c : Contents) (h : Whole w c) where
  its_rise : rising (entries w) ≡ true
  its_rise = (front_is_chunk w h.chunk.formed).rise

  all_stand : every stands (entries w) ≡ true
  all_stand = sym (settled_stands w h.chunk.formed) ∙ h.settles

  -- a diff at each time
  pub diffs-long : length (diffs (entries w)) ≡ length (entries w)
  diffs-long = ap length (diffs_all (entries w) all_stand) ∙ lib.ListN.length-map (entries w) (λ (e : Entry). e.diff)

module _ (w0 : List ℕ) (c0 : Contents) (w1 : List ℕ) (c1 : Contents) (s : List ℕ) (r : Surveys) (v : Surveyed w0 c0 w1 c1 s r) where
  abbrev count : ℕ
  count = (r.times - r.vals) / 3

  woven : Woven before same (entries w0) (entries w1) 0 0 (time_survey (entries w0) (entries w1))
  woven = time_woven (entries w0) (entries w1) (its_rise w0 c0 v.first) (its_rise w1 c1 v.second)

  module _ (d0 d1 : List ℕ) (e0 : d0 ≡ diffs (entries w0)) (e1 : d1 ≡ diffs (entries w1)) where
    pub times_serve : AllServe (length d0) (length d1) (reports_at s r.vals count)
    times_serve =
        let a : length d0 ≡ length (entries w0) = ap length e0 ∙ diffs-long w0 c0 v.first in
        let b : length d1 ≡ length (entries w1) = ap length e1 ∙ diffs-long w1 c1 v.second in
        rw (a, b, v.times_surveyed)
        (serves_covered (length (entries w0)) (length (entries w1)) 0 0 (time_survey (entries w0) (entries w1))
        (woven_covers before same (entries w0) (entries w1) 0 0 (time_survey (entries w0) (entries w1)) woven))

    pub sums_are : not (overflows_by d0 d1 (reports_at s r.vals count)) ≡ not (overflows (entries w0) (entries w1))
    sums_are =
        ap not
        ((λ i. overflows_by (e0 i) (e1 i) (v.times_surveyed i))
        ∙ sym (overflows_by_lem (entries w0) (entries w1) (time_survey (entries w0) (entries w1)) woven (its_rise w0 c0 v.first) (its_rise w1 c1 v.second) (all_stand w0 c0 v.first) (all_stand w1 c1 v.second)))
