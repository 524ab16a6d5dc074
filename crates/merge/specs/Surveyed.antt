-- The parts that merge is made of (document 01, "Merge"): the surveys of two settled chunks in the scratch, what is left of each, and what is
-- written and answered.
use Rattle.std.specs.Prelude.{◌≡◌, ℕ, ◌+◌, ◌-◌, ◌*◌, ◌/◌, ◌<◌, ◌≤◌, cond, List, ◌++◌, length}
use Rattle.chunk.specs.Entry.{Entry}
use Rattle.chunk.specs.Bodies.{chunk_of}
use Rattle.chunk.specs.Words.{entries, over, limit}
use Rattle.chunk.specs.declared.Contents.{Contents}
use Rattle.merge.specs.declared.Surveys.{Surveys}
use Rattle.merge.specs.declared.Spans.{Spans}
use Rattle.reports.specs.Merge.{merged, survivor, overflows, nobody}
use Rattle.reports.specs.Scratch.{reports_at, placed, report_words}
use Rattle.reports.specs.Layers.{key_survey, val_survey, time_survey}
use Rattle.reports.specs.Tail.{trimmed}
use Rattle.reports.specs.Whole.{Whole}
use Rattle.merge.specs.Outcome.{Joined, answer_by}

-- the three surveys stand one past the other at the front of scratch, and the answer gives the place past each
pub record LayersSurveyed (es fs : List Entry) (s s' : List ℕ) (r : Surveys) : Type 0 where
  pub past_keys : r.keys ≡ 3 * length (key_survey es fs)
  pub past_vals : r.vals ≡ r.keys + 3 * length (val_survey es fs)
  pub past_times : r.times ≡ r.vals + 3 * length (time_survey es fs)
  pub holds : s' ≡ placed 0 (report_words ((key_survey es fs ++ val_survey es fs) ++ time_survey es fs)) s

-- the three surveys stand in the scratch
pub record Surveyed (w0 : List ℕ) (c0 : Contents) (w1 : List ℕ) (c1 : Contents) (s : List ℕ) (r : Surveys) : Type 0 where
  pub first : Whole w0 c0
  pub second : Whole w1 c1
  pub some0 : 0 < c0.nt
  pub some1 : 0 < c1.nt
  pub few : c0.nt + c1.nt ≤ limit
  pub past_keys : r.keys ≡ 3 * length (key_survey (entries w0) (entries w1))
  pub past_vals : r.vals ≡ r.keys + 3 * length (val_survey (entries w0) (entries w1))
  pub past_times : r.times ≡ r.vals + 3 * length (time_survey (entries w0) (entries w1))
  pub stand : r.times ≤ length s
  pub keys_surveyed : reports_at s 0 (r.keys / 3) ≡ key_survey (entries w0) (entries w1)
  pub vals_surveyed : reports_at s r.keys ((r.vals - r.keys) / 3) ≡ val_survey (entries w0) (entries w1)
  pub times_surveyed : reports_at s r.vals ((r.times - r.vals) / 3) ≡ time_survey (entries w0) (entries w1)

-- surveys one past the other within the scratch
pub record SurveysStand (s : List ℕ) (r : Surveys) : Type 0 where
  pub keys-vals : r.keys ≤ r.vals
  pub vals-times : r.vals ≤ r.times
  pub stand : r.times ≤ length s

-- how many are left of each
abbrev pub trimmed_spans : List ℕ → Surveys → Spans
trimmed_spans s r =
    record {
      keys = length (trimmed (reports_at s 0 (r.keys / 3)));
      vals_at = r.keys;
      vals = length (trimmed (reports_at s r.keys ((r.vals - r.keys) / 3)));
      times_at = r.vals;
      times = length (trimmed (reports_at s r.vals ((r.times - r.vals) / 3)));
    }

-- 14 with the output as it was, or the merge in it and the survivor in the answer
pub record SettledMerge (es fs : List Entry) (out : List ℕ) (r : Joined) (out' : List ℕ) : Type 0 where
  pub answers : r ≡ cond (overflows es fs) (answer_by 14 nobody) (answer_by 0 (survivor es fs))
  pub written : out' ≡ cond (overflows es fs) out (over (chunk_of (merged es fs)) out)
