-- Reports in the lent scratch (document 01, "Forms that stand in the way": "three-word reports in scratch first"): kind, low, high; and the
-- survey of a layer, report by report of the layer above.
use Rattle.std.specs.Prelude.{ℕ, zero, suc, ◌+◌, ◌-◌, ◌*◌, ◌<◌, ◌≤◌, true, cond, ◌≡◌, List, [], ◌∷◌, ◌++◌, ltb, eqb, length, get_or, take, drop}
use Rattle.chunk.specs.Words.{ends_rise}
use Rattle.chunk.specs.Contents.{start_of}
use Rattle.reports.specs.Survey.{Report, this, that, both, reports_from}
use Rattle.reports.specs.Gallop.{between, Rises, run_end}

-- words put over others from a place on
unfoldable pub placed : ℕ → List ℕ → List ℕ → List ℕ
placed at ws s = take at s ++ (ws ++ drop (at + length ws) s)

-- a report's three words
abbrev pub words_of : Report → List ℕ
words_of (this l h) = 0 ∷ l ∷ h ∷ []
words_of (that l h) = 1 ∷ l ∷ h ∷ []
words_of (both i j) = 2 ∷ i ∷ j ∷ []

-- the words of several
unfoldable pub report_words : List Report → List ℕ
report_words [] = []
report_words (r ∷ rs) = words_of r ++ report_words rs

-- three words as a report
abbrev pub report : ℕ → ℕ → ℕ → Report
report zero l h = this l h
report (suc zero) l h = that l h
report (suc (suc k)) l h = both l h

-- the report that stands at a place
abbrev pub report_at : List ℕ → ℕ → Report
report_at s at = report (get_or s at 0) (get_or s (at + 1) 0) (get_or s (at + 2) 0)

-- so many reports from a place on
unfoldable pub reports_at : List ℕ → ℕ → ℕ → List Report
reports_at s at zero = []
reports_at s at (suc n) = report_at s at ∷ reports_at s (at + 3) n

-- the report at two heads: a shared item, or the run of the input whose head is less
unfoldable pub step_report : List ℕ → ℕ → ℕ → List ℕ → ℕ → ℕ → Report
unfolding run_end
step_report items0 lower0 upper0 items1 lower1 upper1 =
    cond (eqb (get_or items0 lower0 0) (get_or items1 lower1 0)) (both lower0 lower1)
    (cond (ltb (get_or items0 lower0 0) (get_or items1 lower1 0))
    (this lower0 (run_end items0 lower0 upper0 (get_or items1 lower1 0)))
    (that lower1 (run_end items1 lower1 upper1 (get_or items0 lower0 0))))

-- two rising ranges, with three words of scratch for each item of both
pub record PairRoom (items0 : List ℕ) (from0 upper0 : ℕ) (items1 : List ℕ) (from1 upper1 : ℕ) (s : List ℕ) (at : ℕ) : Type 0 where
  pub rise0 : Rises items0 from0 upper0
  pub rise1 : Rises items1 from1 upper1
  pub room : at + 3 * (upper0 - from0 + (upper1 - from1)) ≤ length s

-- the reports of two ranges
unfoldable pub pair_of : List ℕ → ℕ → ℕ → List ℕ → ℕ → ℕ → List Report
unfolding reports_from
pair_of items0 from0 upper0 items1 from1 upper1 =
    reports_from (upper0 - from0 + (upper1 - from1)) from0 from1 (between from0 upper0 items0) (between from1 upper1 items1)

-- what one report of the layer above becomes in the next: its lists' items as one run, or the survey of two shared lists
unfoldable pub survey_of : List ℕ → List ℕ → List ℕ → List ℕ → Report → List Report
unfolding pair_of
survey_of ends0 items0 ends1 items1 (this l h) = this (start_of ends0 l) (get_or ends0 (h - 1) 0) ∷ []
survey_of ends0 items0 ends1 items1 (that l h) = that (start_of ends1 l) (get_or ends1 (h - 1) 0) ∷ []
survey_of ends0 items0 ends1 items1 (both i j) =
    pair_of items0 (start_of ends0 i) (get_or ends0 i 0) items1 (start_of ends1 j) (get_or ends1 j 0)

-- the survey of a layer
unfoldable pub surveyed : List ℕ → List ℕ → List ℕ → List ℕ → List Report → List Report
unfolding survey_of
surveyed ends0 items0 ends1 items1 [] = []
surveyed ends0 items0 ends1 items1 (r ∷ rs) = survey_of ends0 items0 ends1 items1 r ++ surveyed ends0 items0 ends1 items1 rs

-- a layer of lists: the ends rise to the number of items, and each list rises
pub record Layer (ends items : List ℕ) : Type 0 where
  pub ends-rise : ends_rise 0 ends (length items) ≡ true
  pub lists_rise : (i : ℕ) → i < length ends → Rises items (start_of ends i) (get_or ends i 0)

-- reports that name every list of both inputs, each once and in order, from one of each on
abbrev pub Covers : ℕ → ℕ → ℕ → ℕ → List Report → Type 0
Covers n m i j [] = (i ≡ n) × (j ≡ m)
Covers n m i j (this l h ∷ rs) = (l ≡ i) × (l < h) × (h ≤ n) × Covers n m h j rs
Covers n m i j (that l h ∷ rs) = (l ≡ j) × (l < h) × (h ≤ m) × Covers n m i h rs
Covers n m i j (both a b ∷ rs) = (a ≡ i) × (b ≡ j) × (i < n) × (j < m) × Covers n m (suc i) (suc j) rs

-- a report of lists that are there
abbrev pub Named : List ℕ → List ℕ → Report → Type 0
Named ends0 ends1 (this l h) = (l < h) × (h ≤ length ends0)
Named ends0 ends1 (that l h) = (l < h) × (h ≤ length ends1)
Named ends0 ends1 (both i j) = (i < length ends0) × (j < length ends1)

-- the most reports that one becomes: one for a run, one for each item of two shared lists
abbrev pub weight : List ℕ → List ℕ → Report → ℕ
weight ends0 ends1 (this l h) = 1
weight ends0 ends1 (that l h) = 1
weight ends0 ends1 (both i j) = get_or ends0 i 0 - start_of ends0 i + (get_or ends1 j 0 - start_of ends1 j)

-- two layers, a report of their lists, and room for what it becomes
pub record OneRoom (ends0 items0 ends1 items1 : List ℕ) (r : Report) (s : List ℕ) (at : ℕ) : Type 0 where
  pub layer0 : Layer ends0 items0
  pub layer1 : Layer ends1 items1
  pub named : Named ends0 ends1 r
  pub room : at + 3 * weight ends0 ends1 r ≤ length s

-- two layers, the reports of all their lists before `at`, and three words of scratch for each item of both
pub record SurveyRoom (ends0 items0 ends1 items1 s : List ℕ) (from count at : ℕ) : Type 0 where
  pub layer0 : Layer ends0 items0
  pub layer1 : Layer ends1 items1
  pub covers : Covers (length ends0) (length ends1) 0 0 (reports_at s from count)
  pub before : from + 3 * count ≤ at
  pub room : at + 3 * (length items0 + length items1) ≤ length s
