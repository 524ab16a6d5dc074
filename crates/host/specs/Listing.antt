-- Survey in words (document 01, "Survey": "a report for each shared key with its two indices, and one for each longest run of one input's
-- keys"; "The answer is their number. Report records after the last stay unchanged"): three words to a report.
use Rattle.std.specs.Prelude.{ℕ, ◌*◌, ◌/◌, ◌≡◌, List, [], ◌∷◌, ltb, length}
use Rattle.chunk.specs.Words.{key_body}
use Rattle.reports.specs.Survey.{Report, this, that, both, reports, survey_number}
use Rattle.host.specs.Answers.{number_in, laid_by}

-- the words of reports: kind (0 a run of the first input, 1 of the second, 2 a shared key), low, high
unfoldable pub report_words : List Report → List ℕ
report_words [] = []
report_words (this l h ∷ rs) = 0 ∷ l ∷ h ∷ report_words rs
report_words (that l h ∷ rs) = 1 ∷ l ∷ h ∷ report_words rs
report_words (both i j ∷ rs) = 2 ∷ i ∷ j ∷ report_words rs

-- the number of `rl_survey`: that of the survey with room for a report in each three words, once the answer has its word. So 12 is given where
-- fewer than three words are lent for each key of both (`RoomInWords`)
abbrev pub list_number : List ℕ → List ℕ → List ℕ → List ℕ → ℕ
list_number a b lent answer = number_in 1 (survey_number a b (length lent / 3)) answer

-- fewer reports than n have room exactly where fewer than 3 n words are lent
abbrev pub RoomInWords : Type 0
RoomInWords = (words n : ℕ) → ltb (words / 3) n ≡ ltb words (3 * n)

-- the reports of two chunks' keys
abbrev pub reports_of : List ℕ → List ℕ → List Report
reports_of a b = reports (key_body a) (key_body b)

-- what `rl_survey` promises: its number, the reports' words and their number afterwards
pub record SurveyAnswers (a b lent answer : List ℕ) (r : ℕ) (lent_after answer_after : List ℕ) : Type 0 where
  pub returned : r ≡ list_number a b lent answer
  pub listed : lent_after ≡ laid_by (list_number a b lent answer) (report_words (reports_of a b)) lent
  pub counted : answer_after ≡ laid_by (list_number a b lent answer) (length (reports_of a b) ∷ []) answer
