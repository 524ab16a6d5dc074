-- Merge in words (document 01, "Merge": "The answer says which input survives, if one does, and its cursor"): the number is returned, the survivor's
-- four words go to the front of a lent slice, and a slice too short for them is 13 before all else.
use Rattle.std.specs.Prelude.{ℕ, ◌≡◌, cond, List, [], ◌∷◌, ltb, length}
use Rattle.chunk.specs.Words.{entries}
use Rattle.merge.specs.declared.Survivor.{Survivor}
use Rattle.merge.specs.declared.Survivor.TheVariants.{Nobody, First, Second}
use Rattle.reports.specs.Merge.{survivor, merge_number, merge_out}
use Rattle.merge.specs.Outcome.{Joined, survivor_of}
use Rattle.reports.specs.Refusals.{Refused}
use Rattle.whole.specs.Whole.{whole_number, clean_out, left_out}
use Rattle.host.specs.Answers.{number_in, laid_by}

-- an answer's words: who survives (0 nobody, 1 the first, 2 the second), and the cursor, zeros where nobody does
abbrev pub survivor_words : Survivor → List ℕ
survivor_words Nobody = 0 ∷ 0 ∷ 0 ∷ 0 ∷ []
survivor_words (First c) = 1 ∷ c.k ∷ c.v ∷ c.t ∷ []
survivor_words (Second c) = 2 ∷ c.k ∷ c.v ∷ c.t ∷ []

-- those of the survivor of two chunks
abbrev pub left_words : List ℕ → List ℕ → List ℕ
left_words a b = survivor_words (survivor_of (survivor (entries a) (entries b)))

-- a lent slice afterwards: as it was where the answer has fewer than four words
abbrev pub once_lent : List ℕ → List ℕ → List ℕ → List ℕ
once_lent answer old new = cond (ltb (length answer) 4) old new

-- what a merge said, in words: the number, and the answer afterwards
pub record Said (j : Joined) (answer : List ℕ) (r : ℕ) (after : List ℕ) : Type 0 where
  pub returned : r ≡ j.number
  pub laid : after ≡ laid_by j.number (survivor_words j.survivor) answer

-- the number of `rl_merge_pair`: that of the merge, once its four words have room
abbrev pub pair_number : List ℕ → List ℕ → List ℕ → List ℕ → List ℕ → ℕ
pair_number a b scratch out answer = number_in 4 (merge_number a b scratch out) answer

-- what `rl_merge_pair` promises: its number, the answer and the output afterwards; and the scratch, which a refusal other than 14 leaves as it was
pub record PairAnswers (a b scratch out answer : List ℕ) (r : ℕ) (answer_after out_after used : List ℕ) : Type 0 where
  pub returned : r ≡ pair_number a b scratch out answer
  pub answered : answer_after ≡ laid_by (pair_number a b scratch out answer) (left_words a b) answer
  pub merges : out_after ≡ once_lent answer out (merge_out a b scratch out)
  pub untouched : Refused (pair_number a b scratch out answer) → used ≡ scratch

-- ---- the whole merge

-- the number of `rl_merge_whole`: that of the three, once its four words have room
abbrev pub all_number : List ℕ → List ℕ → List ℕ → List ℕ → List ℕ → List ℕ → List ℕ → ℕ
all_number a b scratch out clean rest answer = number_in 4 (whole_number a b scratch out clean rest) answer

-- what `rl_merge_whole` promises: its number, the answer and the three outputs afterwards; and the scratch, which a refusal of the merge other than
-- 14 leaves as it was
pub record AllAnswers (a b scratch out clean rest answer : List ℕ) (r : ℕ) (answer_after out_after cleaned left used : List ℕ) : Type 0 where
  pub returned : r ≡ all_number a b scratch out clean rest answer
  pub answered : answer_after ≡ laid_by (all_number a b scratch out clean rest answer) (left_words a b) answer
  pub merges : out_after ≡ once_lent answer out (merge_out a b scratch out)
  pub filters : cleaned ≡ once_lent answer clean (clean_out a b scratch out clean)
  pub leaves : left ≡ once_lent answer rest (left_out a b scratch out clean rest)
  pub untouched : Refused (pair_number a b scratch out answer) → used ≡ scratch
