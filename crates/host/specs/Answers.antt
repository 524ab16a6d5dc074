-- What the C calls answer in words (document 01, "Refusal numbers": "The answer is the number with every other field zero; lent words
-- stay as they were"): the number is returned, the other fields go to the front of a lent slice, and a slice too short for them is 13.
use Rattle.std.specs.Prelude.{ℕ, zero, suc, ◌≡◌, cond, List, [], ◌∷◌, ltb, length, Result, Ok, Err}
use Rattle.chunk.specs.declared.Checked.{Checked}
use Rattle.chunk.specs.declared.Refusal.{Refusal}
use Rattle.chunk.specs.Answer.{answer_number}
use Rattle.chunk.specs.Check.{checked_of}
use Rattle.chunk.specs.Words.{over}
use Rattle.walk.specs.declared.Walker.{Walker}
use Rattle.walk.specs.Answer.{started_of}

-- a call's number, or 13 where the slice for its answer has fewer words than the answer
abbrev pub number_in : ℕ → ℕ → List ℕ → ℕ
number_in room number answer = cond (ltb (length answer) room) 13 number

-- the choice of a call that is lent two slices of words: the first where either has too few, else the second
abbrev pub short {ℓ} : {A : Type ℓ} → ℕ → ℕ → List ℕ → List ℕ → A → A → A
short n m one two a b = cond (ltb (length one) n) a (cond (ltb (length two) m) a b)

-- the slice for the answer afterwards: the answer at its front where the number is 0, else as it was
abbrev pub laid_by : ℕ → List ℕ → List ℕ → List ℕ
laid_by zero new answer = over new answer
laid_by (suc n) new answer = answer

-- the words of what a call says where it is accepted; a refusal has none
abbrev pub words_of : {A : Type 0} → (A → List ℕ) → Result A Refusal → List ℕ
words_of words (Ok a) = words a
words_of words (Err e) = []

-- the number of `rl_check`: that of the check, once its five words have room
unfoldable pub check_number : List ℕ → List ℕ → ℕ
unfolding checked_of
check_number w answer = number_in 5 (answer_number (checked_of w)) answer

-- a check's words: settled (0 or 1), nk, nv, nt, nd
abbrev pub check_words : Checked → List ℕ
check_words c = cond c.settled 1 0 ∷ c.contents.nk ∷ c.contents.nv ∷ c.contents.nt ∷ c.contents.nd ∷ []

-- the slice for a check's answer afterwards
unfoldable pub check_answer : List ℕ → List ℕ → List ℕ
unfolding check_number checked_of
check_answer w answer = laid_by (check_number w answer) (words_of check_words (checked_of w)) answer

-- the number of `rl_walk_start`: that of the start, once the walker's seven words have room
unfoldable pub start_number : List ℕ → List ℕ → ℕ
unfolding started_of
start_number w answer = number_in 7 (answer_number (started_of w)) answer

-- a walker's words: its four indices, then the ends of the lists that the last three stand in
abbrev pub walker_words : Walker → List ℕ
walker_words p = p.k ∷ p.v ∷ p.t ∷ p.d ∷ p.v_end ∷ p.t_end ∷ p.d_end ∷ []

-- the slice for the walker afterwards
unfoldable pub start_answer : List ℕ → List ℕ → List ℕ
unfolding start_number started_of
start_answer w answer = laid_by (start_number w answer) (words_of walker_words (started_of w)) answer

-- a number and a slice as these say
pub record Answers (number : ℕ) (words : List ℕ) (r : ℕ) (after : List ℕ) : Type 0 where
  pub returned : r ≡ number
  pub laid : after ≡ words
