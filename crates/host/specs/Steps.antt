-- A step of a walk in words (document 01, "Walk": "A walker lent by the caller and advanced in place gives the records one by one, then
-- says done and stays"; it answers 5, walker unchanged).
use Rattle.std.specs.Prelude.{ℕ, ◌≡◌, List, [], ◌∷◌, get_or, Some, None, Ok, Err}
use Rattle.chunk.specs.Words.{over}
use Rattle.chunk.specs.Answer.{number_of as refusal_number}
use Rattle.walk.specs.declared.Walker.{Walker}
use Rattle.walk.specs.declared.Record.{Record}
use Rattle.walk.specs.Answer.{Stepped, place_of, stepped_by}
use Rattle.walk.specs.Walk.{step}
use Rattle.host.specs.Answers.{walker_words, short}

-- the walker that seven words say
abbrev pub walker_in : List ℕ → Walker
walker_in l = record { k = get_or l 0 0; v = get_or l 1 0; t = get_or l 2 0; d = get_or l 3 0; v_end = get_or l 4 0; t_end = get_or l 5 0; d_end = get_or l 6 0 }

-- a record's words: key, value, time, diff
abbrev pub record_words : Record → List ℕ
record_words e = e.key ∷ e.val ∷ e.time ∷ e.diff ∷ []

-- the step from the walker that the words say
unfoldable pub went_from : List ℕ → List ℕ → Stepped
unfolding step
went_from w walker = stepped_by (step w (place_of (walker_in walker)))

-- the number that says that no record is left: no refusal has it
abbrev pub done_number : ℕ
done_number = 100

-- what a step returns: 0 with a record, `done_number` where none is left, the refusal's number (5) where it is refused
abbrev pub number_of : Stepped → ℕ
number_of (Ok (Some (e, p))) = 0
number_of (Ok None) = done_number
number_of (Err r) = refusal_number r

-- the walker's words afterwards: past the record where one is given, else as they were
abbrev pub walker_of : Stepped → List ℕ → List ℕ
walker_of (Ok (Some (e, p))) l = over (walker_words p) l
walker_of (Ok None) l = l
walker_of (Err r) l = l

-- the record's words afterwards: the record where one is given, else as they were
abbrev pub record_of : Stepped → List ℕ → List ℕ
record_of (Ok (Some (e, p))) l = over (record_words e) l
record_of (Ok None) l = l
record_of (Err r) l = l

-- the choice of a step: the first where the walker or the record has too few words, else the second
abbrev pub step_short {ℓ} : {A : Type ℓ} → List ℕ → List ℕ → A → A → A
step_short walker found a b = short 7 4 walker found a b

-- what `rl_walk_step` promises: its number, and the walker's and the record's words afterwards
pub record StepAnswers (w walker found : List ℕ) (r : ℕ) (walker_after found_after : List ℕ) : Type 0 where
  pub returned : r ≡ step_short walker found 13 (number_of (went_from w walker))
  pub moved : walker_after ≡ step_short walker found walker (walker_of (went_from w walker) walker)
  pub gave : found_after ≡ step_short walker found found (record_of (went_from w walker) found)
