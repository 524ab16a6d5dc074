-- Extract in words (document 01, "Extract": "The answer says all kept (an empty chunk too), all shipped, or mixed, and gives the frontier
-- of the kept times"; "A frontier holds at most 128 corners", "Its unused places read zero in every answer and are ignored on the way in").
use Rattle.std.specs.Prelude.{ℕ, ◌≡◌, List, ◌∷◌, get_or, take, drop}
use Rattle.chunk.specs.Words.{entries}
use Rattle.retain.specs.declared.Verdict.{Verdict}
use Rattle.retain.specs.declared.Frontier.{Frontier}
use Rattle.retain.specs.declared.Extracted.{Extracted}
use Rattle.retain.specs.Extract.{extract_number, kept_out, shipped_out}
use Rattle.retain.specs.Answer.{verdict_number, extracted_of}
use Rattle.host.specs.Answers.{short, laid_by}

-- the frontier that 129 words say: a count, and 128 places
abbrev pub frontier_in : List ℕ → Frontier
frontier_in l = record { count = get_or l 0 0; corners = take 128 (drop 1 l) }

-- an answer's words: the verdict, the count of corners, their 128 places
abbrev pub extract_words : Verdict → Frontier → List ℕ
extract_words v f = verdict_number v ∷ f.count ∷ f.corners

-- the number that the extract beneath answers, for the frontier that the words say
abbrev pub number_under : List ℕ → Frontier → List ℕ → List ℕ → ℕ
number_under w f kept shipped = extract_number f.count f.corners w kept shipped

-- and what it says where it is accepted
abbrev pub extracted_under : List ℕ → Frontier → Extracted
extracted_under w f = extracted_of (take f.count f.corners) (entries w)

-- the words of what it says
abbrev pub answer_words : Extracted → List ℕ
answer_words r = extract_words r.verdict r.frontier

-- the choice of an extract: the first where the frontier or the answer has too few words, else the second
abbrev pub extract_short {ℓ} : {A : Type ℓ} → List ℕ → List ℕ → A → A → A
extract_short upper answer a b = short 129 130 upper answer a b

-- what `rl_extract` promises: its number, and the words of the answer and of both outputs afterwards
pub record ExtractAnswers (w upper answer kept shipped : List ℕ) (r : ℕ) (answer_after kept_after shipped_after : List ℕ) : Type 0 where
  pub returned : r ≡ extract_short upper answer 13 (number_under w (frontier_in upper) kept shipped)
  pub answered : answer_after ≡ extract_short upper answer answer (laid_by (number_under w (frontier_in upper) kept shipped) (answer_words (extracted_under w (frontier_in upper))) answer)
  pub keeps : kept_after ≡ extract_short upper answer kept (kept_out (frontier_in upper).count (frontier_in upper).corners w kept shipped)
  pub ships : shipped_after ≡ extract_short upper answer shipped (shipped_out (frontier_in upper).count (frontier_in upper).corners w kept shipped)
