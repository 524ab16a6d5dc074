-- The answer of extract as the code hands it on (document 01: "The answer says all kept (an empty chunk too), all shipped, or mixed, and gives
-- the frontier of the kept times"; "The answer is the number with every other field zero; lent words stay as they were": a refusal says its
-- number and nothing else).
use Rattle.std.specs.Prelude.{ℕ, ◌≡◌, cond, List, eqb, ltb, length, take, Result, IfOk}
use Rattle.chunk.specs.declared.Refusal.{Refusal}
use Rattle.chunk.specs.Answer.{answer_number}
use Rattle.chunk.specs.Entry.{Entry}
use Rattle.chunk.specs.Words.{entries}
use Rattle.chunk.specs.Refusal.{written}
use Rattle.retain.specs.declared.Verdict.{Verdict}
use Rattle.retain.specs.declared.Verdict.TheVariants.{AllKept, AllShipped, Mixed}
use Rattle.retain.specs.declared.Extracted.{Extracted}
use Rattle.retain.specs.Frontier.{most}
use Rattle.retain.specs.Extract as extract
use Rattle.retain.specs.Extract.{kept_of, shipped_of, frontier_of, extract_number, kept_out, shipped_out}
use Rattle.retain.specs.Found.{frontier_with}

-- the code's word for each verdict
abbrev pub verdict_as : extract.Verdict → Verdict
verdict_as extract.all_kept = AllKept
verdict_as extract.all_shipped = AllShipped
verdict_as extract.mixed = Mixed

-- the number of each verdict: all kept is the zero
abbrev pub verdict_number : Verdict → ℕ
verdict_number AllKept = 0
verdict_number AllShipped = 1
verdict_number Mixed = 2

-- by the counts of kept times and of all
abbrev pub verdict_by : ℕ → ℕ → Verdict
verdict_by kept all = cond (eqb kept all) AllKept (cond (eqb kept 0) AllShipped Mixed)

-- what is said of entries that the corners part
unfoldable pub extracted_of : List ℕ → List Entry → Extracted
unfolding extract.verdict frontier_of
extracted_of corners es = record { verdict = verdict_as (extract.verdict corners es); frontier = frontier_with (frontier_of corners es) }

-- 10, where the kept times have too many corners
abbrev pub too_many : List ℕ → List Entry → ℕ
too_many corners es = cond (ltb most (length (frontier_of corners es))) 10 0

-- a settled chunk's entries parted by the corners: the answer's number, what it says where it is no refusal, and both outputs afterwards
pub record Parted (r : Result Extracted Refusal) (kept_after shipped_after corners : List ℕ) (es : List Entry) (kept shipped : List ℕ) : Type 0 where
  pub number : answer_number r ≡ too_many corners es
  pub answer : IfOk r (λ (x : Extracted). x ≡ extracted_of corners es)
  pub keeps : kept_after ≡ written (too_many corners es) (kept_of corners es) kept
  pub ships : shipped_after ≡ written (too_many corners es) (shipped_of corners es) shipped

-- the whole answer of an extract
pub record Extraction (r : Result Extracted Refusal) (kept_after shipped_after : List ℕ) (count : ℕ) (corners w kept shipped : List ℕ) : Type 0 where
  pub number : answer_number r ≡ extract_number count corners w kept shipped
  pub answer : IfOk r (λ (x : Extracted). x ≡ extracted_of (take count corners) (entries w))
  pub keeps : kept_after ≡ kept_out count corners w kept shipped
  pub ships : shipped_after ≡ shipped_out count corners w kept shipped
