-- What merge answers (document 01, "Merge": "which input survives, if one does, and its cursor"): the number, and the survivor where it is 0.
use Rattle.std.specs.Prelude.{◌≡◌, ℕ, zero, suc, List, Result, Ok, Err}
use Rattle.chunk.specs.Words.{entries}
use Rattle.chunk.specs.Answer.{number_of}
use Rattle.chunk.specs.declared.Refusal.{Refusal}
use Rattle.merge.specs.declared.Cursor.{Cursor}
use Rattle.merge.specs.declared.Survivor.{Survivor}
use Rattle.merge.specs.declared.Survivor.TheVariants.{Nobody, First, Second}
use Rattle.reports.specs.Merge.{Place, Survives, nobody, the_first, the_second, survivor, merge_number, merge_out}
use Rattle.reports.specs.Refusals.{Refused}

-- the number, and the survivor where it is 0
pub record Joined : Type 0 where
  pub number : ℕ
  pub survivor : Survivor

-- an answer of the call as these two
abbrev pub joined_of : Result Survivor Refusal → Joined
joined_of (Ok s) = record { number = 0; survivor = s }
joined_of (Err e) = record { number = number_of e; survivor = Nobody }

-- a place as a cursor
abbrev pub cursor_at : Place → Cursor
cursor_at p = record { k = p.k; v = p.v; t = p.t }

-- who survives, as the call says it
abbrev pub survivor_of : Survives → Survivor
survivor_of nobody = Nobody
survivor_of (the_first p) = First (cursor_at p)
survivor_of (the_second p) = Second (cursor_at p)

-- nobody survives a refusal
abbrev pub answer_by : ℕ → Survives → Joined
answer_by zero s = record { number = 0; survivor = survivor_of s }
answer_by (suc n) s = record { number = suc n; survivor = Nobody }

-- the answer
unfoldable pub merge_answer : List ℕ → List ℕ → List ℕ → List ℕ → Joined
unfolding merge_number survivor
merge_answer a b scratch out = answer_by (merge_number a b scratch out) (survivor (entries a) (entries b))

-- the answer and the output; and the scratch afterwards, which a refusal other than 14 leaves as it was
pub record MergeAnswers (a b scratch out : List ℕ) (answer : Joined) (after left : List ℕ) : Type 0 where
  pub answers : answer ≡ merge_answer a b scratch out
  pub written : after ≡ merge_out a b scratch out
  pub untouched : Refused (merge_number a b scratch out) → left ≡ scratch
