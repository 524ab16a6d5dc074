-- Reports as records (document 01, "Survey": a report for each shared key with its two indices, and one for each longest run of one
-- input's keys, as a from-to index range; and "reports stand in a slice of report records the caller lends").
use Rattle.std.specs.Prelude.{ℕ, zero, suc, ◌+◌, cond, List, [], ◌++◌, map, ltb, length, drop, replicate, eqb, Option, Some, None, Result, Ok, Err}
use Rattle.chunk.specs.Words.{key_body, table_fits}
use Rattle.chunk.specs.declared.Refusal.{Refusal}
use Rattle.chunk.specs.declared.Refusal.TheVariants.{Ragged, TooMany, Falls, OutOfRange, Malformed, Unsettled, Empty, BadCursor, BadFrontier, TooManyCorners, Overlaps, ScratchShort, OutputShort, Overflows}
use Rattle.reports.specs.Survey.{this, that, both, reports, survey_number}
use Rattle.reports.specs.Survey.{Report as Said}
use Rattle.reports.specs.Scratch.{step_report}
use Rattle.survey.specs.declared.Kind.{Kind}
use Rattle.survey.specs.declared.Kind.TheVariants.{This, That, Both}
use Rattle.survey.specs.declared.Report.{Report}
use Rattle.survey.specs.declared.Spot.{Spot}
use Rattle.survey.specs.declared.Next.{Next}
use Rattle.survey.specs.declared.Listed.{Listed}

-- document 01's number of a kind: 0 is a run of the first input, 1 of the second, 2 a shared key
abbrev pub kind_number : Kind → ℕ
kind_number This = 0
kind_number That = 1
kind_number Both = 2

-- a report as a record
abbrev pub record_of : Said → Report
record_of (this l h) = record { kind = kind_number This; low = l; high = h }
record_of (that l h) = record { kind = kind_number That; low = l; high = h }
record_of (both i j) = record { kind = kind_number Both; low = i; high = j }

-- where both inputs stand past a report
abbrev pub spot_past : Said → ℕ → ℕ → Spot
spot_past (this l h) i j = record { i = h; j = j }
spot_past (that l h) i j = record { i = i; j = h }
spot_past (both x y) i j = record { i = i + 1; j = j + 1 }

-- a report and where both inputs stand past it
abbrev pub next_by : ℕ → ℕ → Said → Next
next_by i j s = record { report = record_of s; spot = spot_past s i j }

-- the report of two lists of keys from an index of each on, and none where nothing is left of either
unfoldable pub next_in : List ℕ → List ℕ → ℕ → ℕ → Option Next
unfolding step_report
next_in xs ys i j =
    cond (ltb i (length xs))
    (cond (ltb j (length ys)) (Some (next_by i j (step_report xs i (length xs) ys j (length ys)))) (Some (next_by i j (this i (length xs)))))
    (cond (ltb j (length ys)) (Some (next_by i j (that j (length ys)))) None)

-- the keys of a chunk, and none of words whose table doesn't fit
abbrev pub keys_of : List ℕ → List ℕ
keys_of w = cond (table_fits w) (key_body w) []

-- the next report of two chunks
abbrev pub next_of : List ℕ → List ℕ → Spot → Option Next
next_of a b s = next_in (keys_of a) (keys_of b) s.i s.j

-- the refusal that document 01 gives a number
unfoldable pub refusal_of : ℕ → Refusal
refusal_of n =
    cond (eqb n 1) Ragged
    (cond (eqb n 2) TooMany
    (cond (eqb n 3) Falls
    (cond (eqb n 4) OutOfRange
    (cond (eqb n 5) Malformed
    (cond (eqb n 6) Unsettled
    (cond (eqb n 7) Empty
    (cond (eqb n 8) BadCursor
    (cond (eqb n 9) BadFrontier
    (cond (eqb n 10) TooManyCorners
    (cond (eqb n 11) Overlaps
    (cond (eqb n 12) ScratchShort
    (cond (eqb n 13) OutputShort Overflows))))))))))))

-- what a survey answers by its number: how many reports there are where it is 0, else the refusal
abbrev pub surveyed_by : ℕ → List ℕ → List ℕ → Result ℕ Refusal
surveyed_by zero a b = Ok (length (reports (key_body a) (key_body b)))
surveyed_by (suc n) a b = Err (refusal_of (suc n))

-- the answer: the number, and how many reports where it is 0
abbrev pub surveyed_of : List ℕ → List ℕ → ℕ → Result ℕ Refusal
surveyed_of a b lent = surveyed_by (survey_number a b lent) a b

-- the lent records after a survey: the reports in order, and every record past the last as it was; on a refusal all of them
abbrev pub filled_for : ℕ → List ℕ → List ℕ → List Report → List Report
filled_for zero a b lent = map record_of (reports (key_body a) (key_body b)) ++ drop (length (reports (key_body a) (key_body b))) lent
filled_for (suc n) a b lent = lent

-- the lent records afterwards
abbrev pub filled_of : List ℕ → List ℕ → List Report → List Report
filled_of a b lent = filled_for (survey_number a b (length lent)) a b lent

-- sixteen records that hold no report
abbrev pub blanks : List Report
blanks = replicate 16 (record { kind = kind_number This; low = 0; high = 0 })

-- a survey into sixteen such records: what it answers, and the records after it
abbrev pub listed_of : List ℕ → List ℕ → Listed
listed_of a b = record { answer = surveyed_of a b 16; reports = filled_of a b blanks }
