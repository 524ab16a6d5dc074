-- An answer by its number (document 01, "Refusal numbers"): 0 where a call is accepted, else the number of its refusal.
use Rattle.std.specs.Prelude.{ℕ, Result, Ok, Err}
use Rattle.chunk.specs.declared.Refusal.{Refusal}
use Rattle.chunk.specs.declared.Refusal.TheVariants.{Ragged, TooMany, Falls, OutOfRange, Malformed, Unsettled, Empty, BadCursor, BadFrontier, TooManyCorners, Overlaps, ScratchShort, OutputShort, Overflows}

-- the number of each refusal
abbrev pub number_of : Refusal → ℕ
number_of Ragged = 1
number_of TooMany = 2
number_of Falls = 3
number_of OutOfRange = 4
number_of Malformed = 5
number_of Unsettled = 6
number_of Empty = 7
number_of BadCursor = 8
number_of BadFrontier = 9
number_of TooManyCorners = 10
number_of Overlaps = 11
number_of ScratchShort = 12
number_of OutputShort = 13
number_of Overflows = 14

-- the number of an answer
abbrev pub answer_number : {A : Type 0} → Result A Refusal → ℕ
answer_number (Ok a) = 0
answer_number (Err e) = number_of e
