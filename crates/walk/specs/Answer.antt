-- The walker as the code hands it on, and what a start and a step answer, by cases (document 01, "Walk": starting checks the chunk
-- (5) and gives all indices 0, with the ends of each body's list 0; a step gives a record, says done, or answers 5).
use Rattle.std.specs.Prelude.{ℕ, Bool, true, false, List, Option, Some, None, Result, Ok, Err}
use Rattle.chunk.specs.Words.{well_formed}
use Rattle.chunk.specs.Entry.{Entry}
use Rattle.chunk.specs.declared.Refusal.{Refusal}
use Rattle.chunk.specs.declared.Refusal.TheVariants.{Malformed}
use Rattle.walk.specs.declared.Walker.{Walker}
use Rattle.walk.specs.declared.Record.{Record}
use Rattle.walk.specs.Walk.{Place, Went, gave, done, refused, Moved, moved, past, start}

-- what a start answers: the walker, or a refusal
abbrev pub Started : Type 0
Started = Result Walker Refusal

-- what a step answers: a record and the walker past it, or that none is left; or a refusal
abbrev pub Stepped : Type 0
Stepped = Result (Option (Record × Walker)) Refusal

-- a walker's place
abbrev pub place_of : Walker → Place
place_of w = record { k = w.k; v = w.v; t = w.t; d = w.d; val_end = w.v_end; time_end = w.t_end; diff_end = w.d_end }

-- the walker at a place
abbrev pub walker_at : Place → Walker
walker_at p = record { k = p.k; v = p.v; t = p.t; d = p.d; v_end = p.val_end; t_end = p.time_end; d_end = p.diff_end }

-- an entry as the code hands it on
abbrev pub record_of : Entry → Record
record_of e = record { key = e.key; val = e.val; time = e.time; diff = e.diff }

-- the walker at the first place of a chunk; 5 of other words
abbrev pub started_as : Bool → List ℕ → Started
started_as true w = Ok (walker_at (start w))
started_as false w = Err Malformed

-- what a start answers
unfoldable pub started_of : List ℕ → Started
started_of w = started_as (well_formed w) w

-- where the moves of a step lead, if they needn't read past the end of a body
abbrev pub reached_by : Moved → Option Walker
reached_by (moved p) = Some (walker_at p)
reached_by past = None

-- what is read where they led, if anything
abbrev pub given_by : Went → Option (Record × Walker)
given_by (gave e p) = Some (record_of e, walker_at p)
given_by done = None
given_by refused = None

-- what a step answers
abbrev pub stepped_by : Went → Stepped
stepped_by (gave e p) = Ok (Some (record_of e, walker_at p))
stepped_by done = Ok None
stepped_by refused = Err Malformed
