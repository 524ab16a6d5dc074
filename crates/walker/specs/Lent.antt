-- What a step and a start say to whoever lends a walker, and what then stands behind the reference, by cases of the step and the
-- start by value (document 01, "Walk": a walker lent by the caller and advanced in place gives the records one by one, then says
-- done and stays; a step answers 5, walker unchanged).
use Rattle.std.specs.Prelude.{ℕ, List, Option, Some, None, Result, Ok, Err}
use Rattle.chunk.specs.declared.Refusal.{Refusal}
use Rattle.walk.specs.Walk.{step}
use Rattle.walk.specs.Answer.{Started, Stepped, place_of, stepped_by}
use Rattle.walk.specs.declared.Walker.{Walker}
use Rattle.walk.specs.declared.Record.{Record}
use Rattle.walker.specs.declared.Advanced.{Advanced}
use Rattle.walker.specs.declared.Begun.{Begun}

-- what a step says: a record, or that none is left; or a refusal
abbrev pub Taken : Type 0
Taken = Result (Option Record) Refusal

-- the step by value from a walker
abbrev pub stepped_from : List ℕ → Walker → Stepped
stepped_from words w = stepped_by (step words (place_of w))

-- what a step says
abbrev pub taken_of : Stepped → Taken
taken_of (Ok (Some (e, p))) = Ok (Some e)
taken_of (Ok None) = Ok None
taken_of (Err r) = Err r

-- the walker after a step: past the record that is given; as it was on done and on 5
abbrev pub walker_after : Walker → Stepped → Walker
walker_after w (Ok (Some (e, p))) = p
walker_after w (Ok None) = w
walker_after w (Err r) = w

-- both
abbrev pub advanced_to : Walker → Stepped → Advanced
advanced_to w s = record { walker = walker_after w s; taken = taken_of s }

-- what a start says
abbrev pub begun_of : Started → Result (Unit {0}) Refusal
begun_of (Ok p) = Ok tt
begun_of (Err r) = Err r

-- the walker after a start: the one that is made; as it was on 5
abbrev pub walker_from : Walker → Started → Walker
walker_from w (Ok p) = p
walker_from w (Err r) = w

-- both
abbrev pub begun_at : Walker → Started → Begun
begun_at w s = record { walker = walker_from w s; answer = begun_of s }
