-- `merge::pair::survivor_of` meets its contract: by the first of the runs.
use Rattle.merge.proofs.Trails.{no_trail, first_starts, second_starts, first_trails, second_trails}
use Rattle.merge.proofs.pair.survivor_of.Goals as goal

pub returns-in_default : goal.returns-in_default
returns-in_default c = no_trail _ _ _ _ _ c.requires c.in_default.ensures.steps.0

pub place_at-requires : goal.place_at-requires
place_at-requires c = record { read = c.requires.first; t_in_bounds = first_starts _ _ _ _ _ c.requires _ _ c.in-Some.ensures.steps c.in-This.is }

pub returns-in-This : goal.returns-in-This
returns-in-This c = first_trails _ _ _ _ _ c.requires _ _ c.in-Some.ensures.steps _ c.in-This.is c.place_at.ensures

pub place_at-requires-in_default-kind : goal.place_at-requires-in_default-kind
place_at-requires-in_default-kind c = record { read = c.requires.second; t_in_bounds = second_starts _ _ _ _ _ c.requires _ _ c.in-Some.ensures.steps c.in_default-kind.not-This }

pub returns-in_default-kind : goal.returns-in_default-kind
returns-in_default-kind c = second_trails _ _ _ _ _ c.requires _ _ c.in-Some.ensures.steps _ c.in_default-kind.not-This c.place_at-in_default-kind.ensures
