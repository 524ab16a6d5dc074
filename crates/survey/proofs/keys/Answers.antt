-- `survey::keys` meets its contract: the body of the keys, or none.
use mathlib.Core.Path.{sym}
use Rattle.chunk.proofs.Placed.{placed_by, found_in, unfit}
use Rattle.survey.proofs.keys.Goals as goal

pub invariant_of-keys : goal.invariant_of-keys
invariant_of-keys c = record { placed = placed_by _ _ (sym c.in-Some.ensures) }

pub returns-in-None : goal.returns-in-None
returns-in-None c = rw (unfit c.args.words.now (sym c.in-None.ensures))

pub returns-in-Some : goal.returns-in-Some
returns-in-Some c = rw (found_in c.args.words.now _ (sym c.in-Some.ensures)).fits c.keys.ensures
