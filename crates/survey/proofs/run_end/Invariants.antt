-- `survey::run_end` meets its contract: the run from where the loop stands ends where the run from the start does.
use mathlib.Core.Path.{◌≡◌}
use lib.ListN.{length}
use Rattle.reports.specs.Gallop.{run_end}
use Rattle.survey.proofs.run_end.Given as goal

abbrev pub invariant-loop-at : goal.invariant-loop-at
invariant-loop-at l = run_end l.keys l.at (length l.keys) l.target ≡ run_end l.keys l.from (length l.keys) l.target
