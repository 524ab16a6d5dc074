-- `merge::write::group_size` meets its contract, by the kind of the report of lists.
use Rattle.reports.specs.Write.{group_size}
use Rattle.merge.proofs.Saying.{run_group}
use Rattle.merge.proofs.write.group_size.Goals as goal

pub returns-in-Both : goal.returns-in-Both
unfolding group_size
returns-in-Both c = rw c.in-Both.is c.inside.ensures

pub returns-in_default : goal.returns-in_default
returns-in_default c = run_group _ c.in_default.not-Both _ _ _ _ _
