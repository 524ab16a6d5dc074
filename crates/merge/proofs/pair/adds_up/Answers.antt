-- `merge::pair::adds_up` meets its contract: the shared times are those that the survey names.
use Rattle.std.proofs.Common.{◌∙◌}
use Rattle.merge.proofs.AddingUp.{times_serve, sums_are}
use Rattle.merge.proofs.Lent.{diffs_lent}
use Rattle.merge.proofs.pair.adds_up.Goals as goal

pub sums_fit-requires : goal.sums_fit-requires
sums_fit-requires c = let y = c.requires in rw c.row_between.ensures (times_serve _ _ _ _ _ _ y _ _ (diffs_lent _ _ y.first.chunk _ c.diffs.ensures) (diffs_lent _ _ y.second.chunk _ c.diffs-2.ensures))

pub returns : goal.returns
returns c =
    let y = c.requires in
    rw c.row_between.ensures at c.sums_fit.ensures ∙ sums_are _ _ _ _ _ _ y _ _ (diffs_lent _ _ y.first.chunk _ c.diffs.ensures) (diffs_lent _ _ y.second.chunk _ c.diffs-2.ensures)
