-- `merge::write::put_items` meets its contract.
use Rattle.std.proofs.Common.{refl}
use Rattle.reports.proofs.WriteRuns.{put_items_placed}
use Rattle.merge.proofs.write.put_items.Goals as goal

pub returns-clause-out_after : goal.returns-clause-out_after
returns-clause-out_after c =
    let v = c.args in put_items_placed v.at _ v.items.now v.out.now _ refl c.requires c.copy_into.ensures
