-- `merge::write::put_lists` meets its contract.
use Rattle.std.proofs.Common.{◌-◌, arith}
use Rattle.reports.proofs.WriteRuns.{length_range}
use Rattle.reports.proofs.WriteEnds.{one_more, lists_long}
use Rattle.reports.proofs.WriteRows.{part_rises}
use Rattle.merge.proofs.write.put_lists.Goals as goal

pub put_ends-requires : goal.put_ends-requires
put_ends-requires c =
    let t = c in
    let v = t.args in
    record {
      room = omega (arith, length_range v.low (v.high - 1) v.ends.now t.requires.room.ordered t.requires.room.within, t.requires.room.fits);
      ends_value = part_rises _ _ v.ends.now t.requires.ends_value;
    }

pub returns-clause-out_after : goal.returns-clause-out_after
returns-clause-out_after c =
    let t = c in
    let v = t.args in
    one_more v.at _ v.next _ v.out.now _ (lists_long v.by v.low v.high v.ends.now t.requires.room.ordered t.requires.room.within) (omega (arith, t.requires.room.fits, t.requires.le_high)) c.put_ends.ensures
