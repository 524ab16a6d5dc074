-- `merge::write::put_ends` meets its contract.
use Rattle.std.proofs.Common.{refl}
use Rattle.reports.proofs.WriteRuns.{put_ends_placed}
use Rattle.reports.proofs.WriteRows.{row-placed}
use Rattle.merge.proofs.write.put_ends.Goals as goal

pub returns-then-in_row : goal.returns-then-in_row
returns-then-in_row c =
    let t = c in
    let v = t.args in
    row-placed v.at _ v.by _ v.ends.now v.out.now _ refl t.requires.room t.requires.ends_value (c.in_row.ensures c.if-in_row.true) refl c.count_on.ensures

pub returns : goal.returns
returns c =
    let t = c in
    let v = t.args in put_ends_placed v.at _ v.by v.ends.now v.out.now _ refl t.requires.room c.copy_shifted.ensures
