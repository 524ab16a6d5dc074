-- `merge::weft::Weave::write_lower` meets its contract: the ends of the diffs, and then the diffs.
use Rattle.std.proofs.Common.{refl}
use Rattle.merge.proofs.Wefting.{diff_ends-room, diffs-room, lower_laid_lem}
use Rattle.merge.proofs.Lent.{diff_ends_lent, diffs_lent}
use Rattle.merge.proofs.weft.Weave.write_lower.Goals as goal

pub write_diff_ends-requires : goal.write_diff_ends-requires
write_diff_ends-requires c =
    let diff_ends0 = diff_ends_lent _ _ c.requires.laid.first.chunk _ c.diff_ends.ensures in
    let diff_ends1 = diff_ends_lent _ _ c.requires.laid.second.chunk _ c.diff_ends-2.ensures in
    let diffs0 = diffs_lent _ _ c.requires.laid.first.chunk _ c.diffs.ensures in
    let diffs1 = diffs_lent _ _ c.requires.laid.second.chunk _ c.diffs-2.ensures in
    rw (diff_ends0, diff_ends1, diffs0, diffs1) (diff_ends-room _ _ _ _ _ _ _ _ c.requires.laid _ c.requires.to_value _ refl)

pub write_diffs-requires : goal.write_diffs-requires
write_diffs-requires c =
    let diffs0 = diffs_lent _ _ c.requires.laid.first.chunk _ c.diffs.ensures in
    let diffs1 = diffs_lent _ _ c.requires.laid.second.chunk _ c.diffs-2.ensures in
    rw (diffs0, diffs1) (diffs-room _ _ _ _ _ _ _ _ c.requires.laid _ c.requires.to_value _ c.write_diff_ends.auto.out)

pub returns : goal.returns
returns c =
    let diff_ends0 = diff_ends_lent _ _ c.requires.laid.first.chunk _ c.diff_ends.ensures in
    let diff_ends1 = diff_ends_lent _ _ c.requires.laid.second.chunk _ c.diff_ends-2.ensures in
    let diffs0 = diffs_lent _ _ c.requires.laid.first.chunk _ c.diffs.ensures in
    let diffs1 = diffs_lent _ _ c.requires.laid.second.chunk _ c.diffs-2.ensures in
    let e = rw (diff_ends0, diff_ends1, diffs0, diffs1) at c.write_diff_ends.ensures in
    let n = rw (diffs0, diffs1) at c.write_diffs.ensures.value in
    let d = rw (diffs0, diffs1) at c.write_diffs.ensures.out_after in
    let z = lower_laid_lem _ _ _ _ _ _ _ _ c.requires.laid _ c.requires.to_value _ _ _ _ refl e n d in
    record { value = z.0; out_after = z.1 }
