-- `merge::weft::Weave::write_middle` meets its contract: the layer of the times.
use Rattle.std.proofs.Common.{refl}
use Rattle.merge.proofs.Wefting.{times-room, middle_laid}
use Rattle.merge.proofs.Lent.{time_ends_lent, times_lent}
use Rattle.merge.proofs.weft.Weave.write_middle.Goals as goal

pub write_layer-requires : goal.write_layer-requires
write_layer-requires c =
    let time_ends0 = time_ends_lent _ _ c.requires.laid.first.chunk _ c.time_ends.ensures in
    let time_ends1 = time_ends_lent _ _ c.requires.laid.second.chunk _ c.time_ends-2.ensures in
    let times0 = times_lent _ _ c.requires.laid.first.chunk _ c.times.ensures in
    let times1 = times_lent _ _ c.requires.laid.second.chunk _ c.times-2.ensures in
    let r = times-room _ _ _ _ _ _ _ _ c.requires.laid _ c.requires.to_value _ refl in
    rw (time_ends0, time_ends1, times0, times1) (record { ends_room = r.ends; runs_room = r.runs })

pub returns : goal.returns
returns c =
    let time_ends0 = time_ends_lent _ _ c.requires.laid.first.chunk _ c.time_ends.ensures in
    let time_ends1 = time_ends_lent _ _ c.requires.laid.second.chunk _ c.time_ends-2.ensures in
    let times0 = times_lent _ _ c.requires.laid.first.chunk _ c.times.ensures in
    let times1 = times_lent _ _ c.requires.laid.second.chunk _ c.times-2.ensures in
    let e = rw (time_ends0, time_ends1, times0, times1) at c.write_layer.ensures in
    middle_laid _ _ _ _ _ _ _ _ c.requires.laid _ c.requires.to_value _ _ refl e
