-- `merge::weft::Weave::write_upper` meets its contract: the keys, and then the layer of the values.
use Rattle.std.proofs.Common.{refl}
use Rattle.merge.proofs.Wefting.{keys-room, vals-room, upper_laid_lem}
use Rattle.merge.proofs.Lent.{keys_lent, val_ends_lent, vals_lent}
use Rattle.merge.proofs.weft.Weave.write_upper.Goals as goal

pub write_items-requires : goal.write_items-requires
write_items-requires c =
    let keys0 = keys_lent _ _ c.requires.laid.first.chunk _ c.keys.ensures in
    let keys1 = keys_lent _ _ c.requires.laid.second.chunk _ c.keys-2.ensures in
    rw (keys0, keys1) (keys-room _ _ _ _ _ _ _ _ c.requires.laid _ c.requires.to_value _ refl)

pub write_layer-requires : goal.write_layer-requires
write_layer-requires c =
    let val_ends0 = val_ends_lent _ _ c.requires.laid.first.chunk _ c.val_ends.ensures in
    let val_ends1 = val_ends_lent _ _ c.requires.laid.second.chunk _ c.val_ends-2.ensures in
    let vals0 = vals_lent _ _ c.requires.laid.first.chunk _ c.vals.ensures in
    let vals1 = vals_lent _ _ c.requires.laid.second.chunk _ c.vals-2.ensures in
    let r = vals-room _ _ _ _ _ _ _ _ c.requires.laid _ c.requires.to_value _ c.write_items.auto.out in
    rw (val_ends0, val_ends1, vals0, vals1) (record { ends_room = r.ends; runs_room = r.runs })

pub returns : goal.returns
returns c =
    let keys0 = keys_lent _ _ c.requires.laid.first.chunk _ c.keys.ensures in
    let keys1 = keys_lent _ _ c.requires.laid.second.chunk _ c.keys-2.ensures in
    let val_ends0 = val_ends_lent _ _ c.requires.laid.first.chunk _ c.val_ends.ensures in
    let val_ends1 = val_ends_lent _ _ c.requires.laid.second.chunk _ c.val_ends-2.ensures in
    let vals0 = vals_lent _ _ c.requires.laid.first.chunk _ c.vals.ensures in
    let vals1 = vals_lent _ _ c.requires.laid.second.chunk _ c.vals-2.ensures in
    let k = rw (keys0, keys1) at c.write_items.ensures in
    let e = rw (val_ends0, val_ends1, vals0, vals1) at c.write_layer.ensures in
    upper_laid_lem _ _ _ _ _ _ _ _ c.requires.laid _ c.requires.to_value _ _ _ refl k e
