-- `merge::weft::write_from_surveys` meets its contract: layer by layer, and then the table.
use Rattle.std.proofs.Common.{refl, ◌∙◌, arith}
use Rattle.merge.specs.Weft.{named}
use Rattle.merge.proofs.Wefting.{laid, keys-counting, vals-counting, times-counting, places_are, in_room, whole_laid}
use Rattle.merge.proofs.weft.write_from_surveys.Goals as goal

pub places-to-requires : goal.places-to-requires
places-to-requires c =
    let y = laid c.requires in
    record {
      keys_count = keys-counting _ _ _ _ _ _ _ _ y;
      vals_count = vals-counting _ _ _ _ _ _ _ _ y;
      times_count = times-counting _ _ _ _ _ _ _ _ y;
    }

pub write_upper-requires : goal.write_upper-requires
write_upper-requires c = let y = laid c.requires in record { laid = y; to_value = places_are _ _ _ _ _ _ _ _ y _ c.places-to.ensures }

pub write_middle-requires : goal.write_middle-requires
write_middle-requires c =
    let y = laid c.requires in
    record { laid = in_room _ _ c.write_upper.auto.out y; to_value = places_are _ _ _ _ _ _ _ _ y _ c.places-to.ensures }

pub write_lower-end-requires : goal.write_lower-end-requires
write_lower-end-requires c =
    let y = laid c.requires in
    record { laid = in_room _ _ (c.write_middle.auto.out ∙ c.write_upper.auto.out) y; to_value = places_are _ _ _ _ _ _ _ _ y _ c.places-to.ensures }

pub returns : goal.returns
unfolding named
returns c =
    let y = laid c.requires in
    whole_laid _ _ _ _ _ _ _ _ y _ (places_are _ _ _ _ _ _ _ _ y _ c.places-to.ensures) _ _ _ _ _ _ refl
    c.write_upper.ensures c.write_middle.ensures c.write_lower-end.ensures.out_after (omega (arith, c.write_lower-end.ensures.value)) c.write_table.ensures
