use Rattle.merge.proofs.Layering.{keys-room, keys_done, vals-room, vals_done, times-room, times_done}
use Rattle.merge.proofs.Lent.{keys_lent, val_ends_lent, vals_lent, time_ends_lent, times_lent}
use Rattle.merge.proofs.survey_layers.Goals as goal

pub survey_pair-keys-requires : goal.survey_pair-keys-requires
survey_pair-keys-requires c =
    let y = c.requires in
    keys-room _ _ _ _ _ y _ _ (keys_lent _ _ y.first _ c.keys.ensures) (keys_lent _ _ y.second _ c.keys-2.ensures)

pub survey-vals-requires : goal.survey-vals-requires
survey-vals-requires c =
    let y = c.requires in
    let d = keys_done _ _ _ _ _ y _ _ _ _ (keys_lent _ _ y.first _ c.keys.ensures) (keys_lent _ _ y.second _ c.keys-2.ensures) c.survey_pair-keys.ensures.value c.survey_pair-keys.ensures.scratch_after in
    vals-room _ _ _ _ _ y _ _ d _ _ _ _ (val_ends_lent _ _ y.first _ c.vals.ensures.ends) (vals_lent _ _ y.first _ c.vals.ensures.items) (val_ends_lent _ _ y.second _ c.vals-2.ensures.ends) (vals_lent _ _ y.second _ c.vals-2.ensures.items)

pub survey-times-requires : goal.survey-times-requires
survey-times-requires c =
    let y = c.requires in
    let d = keys_done _ _ _ _ _ y _ _ _ _ (keys_lent _ _ y.first _ c.keys.ensures) (keys_lent _ _ y.second _ c.keys-2.ensures) c.survey_pair-keys.ensures.value c.survey_pair-keys.ensures.scratch_after in
    let g = vals_done _ _ _ _ _ y _ _ d _ _ _ _ _ _ (val_ends_lent _ _ y.first _ c.vals.ensures.ends) (vals_lent _ _ y.first _ c.vals.ensures.items) (val_ends_lent _ _ y.second _ c.vals-2.ensures.ends) (vals_lent _ _ y.second _ c.vals-2.ensures.items) c.survey-vals.ensures.value c.survey-vals.ensures.scratch_after in
    times-room _ _ _ _ _ y _ _ d _ _ g _ _ _ _ (time_ends_lent _ _ y.first _ c.times.ensures.ends) (times_lent _ _ y.first _ c.times.ensures.items) (time_ends_lent _ _ y.second _ c.times-2.ensures.ends) (times_lent _ _ y.second _ c.times-2.ensures.items)

pub returns : goal.returns
returns c =
    let y = c.requires in
    let d = keys_done _ _ _ _ _ y _ _ _ _ (keys_lent _ _ y.first _ c.keys.ensures) (keys_lent _ _ y.second _ c.keys-2.ensures) c.survey_pair-keys.ensures.value c.survey_pair-keys.ensures.scratch_after in
    let g = vals_done _ _ _ _ _ y _ _ d _ _ _ _ _ _ (val_ends_lent _ _ y.first _ c.vals.ensures.ends) (vals_lent _ _ y.first _ c.vals.ensures.items) (val_ends_lent _ _ y.second _ c.vals-2.ensures.ends) (vals_lent _ _ y.second _ c.vals-2.ensures.items) c.survey-vals.ensures.value c.survey-vals.ensures.scratch_after in
    times_done _ _ _ _ _ y _ _ d _ _ g _ _ _ _ _ _ (time_ends_lent _ _ y.first _ c.times.ensures.ends) (times_lent _ _ y.first _ c.times.ensures.items) (time_ends_lent _ _ y.second _ c.times-2.ensures.ends) (times_lent _ _ y.second _ c.times-2.ensures.items) c.survey-times.ensures.value c.survey-times.ensures.scratch_after
