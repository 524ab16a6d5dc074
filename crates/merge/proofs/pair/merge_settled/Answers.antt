use Rattle.std.proofs.Common.{refl}
use Rattle.merge.proofs.Gluing.{surveyed_stand}
use Rattle.merge.proofs.Settling.{surveyed, too_large, weft, times_left, runs_are, trails, settled_merge}
use Rattle.merge.proofs.pair.merge_settled.Goals as goal

pub adds_up-requires : goal.adds_up-requires
adds_up-requires c = surveyed c.args.first.words.now c.args.first.contents c.args.second.words.now c.args.second.contents c.args.scratch.now _ c.args.out.now _ c.requires c.survey_layers-surveys.ensures c.survey_layers-surveys.auto.scratch

pub returns-then-not-adds_up : goal.returns-then-not-adds_up
returns-then-not-adds_up c = too_large c.args.first.words.now c.args.first.contents c.args.second.words.now c.args.second.contents c.args.scratch.now _ c.args.out.now _ c.requires c.survey_layers-surveys.ensures c.survey_layers-surveys.auto.scratch _ c.adds_up.ensures c.if-not-adds_up.true _ refl

pub trim_surveys-spans-requires : goal.trim_surveys-spans-requires
trim_surveys-spans-requires c = surveyed_stand _ _ _ _ _ _ (surveyed c.args.first.words.now c.args.first.contents c.args.second.words.now c.args.second.contents c.args.scratch.now _ c.args.out.now _ c.requires c.survey_layers-surveys.ensures c.survey_layers-surveys.auto.scratch)

pub write_from_surveys-requires : goal.write_from_surveys-requires
write_from_surveys-requires c = weft c.args.first.words.now c.args.first.contents c.args.second.words.now c.args.second.contents c.args.scratch.now _ c.args.out.now _ c.requires c.survey_layers-surveys.ensures c.survey_layers-surveys.auto.scratch _ c.trim_surveys-spans.ensures

pub row_between-times-requires : goal.row_between-times-requires
row_between-times-requires c = let t = surveyed_stand _ _ _ _ _ _ (surveyed c.args.first.words.now c.args.first.contents c.args.second.words.now c.args.second.contents c.args.scratch.now _ c.args.out.now _ c.requires c.survey_layers-surveys.ensures c.survey_layers-surveys.auto.scratch) in (t.vals-times, t.stand)

pub past-requires : goal.past-requires
past-requires c = times_left c.args.first.words.now c.args.first.contents c.args.second.words.now c.args.second.contents c.args.scratch.now _ c.args.out.now _ c.requires c.survey_layers-surveys.ensures c.survey_layers-surveys.auto.scratch _ c.trim_surveys-spans.ensures _ _ _ c.row_between-times.ensures

pub survivor_of-requires : goal.survivor_of-requires
survivor_of-requires c = trails c.args.first.words.now c.args.first.contents c.args.second.words.now c.args.second.contents c.args.scratch.now _ c.args.out.now _ c.requires c.survey_layers-surveys.ensures c.survey_layers-surveys.auto.scratch _ c.trim_surveys-spans.ensures _ (runs_are c.args.first.words.now c.args.first.contents c.args.second.words.now c.args.second.contents c.args.scratch.now _ c.args.out.now _ c.requires c.survey_layers-surveys.ensures c.survey_layers-surveys.auto.scratch _ c.trim_surveys-spans.ensures _ _ c.row_between-times.ensures c.past.ensures)

pub returns : goal.returns
returns c = settled_merge c.args.first.words.now c.args.first.contents c.args.second.words.now c.args.second.contents c.args.scratch.now _ c.args.out.now _ c.requires c.survey_layers-surveys.ensures c.survey_layers-surveys.auto.scratch _ c.trim_surveys-spans.ensures _ c.adds_up.ensures c.if-not-adds_up.false _ c.write_from_surveys.ensures _ (runs_are c.args.first.words.now c.args.first.contents c.args.second.words.now c.args.second.contents c.args.scratch.now _ c.args.out.now _ c.requires c.survey_layers-surveys.ensures c.survey_layers-surveys.auto.scratch _ c.trim_surveys-spans.ensures _ _ c.row_between-times.ensures c.past.ensures) _ c.survivor_of.ensures
