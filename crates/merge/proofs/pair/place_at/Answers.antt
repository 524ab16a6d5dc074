-- `merge::pair::place_at` meets its contract: the value by the ends of times, the key by the ends of values.
use Rattle.std.proofs.Common.{◌+◌, ap, ◌∙◌, arith}
use Rattle.reports.specs.Survey.{below}
use Rattle.reports.proofs.Moving.{reading}
use Rattle.merge.proofs.Sounding.{place_found}
use Rattle.merge.proofs.Fronts.{under_length}
use Rattle.merge.proofs.Lent.{val_ends_lent, time_ends_lent, val_ends_rise, time_ends_rise}
use Rattle.merge.proofs.pair.place_at.Goals as goal

pub overflow_add-t : goal.overflow_add-t
overflow_add-t c = let r = reading _ _ c.requires.read in omega (arith, c.requires.t_in_bounds, r.counted, r.small)

pub gallop-v-requires : goal.gallop-v-requires
gallop-v-requires c = time_ends_rise _ _ c.requires.read _ c.time_ends.ensures

pub overflow_add-v : goal.overflow_add-v
overflow_add-v c = omega (arith, c.gallop-v.ensures, under_length c.time_ends.result.now (c.args.t + 1))

pub gallop-k-requires : goal.gallop-k-requires
gallop-k-requires c = val_ends_rise _ _ c.requires.read _ c.val_ends.ensures

pub returns : goal.returns
returns c =
    let d = c.requires.read in
    place_found _ _ _ _ c.requires.t_in_bounds (c.gallop-v.ensures ∙ ap (below (c.args.t + 1)) (time_ends_lent _ _ d _ c.time_ends.ensures)) (c.gallop-k.ensures ∙ ap (below (c.gallop-v.result + 1)) (val_ends_lent _ _ d _ c.val_ends.ensures))
