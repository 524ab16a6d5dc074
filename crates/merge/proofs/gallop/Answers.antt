use Rattle.std.proofs.Common.{◌<◌, length, sym, ◌∙◌, arith}
use Rattle.reports.proofs.Galloping.{at-short}
use Rattle.merge.proofs.Fronts.{none_under, all_under}
use Rattle.merge.proofs.gallop.Goals as goal

pub returns-then-not-below_at : goal.returns-then-not-below_at
returns-then-not-below_at c = none_under _ _ (sym c.below_at.ensures ∙ c.if-not-below_at.true) c.requires

pub gallop_up-stride-requires : goal.gallop_up-stride-requires
gallop_up-stride-requires c = sym c.below_at.ensures ∙ c.if-not-below_at.false

pub overflow_add-result : goal.overflow_add-result
overflow_add-result c = let h : c.gallop_down.result < length c.args.items.now = at-short _ _ _ _ c.gallop_down.ensures.under in omega arith

pub returns : goal.returns
returns c = all_under _ _ _ c.requires c.gallop_down.ensures
