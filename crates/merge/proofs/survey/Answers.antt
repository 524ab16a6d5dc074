use Rattle.std.proofs.Common.{◌≡◌, ◌+◌, ◌*◌, arith, rules}
use Rattle.reports.proofs.Surveying.{surveying_none, one_room, surveying_more, surveying_all}
use Rattle.merge.proofs.Clauses.{value-scratch_after}
use Rattle.merge.proofs.survey.Goals as goal

pub loop-n-init : goal.loop-n-init
loop-n-init c = let e : c.args.from + 3 * 0 ≡ c.args.from = omega arith in rw e (surveying_none _ _ _ _ _ _ _ _ c.requires)

pub survey_one-at-requires : goal.survey_one-at-requires
survey_one-at-requires c = rw c.read-report.ensures (one_room _ _ _ _ _ _ _ _ c.requires _ _ _ _ c.loop-n.invariant (search rules))

pub loop-n-preserved : goal.loop-n-preserved
loop-n-preserved c =
    let e : c.args.from + 3 * (c.loop-n.n + 1) ≡ c.args.from + 3 * c.loop-n.n + 3 = omega arith in
    rw e (surveying_more _ _ _ _ _ _ _ _ c.requires _ _ _ _ c.loop-n.invariant (search rules) _ _ (rw c.read-report.ensures at c.survey_one-at.ensures.value) (rw c.read-report.ensures at c.survey_one-at.ensures.scratch_after))

pub returns : goal.returns
returns c = value-scratch_after (surveying_all _ _ _ _ _ _ _ _ c.requires _ _ _ _ c.loop-n.invariant (search rules))
