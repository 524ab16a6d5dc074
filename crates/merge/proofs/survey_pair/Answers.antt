use Rattle.std.proofs.Common.{sym, refl, arith, rules}
use Rattle.reports.specs.Scratch.{report_words}
use Rattle.reports.proofs.Placing.{placed-none}
use Rattle.reports.proofs.Ranges.{pair_none, pair_this, pair_that}
use Rattle.merge.proofs.Along.{along_start, along_step, along_less, along_end}
use Rattle.merge.proofs.Clauses.{value-scratch_after}
use Rattle.merge.proofs.survey_pair.Goals as goal

pub returns-then-items1-spot : goal.returns-then-items1-spot
unfolding report_words
returns-then-items1-spot c = value-scratch_after (along_end _ _ _ _ _ _ _ _ _ _ _ _ _ _ _ (pair_this _ _ _ _ _ _ (search rules) c.loop-spot.invariant.rise0.within (search rules)) (rw c.this.ensures at c.write.ensures) refl c.loop-spot.invariant)

pub loop-spot-init : goal.loop-spot-init
loop-spot-init c = along_start _ _ _ _ _ _ _ _ c.requires

pub loop-spot-smaller : goal.loop-spot-smaller
loop-spot-smaller c = along_less _ _ _ _ _ _ _ _ _ _ _ _ _ (search rules) (search rules) c.survey_step-spot.ensures.value c.loop-spot.invariant

pub loop-spot-preserved : goal.loop-spot-preserved
loop-spot-preserved c = along_step _ _ _ _ _ _ _ _ _ _ _ _ _ _ (search rules) (search rules) c.survey_step-spot.ensures.value c.survey_step-spot.ensures.scratch_after c.loop-spot.invariant

pub returns-then-spot-items1 : goal.returns-then-spot-items1
unfolding report_words
returns-then-spot-items1 c = value-scratch_after (along_end _ _ _ _ _ _ _ _ _ _ _ _ _ _ _ (pair_that _ _ _ _ _ _ (search rules) (search rules) c.loop-spot.invariant.rise1.within) (rw c.that.ensures at c.write-then-spot-items1.ensures) refl c.loop-spot.invariant)

pub returns : goal.returns
unfolding report_words
returns c = value-scratch_after (along_end _ _ _ _ _ _ _ _ _ _ _ _ _ _ _ (pair_none _ _ _ _ _ _ (search rules) (search rules)) (sym (placed-none _ _)) (omega arith) c.loop-spot.invariant)
