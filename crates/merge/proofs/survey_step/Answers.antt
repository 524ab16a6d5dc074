use Rattle.std.proofs.Common.{◌+◌, ◌≤◌, length, arith}
use Rattle.reports.proofs.Galloping.{rises-on}
use Rattle.merge.proofs.Fronts.{run_counted, counted_part}
use Rattle.merge.proofs.Stepping.{stepped_both, stepped_this, stepped_that}
use Rattle.merge.proofs.Clauses.{value-scratch_after}
use Rattle.merge.proofs.survey_step.Goals as goal

pub returns-then-val0-val1 : goal.returns-then-val0-val1
returns-then-val0-val1 c = value-scratch_after (stepped_both _ _ _ _ _ _ _ _ _ c.if-val0-val1.true (rw c.both.ensures at c.write.ensures))

pub gallop-requires : goal.gallop-requires
gallop-requires c = (rises-on _ _ _ c.requires.left.0 c.requires.pair_room.rise0).rise

pub overflow_add-end-then-val0-val1-2 : goal.overflow_add-end-then-val0-val1-2
overflow_add-end-then-val0-val1-2 c = let h : c.args.spot.lower0 + 1 + c.gallop.result ≤ length c.args.items0.now = counted_part _ _ _ _ _ (rises-on _ _ _ c.requires.left.0 c.requires.pair_room.rise0) c.gallop.ensures in omega arith

pub returns-then-val0-val1-2 : goal.returns-then-val0-val1-2
returns-then-val0-val1-2 c = value-scratch_after (stepped_this _ _ _ _ _ _ _ _ _ _ c.requires.left.0 c.requires.pair_room.rise0.within c.if-val0-val1-2.true (run_counted _ _ _ _ _ c.gallop.ensures) (rw c.this.ensures at c.write-then-val0-val1-2.ensures))

pub gallop-requires-2 : goal.gallop-requires-2
gallop-requires-2 c = (rises-on _ _ _ c.requires.left.1 c.requires.pair_room.rise1).rise

pub overflow_add-end-3 : goal.overflow_add-end-3
overflow_add-end-3 c = let h : c.args.spot.lower1 + 1 + c.gallop-2.result ≤ length c.args.items1.now = counted_part _ _ _ _ _ (rises-on _ _ _ c.requires.left.1 c.requires.pair_room.rise1) c.gallop-2.ensures in omega arith

pub returns : goal.returns
returns c = value-scratch_after (stepped_that _ _ _ _ _ _ _ _ _ _ c.requires.left.1 c.requires.pair_room.rise1.within c.if-val0-val1.false c.if-val0-val1-2.false (run_counted _ _ _ _ _ c.gallop-2.ensures) (rw c.that.ensures at c.write-2.ensures))
