-- `merge::shared_of` meets its contract: both tests, and then the item.
use Rattle.std.proofs.Common.{[], refl, arith}
use Rattle.reports.proofs.Running.{run_both, run_short, run_past, part_there}
use Rattle.merge.proofs.shared_of.Goals as goal
use Rattle.merge.proofs.shared_of.Goals.{then-second-high-via-then-second-high, then-second-high-via-else-second-high+then-first-low}

pub returns-then-second-high : goal.returns-then-second-high
returns-then-second-high c =
    elim c.then-second-high.branch [
      | then-second-high-via-then-second-high w ↦ run_short _ _ _ _ _ [] refl w.if-second-high.true
      | then-second-high-via-else-second-high+then-first-low w ↦ run_past _ _ _ _ _ refl w.if-second-high.false w.if-first-low.true
    ]

pub returns : goal.returns
returns c = run_both _ _ _ _ _ _ refl c.if-second-high.false (part_there _ _ _ (omega arith) (omega (arith, c.if-first-low.false)))
