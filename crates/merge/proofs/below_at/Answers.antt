use Rattle.std.proofs.Common.{length, le-ltb, lt-ltb}
use Rattle.reports.specs.Gallop.{below_at}
use Rattle.merge.proofs.below_at.Goals as goal

pub returns-then-at-items : goal.returns-then-at-items
unfolding below_at
returns-then-at-items c = rw (lt-ltb c.args.at (length c.args.items.now) c.if-at-items.true)

pub returns-else-at-items : goal.returns-else-at-items
unfolding below_at
returns-else-at-items c = rw (le-ltb c.args.at (length c.args.items.now) c.if-at-items.false)
