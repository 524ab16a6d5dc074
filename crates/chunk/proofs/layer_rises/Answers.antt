-- `chunk::layer_rises` meets its contract: where there are as many items as ends, the ends alone tell.
use mathlib.Core.Path.{◌∙◌}
use Rattle.chunk.proofs.Counting.{alone}
use Rattle.chunk.proofs.layer_rises.Goals as goal

pub returns-then-ends-items : goal.returns-then-ends-items
returns-then-ends-items c = c.counts_up.ensures ∙ alone _ c.args.items.now c.if-ends-items.true
