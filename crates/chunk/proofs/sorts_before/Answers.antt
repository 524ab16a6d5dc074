-- `chunk::sorts_before` meets its contract: the numbers' order is ignition first, then tick.
use Rattle.chunk.proofs.Tests.{earlier_is_less}
use Rattle.chunk.proofs.sorts_before.Goals as goal

pub returns : goal.returns
returns c = earlier_is_less c.args.s c.args.t
