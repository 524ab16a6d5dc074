-- `chunk::is_level` meets its contract: each of the four tests says one of the four facts.
use Rattle.chunk.proofs.Rowing.{levelled}
use Rattle.chunk.proofs.is_level.Goals as goal

pub returns : goal.returns
returns c = levelled c.args.found
