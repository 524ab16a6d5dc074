-- `chunk::items_rise` meets its contract: items rise where there is no fall.
use mathlib.Core.Path.{sym}
use Rattle.chunk.proofs.Falling.{unfallen}
use Rattle.chunk.proofs.items_rise.Goals as goal

pub returns : goal.returns
returns c = simp c.falls.ensures (sym (unfallen _))
