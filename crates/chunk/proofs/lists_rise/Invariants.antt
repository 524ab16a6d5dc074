-- `chunk::lists_rise` meets its contract: where the ends rise, the lists of each part do where all its falls are at their starts.
use Rattle.chunk.proofs.Parting.{Tested}
use Rattle.chunk.proofs.lists_rise.Given as goal

abbrev pub invariant-loop-part : goal.invariant-loop-part
invariant-loop-part l = Tested l.ends l.items l.part-iterator l.low
