-- `chunk::beside::look_settled` meets its contract: the falls are those counted so far and those of the times left, and so are the ends and the diffs tested.
use Rattle.chunk.proofs.Looking.{Looked, Marked}
use Rattle.chunk.proofs.beside.look_settled.Given as goal

abbrev pub invariant-loop-i : goal.invariant-loop-i
invariant-loop-i l = Looked l.times l.low l.high l.fell l.last l.i × Marked l.ends l.diffs l.low l.wrong l.good l.i
