-- `retain::layers::write_list` meets its contract: what is written of the times, with what is left to write, is the whole.
use mathlib.Core.Path.{◌≡◌}
use Rattle.chunk.specs.Contents.{start_of}
use Rattle.retain.specs.Source.{LeavingOf}
use Rattle.retain.proofs.layers.write_list.Given as goal

abbrev pub invariant-loop-i : goal.invariant-loop-i
invariant-loop-i l = record {
  lower : l.lower ≡ start_of l.source.diff_ends.now l.i;
  leaving : LeavingOf l.source l.n l.out l.at l.i;
}
