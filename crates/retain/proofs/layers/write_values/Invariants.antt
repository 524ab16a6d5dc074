-- `retain::layers::write_values` meets its contract: what is written of the values and their times, with what is left to write, is the whole.
use Rattle.retain.specs.Source.{WovenOf}
use Rattle.retain.proofs.layers.write_values.Given as goal

abbrev pub invariant-loop-i : goal.invariant-loop-i
invariant-loop-i l = WovenOf l.source l.nv l.nt l.out (record { vals = l.at; time = l.start; times = l.total }) l.i
