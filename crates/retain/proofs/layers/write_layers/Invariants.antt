-- `retain::layers::write_layers` meets its contract: what is written of the keys, the values and the times, with what is left to write, is the whole.
use Prim.Native.Nat.{◌-◌, ◌≤◌}
use lib.ListN.{length}
use Rattle.retain.specs.Source.{time_stays}
use Rattle.retain.proofs.Weaving.{Layering}
use Rattle.retain.proofs.layers.write_layers.Given as goal

abbrev pub invariant-loop-at : goal.invariant-loop-at
invariant-loop-at l = record {
  within : l.i ≤ length l.source.keys.now;
  layering : Layering (time_stays l.source) l.source.keys.now l.source.val_ends.now l.source.vals.now l.source.time_ends.now l.source.times.now l.source.diff_ends.now l.source.diffs.now
      l.nk l.nv l.nt l.out l.start l.reached.time l.reached.times l.reached.vals l.at l.i;
}

abbrev pub decreases-loop-at : goal.decreases-loop-at
decreases-loop-at l = length l.source.keys.now - l.i
