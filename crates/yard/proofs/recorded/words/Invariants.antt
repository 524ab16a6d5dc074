-- `yard::recorded::words` reads no more words than 64.
use Rattle.std.proofs.Common.{◌≤◌}
use Rattle.yard.proofs.recorded.words.Given as goal

abbrev pub invariant-loop-text : goal.invariant-loop-text
invariant-loop-text l = l.count ≤ 64
