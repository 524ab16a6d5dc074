-- `yard::extracts::stair` stays within its buffer.
use Rattle.std.proofs.Common.{◌≡◌, length}
use Rattle.yard.proofs.extracts.stair.Given as goal

abbrev pub invariant-loop-i : goal.invariant-loop-i
invariant-loop-i l = length l.out ≡ 400
