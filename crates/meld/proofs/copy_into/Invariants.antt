-- `meld::copy_into` meets its contract.
use Rattle.std.proofs.Common.{◌≡◌}
use Rattle.meld.proofs.Copy.{partly}
use Rattle.meld.proofs.copy_into.Given as goal

abbrev pub invariant-loop-i : goal.invariant-loop-i
invariant-loop-i l = l.dst ≡ partly l.initial.dst l.src l.i
