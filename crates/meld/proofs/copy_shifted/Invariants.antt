-- `meld::copy_shifted` meets its contract: it is the copy of the ends gone up.
use Rattle.std.proofs.Common.{◌≡◌}
use Rattle.meld.specs.Copy.{shifted_all}
use Rattle.meld.proofs.Copy.{partly}
use Rattle.meld.proofs.copy_shifted.Given as goal

abbrev pub invariant-loop-i : goal.invariant-loop-i
invariant-loop-i l = l.dst ≡ partly l.initial.dst (shifted_all l.by l.ends) l.i
