-- `retain::Keep::bit` meets its contract: each arm is given which rule it is.
use mathlib.Core.Path.{sym, ◌∙◌, ap}
use Rattle.retain.specs.declared.Keep.{Keep}
use Rattle.retain.specs.Keep.{keeps}
use Rattle.retain.specs.Layers.{bit}
use Rattle.retain.proofs.Stairs.{bit_one, bit_not}
use borrow.Author.Rules.{rules}
use Rattle.retain.proofs.Keep.bit.Goals as goal

pub overflow_sub-result : goal.overflow_sub-result
overflow_sub-result c = bit_one _ _ c.open_bit-in-Shut.ensures

pub returns-in-All : goal.returns-in-All
unfolding bit
returns-in-All c = search rules

pub returns-in-Shut : goal.returns-in-Shut
returns-in-Shut c = bit_not _ _ c.open_bit-in-Shut.ensures ∙ ap (λ (k : Keep). bit (keeps k c.args.time)) (sym c.in-Shut.is)
