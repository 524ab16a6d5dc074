-- `retain::look::not_above` meets its contract: the sum passes one half of a word where it is not below.
use Rattle.retain.proofs.Stairs.{half-bit}
use Rattle.retain.proofs.look.not_above.Goals as goal

pub returns : goal.returns
returns c = half-bit c.args.a c.args.b c.requires.0 c.requires.1
