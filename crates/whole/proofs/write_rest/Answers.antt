-- `whole::write_rest` meets its contract: the suffix of whoever survives.
use mathlib.Core.Path.{refl}
use Rattle.whole.specs.Whole.{rest_number, rest_out}
use Rattle.whole.proofs.Parts.{rest_known}
use Rattle.whole.proofs.Clauses.{value-rest_after}
use Rattle.whole.proofs.write_rest.Goals as goal

pub returns-in-Nobody : goal.returns-in-Nobody
unfolding rest_number rest_out
returns-in-Nobody c = value-rest_after (rest_known _ _ _ _ _ _ _ c.in-Nobody.is refl refl)

pub returns-in-First : goal.returns-in-First
unfolding rest_number rest_out
returns-in-First c = value-rest_after (rest_known _ _ _ _ _ _ _ c.in-First.is c.suffix_chunk.ensures.value c.suffix_chunk.ensures.out_after)

pub returns-in-Second : goal.returns-in-Second
unfolding rest_number rest_out
returns-in-Second c = value-rest_after (rest_known _ _ _ _ _ _ _ c.in-Second.is c.suffix_chunk-in-Second.ensures.value c.suffix_chunk-in-Second.ensures.out_after)
