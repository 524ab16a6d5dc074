-- `meld::last` meets its contract.
use Rattle.std.proofs.Common.{◌∙◌}
use Rattle.std.proofs.lemmas.Option.{unwrap_or-slice_get}
use Rattle.meld.proofs.Meeting.{last_at}
use Rattle.meld.proofs.last.Goals as goal

pub returns : goal.returns
returns c = c.unwrap_or.ensures ∙ rw (c.copied.ensures, c.last.ensures.value, unwrap_or-slice_get) (last_at _)
