-- `meld::first` meets its contract.
use Rattle.std.proofs.Common.{◌∙◌}
use Rattle.std.proofs.lemmas.Option.{unwrap_or-slice_get}
use Rattle.meld.proofs.Meeting.{first_at}
use Rattle.meld.proofs.first.Goals as goal

pub returns : goal.returns
returns c = c.unwrap_or.ensures ∙ rw (c.copied.ensures, c.first.ensures.value, unwrap_or-slice_get) (first_at _)
