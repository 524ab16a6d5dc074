use Rattle.std.proofs.Common.{◌∙◌, sym, ap}
use Rattle.reports.specs.Write.{low_of, first_low}
use Rattle.merge.proofs.Rows.{first_at}
use Rattle.merge.proofs.Saying.{low_said}
use Rattle.merge.proofs.row.Row.low.Goals as goal

pub returns : goal.returns
returns c = sym (low_said c.read.result) ∙ ap low_of c.read.ensures ∙ sym (ap first_low (first_at _ _ _ c.requires))
