use Rattle.std.proofs.Common.{sym}
use Rattle.merge.proofs.Rows.{take_reports}
use Rattle.merge.proofs.row.Row.front.Goals as goal

pub returns : goal.returns
returns c = sym (take_reports _ _ _ _ c.requires)
