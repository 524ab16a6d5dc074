use Rattle.std.proofs.Common.{sym}
use Rattle.merge.proofs.Rows.{drop_reports}
use Rattle.merge.proofs.row.Row.past.Goals as goal

pub returns : goal.returns
returns c = sym (drop_reports _ _ _ _ c.requires)
