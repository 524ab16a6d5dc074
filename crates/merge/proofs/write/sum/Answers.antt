-- `merge::write::sum` meets its contract: words are added as signed numbers are.
use Rattle.std.proofs.Common.{sym}
use Rattle.laws.proofs.Wrap.{plus_wraps}
use Rattle.merge.proofs.write.sum.Goals as goal

pub returns : goal.returns
returns c = sym (plus_wraps _ _ c.ranges.x.fits c.ranges.y.fits)
