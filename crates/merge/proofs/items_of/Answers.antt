use Rattle.std.proofs.Common.{◌-◌, arith}
use Rattle.reports.proofs.Surveying.{child_there}
use Rattle.merge.proofs.items_of.Goals as goal

pub returns : goal.returns
returns c =
    let r = c.requires in
    rw (c.child_range.ensures, c.child_range-2.ensures, child_there c.args.ends.now c.args.run.low (omega (arith, r.0, r.1)), child_there c.args.ends.now (c.args.run.high - 1) (omega (arith, r.0, r.1)))
