-- `merge::pair::report_fits` meets its contract: only a shared time has a sum.
use Rattle.std.proofs.Common.{arith}
use Rattle.reports.proofs.Fitting.{shared_fits}
use Rattle.merge.proofs.Naming.{run_fits}
use Rattle.merge.proofs.pair.report_fits.Goals as goal

pub returns-in-Both : goal.returns-in-Both
returns-in-Both c = rw c.in-Both.is (shared_fits c.args.diffs.first.now c.args.diffs.second.now 2 c.args.report.low c.args.report.high (omega arith) c.sum_fits.ensures)

pub returns-in_default : goal.returns-in_default
returns-in_default c = run_fits c.args.diffs.first.now c.args.diffs.second.now c.args.report.kind c.args.report.low c.args.report.high c.in_default.not-Both
