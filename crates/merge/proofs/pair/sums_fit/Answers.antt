-- `merge::pair::sums_fit` meets its contract: the reports that are left decide.
use Rattle.reports.proofs.Fitting.{next_serves, next_decides, decides_not, all_decided}
use Rattle.merge.proofs.pair.sums_fit.Goals as goal

pub report_fits-requires : goal.report_fits-requires
report_fits-requires c = next_serves _ _ _ _ _ (rw c.in-Some.ensures.steps at c.loop-report.invariant)

pub returns-then-not-report_fits : goal.returns-then-not-report_fits
returns-then-not-report_fits c = decides_not _ _ _ _ _ (rw c.in-Some.ensures.steps at c.loop-report.invariant) c.report_fits.ensures c.if-not-report_fits.true

pub loop-report-preserved : goal.loop-report-preserved
loop-report-preserved c = next_decides _ _ _ _ _ (rw c.in-Some.ensures.steps at c.loop-report.invariant) c.report_fits.ensures c.if-not-report_fits.false

pub returns : goal.returns
returns c = all_decided _ _ _ (rw c.in-None.ensures.steps.0 at c.loop-report.invariant)
