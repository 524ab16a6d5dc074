-- `survey::survey` meets its contract: what is stored of the reports, with those that are left, is the whole survey.
use Rattle.survey.proofs.Fills.{Filled}
use Rattle.survey.proofs.survey.Given as goal

abbrev pub invariant-loop-report : goal.invariant-loop-report
invariant-loop-report l = Filled l.xs l.ys l.spot l.report-index l.report-items
