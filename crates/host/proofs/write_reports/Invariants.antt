-- `host::write_reports` meets its contract: what is written, with what is left, is the whole.
use Rattle.survey.specs.Reports.{keys_of}
use Rattle.host.proofs.Surveying.{Filling}
use Rattle.host.proofs.write_reports.Given as goal

abbrev pub invariant-loop-at : goal.invariant-loop-at
invariant-loop-at l = Filling (keys_of l.a) (keys_of l.b) l.count l.initial.out l.spot l.at l.out
