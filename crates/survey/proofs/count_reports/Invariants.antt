-- `survey::count_reports` meets its contract: those counted and those left are all.
use mathlib.Core.Path.{◌≡◌}
use Prim.Native.Nat.{◌+◌, ◌≤◌}
use lib.ListN.{length}
use Rattle.reports.specs.Survey.{reports}
use Rattle.survey.proofs.Nexts.{left}
use Rattle.survey.proofs.count_reports.Given as goal

abbrev pub invariant-loop-next : goal.invariant-loop-next
invariant-loop-next l = record {
  in_i : l.at.i ≤ length l.xs;
  in_j : l.at.j ≤ length l.ys;
  counted : l.count + length (left l.xs l.ys l.at) ≡ length (reports l.xs l.ys);
}

abbrev pub decreases-loop-next : goal.decreases-loop-next
decreases-loop-next l = length (left l.xs l.ys l.at)
