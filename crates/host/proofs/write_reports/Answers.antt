-- `host::write_reports` meets its contract: what is written, with what is left, is the whole.
use mathlib.Core.Path.{sym, ◌∙◌}
use Rattle.host.proofs.Surveying.{fill_start, fill_next, fill_more, fill_end}
use Rattle.host.proofs.write_reports.Goals as goal

pub loop-at-init : goal.loop-at-init
loop-at-init c = fill_start _ _ _ _ c.requires.0 c.requires.1

pub unwrap-next-requires : goal.unwrap-next-requires
unwrap-next-requires c = rw c.next_report.ensures (fill_next _ _ _ _ _ _ _ c.loop-at.invariant c.loop-at-test.true)

pub loop-at-preserved : goal.loop-at-preserved
loop-at-preserved c =
    fill_more _ _ _ _ _ _ _ c.loop-at.invariant _ (sym c.unwrap-next.ensures ∙ c.next_report.ensures) c.loop-at-test.true _ c.write_report.ensures

pub returns : goal.returns
returns c = fill_end _ _ _ _ _ _ _ c.loop-at.invariant c.loop-at-test.false
