-- `merge::write::write_list` meets its contract, by the kind of the report.
use Rattle.std.proofs.Common.{◌+◌, ◌∙◌, ap, arith}
use Rattle.reports.specs.Scratch.{placed}
use Rattle.reports.specs.Write.{list_ends}
use Rattle.reports.proofs.WriteEnds.{set-placed}
use Rattle.merge.proofs.Saying.{run_wide, run_ends}
use Rattle.merge.proofs.write.write_list.Goals as goal

pub returns-in-Both-clause-out_after : goal.returns-in-Both-clause-out_after
unfolding list_ends
returns-in-Both-clause-out_after c =
    let f = rw c.in-Both.is at c.requires.fits in
    rw c.in-Both.is (set-placed c.args.at _ c.args.out.now (omega arith))

pub returns-in_default : goal.returns-in_default
returns-in_default c =
    let v = c.args in
    let e = rw c.of.ensures at c.put_lists.ensures.out_after in
    record {
      value = c.put_lists.ensures.value ∙ ap (λ n. v.at + n) (run_wide _ c.in_default.not-Both _ _);
      out_after = e ∙ ap (λ l. placed v.at l v.out.now) (run_ends _ c.in_default.not-Both _ _ _ _ _ _ _);
    }
