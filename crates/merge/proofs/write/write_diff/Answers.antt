-- `merge::write::write_diff` meets its contract: a shared time's sum is written where it isn't 0.
use Rattle.std.proofs.Common.{◌≡◌, rules, arith}
use Rattle.merge.specs.declared.report.Kind.TheVariants.{Both}
use Rattle.reports.proofs.WriteDiffs.{none_written, one_written}
use Rattle.merge.proofs.write.write_diff.Goals as goal

pub returns-then-change-eq0-clause-out_after : goal.returns-then-change-eq0-clause-out_after
returns-then-change-eq0-clause-out_after c =
    let k : c.args.report.kind ≡ Both = search rules in
    let z = none_written c.args.at c.args.out.now _ c.if-change-eq0.true in
    rw (k, ← c.sum-change.ensures) z.1

pub returns-clause-out_after : goal.returns-clause-out_after
returns-clause-out_after c =
    let k : c.args.report.kind ≡ Both = search rules in
    let f = rw k at c.requires.fits in
    let z = one_written c.args.at c.args.out.now _ c.if-change-eq0.false (omega arith) in
    rw (k, ← c.sum-change.ensures) z.1
