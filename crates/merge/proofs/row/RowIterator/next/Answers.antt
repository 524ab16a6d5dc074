-- `merge::row::RowIterator::next` gives the first of the reports that are left, and leaves the others.
use Rattle.std.proofs.Common.{◌∙◌, ap, arith, rules, length}
use Rattle.merge.proofs.Rows.{none_at, first_at}
use Rattle.merge.proofs.row.RowIterator.next.Goals as goal

pub returns-then-self-eq0-clause-steps : goal.returns-then-self-eq0-clause-steps
returns-then-self-eq0-clause-steps c = (none_at _ _ _ c.if-self-eq0.true, none_at _ _ _ c.if-self-eq0.true)

pub returns-clause-steps : goal.returns-clause-steps
returns-clause-steps c = first_at _ _ _ (omega (arith, c.if-self-eq0.false)) ∙ rw c.read-report.ensures

pub returns-clause-goes : goal.returns-clause-goes
returns-clause-goes c =
    let old = c.args.self.now in
    let shorter = ap length (first_at old.words.now old.from old.count (omega (arith, c.if-self-eq0.false))) in search rules
