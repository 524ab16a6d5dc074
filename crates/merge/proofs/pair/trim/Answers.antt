-- `merge::pair::trim` meets its contract: back over the runs of the last one's kind.
use Rattle.std.proofs.Common.{◌≡◌, sym, ap, ◌∙◌, arith}
use borrow.Author.Tests.{not-true, not-false}
use Rattle.reports.proofs.TrimBack.{not_none, back_none, back_more, back_found, back_shared, back_empty}
use Rattle.merge.proofs.Naming.{code, kind_read, same_kind, other_kind, run_code, code_alike}
use Rattle.merge.specs.declared.report.Kind.TheVariants.{Both}
use Rattle.merge.proofs.pair.trim.Goals as goal

pub returns-then-count-eq0 : goal.returns-then-count-eq0
returns-then-count-eq0 c = back_empty _ _ _ c.if-count-eq0.true

pub returns-then-eq : goal.returns-then-eq
returns-then-eq c = back_shared _ _ _ (not_none _ c.if-count-eq0.false) (kind_read _ _ _ _ c.read-kind.ensures ∙ ap code (same_kind _ Both (sym c.eq.ensures ∙ c.if-eq.true)))

pub loop-i-init : goal.loop-i-init
loop-i-init c = back_none _ _ _ _ (not_none _ c.if-count-eq0.false) (run_code _ (other_kind _ _ (sym c.eq.ensures ∙ c.if-eq.false))) (kind_read _ _ _ _ c.read-kind.ensures)

pub returns-then-ne : goal.returns-then-ne
returns-then-ne c =
    let i = c.loop-i.i in
    omega (
      arith,
      back_found _ _ _ _ i (λ h e. other_kind _ _ (not-true _ (sym c.ne.ensures ∙ c.if-ne.true)) (code_alike _ _ (sym (kind_read _ _ _ _ c.read.ensures) ∙ e))) c.loop-i.invariant,
      c.loop-i-test.true,
    )

pub loop-i-preserved : goal.loop-i-preserved
loop-i-preserved c =
    back_more _ _ _ _ _ (omega (arith, c.loop-i-test.true)) (kind_read _ _ _ _ c.read.ensures ∙ ap code (same_kind _ _ (not-false _ (sym c.ne.ensures ∙ c.if-ne.false)))) c.loop-i.invariant

pub returns : goal.returns
returns c =
    let e : 0 ≡ c.loop-i.i = omega (arith, c.loop-i-test.false) in
    e ∙ back_found _ _ _ _ _ (λ h q. absurd (omega (arith, c.loop-i-test.false))) c.loop-i.invariant
