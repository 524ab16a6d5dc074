-- The kinds of reports: of which numbers they are, and what a report of each names.
use Rattle.std.proofs.Common.{◌≡◌, ℕ, ◌≤◌, true, false, not, List, [], ◌∷◌, refl, sym, ap, ◌∙◌, arith}
use denote.Enum.Bare.{sameb}
use Rattle.laws.proofs.Tests.{true-not-false}
use Rattle.reports.specs.Survey.{Report}
use Rattle.reports.specs.Tail.{overflows_by}
use Rattle.reports.proofs.Trimming.{kind_of}
use Rattle.merge.specs.contracts.report.Kind.{the_type}
use Rattle.merge.specs.declared.report.Kind.{Kind}
use Rattle.merge.specs.declared.report.Kind.TheVariants.{This, That, Both}
use Rattle.merge.specs.Said.{by_kind}

-- the number of a kind
abbrev pub code : Kind → ℕ
code This = 0
code That = 1
code Both = 2

said_kind : (k : Kind) (l h : ℕ) → kind_of (by_kind k l h) ≡ code k
said_kind This l h = refl
said_kind That l h = refl
said_kind Both l h = refl

-- the kind of a report as it stands in three words
pub kind_read : (k : Kind) (l h : ℕ) (r : Report) → by_kind k l h ≡ r → kind_of r ≡ code k
kind_read k l h r e = ap kind_of (sym e) ∙ said_kind k l h

-- what the test of two kinds says
pub same_kind : (j k : Kind) → sameb the_type j k ≡ true → j ≡ k
same_kind This This e = refl
same_kind This That e = absurd (true-not-false (sym e))
same_kind This Both e = absurd (true-not-false (sym e))
same_kind That This e = absurd (true-not-false (sym e))
same_kind That That e = refl
same_kind That Both e = absurd (true-not-false (sym e))
same_kind Both This e = absurd (true-not-false (sym e))
same_kind Both That e = absurd (true-not-false (sym e))
same_kind Both Both e = refl

same_itself : (j : Kind) → sameb the_type j j ≡ true
same_itself This = refl
same_itself That = refl
same_itself Both = refl

pub other_kind : (j k : Kind) → sameb the_type j k ≡ false → j ≡ k → ⊥
other_kind j k e q = true-not-false (sym (same_itself j) ∙ ap (sameb the_type j) q ∙ e)

-- a run of one input
pub run_code : (k : Kind) → (k ≡ Both → ⊥) → code k ≤ 1
run_code This f = omega arith
run_code That f = omega arith
run_code Both f = absurd (f refl)

pub code_alike : (j k : Kind) → code j ≡ code k → j ≡ k
code_alike This This e = refl
code_alike This That e = absurd (omega arith)
code_alike This Both e = absurd (omega arith)
code_alike That This e = absurd (omega arith)
code_alike That That e = refl
code_alike That Both e = absurd (omega arith)
code_alike Both This e = absurd (omega arith)
code_alike Both That e = absurd (omega arith)
code_alike Both Both e = refl

module _ (a b : List ℕ) where
  -- a run has no sums
  pub run_fits : (k : Kind) (l h : ℕ) → (k ≡ Both → ⊥) → true ≡ not (overflows_by a b (by_kind k l h ∷ []))
  unfolding overflows_by
  run_fits This l h f = refl
  run_fits That l h f = refl
  run_fits Both l h f = absurd (f refl)
