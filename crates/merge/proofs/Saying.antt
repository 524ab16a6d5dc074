-- What a report of the code says.
use Rattle.std.proofs.Common.{◌≡◌, ℕ, ◌-◌, List, [], ◌∷◌, ◌++◌, take, drop, refl}
use Rattle.meld.specs.Copy.{shifted_all}
use Rattle.reports.specs.Survey.{Report}
use Rattle.reports.specs.Write.{width, low_of, wrapped, list_ends, group_size}
use Rattle.merge.specs.declared.report.Kind.{Kind}
use Rattle.merge.specs.declared.report.Kind.TheVariants.{This, That, Both}
use Rattle.merge.specs.Said.{by_kind, of_kind, said}

low_by : (k : Kind) (l h : ℕ) → low_of (by_kind k l h) ≡ l
low_by This l h = refl
low_by That l h = refl
low_by Both l h = refl

-- where its range starts
pub low_said : (r : Rattle.merge.specs.declared.report.Report.Report) → low_of (said r) ≡ r.low
low_said r = low_by r.kind r.low r.high

-- a run: the range that it names, of the input that it is of
pub run_wide : (k : Kind) → (k ≡ Both → ⊥) → (l h : ℕ) → h - l ≡ width (by_kind k l h)
run_wide This f l h = refl
run_wide That f l h = refl
run_wide Both f l h = absurd (f refl)

pub run_ends : (k : Kind) → (k ≡ Both → ⊥) → (a b : List ℕ) (l h x base next : ℕ)
    → shifted_all (wrapped base x) (take (h - 1 - l) (drop l (of_kind k a b))) ++ (next ∷ []) ≡ list_ends a b (by_kind k l h) x base next
unfolding list_ends
run_ends This f a b l h x base next = refl
run_ends That f a b l h x base next = refl
run_ends Both f a b l h x base next = absurd (f refl)

pub run_group : (k : Kind) → (k ≡ Both → ⊥) → (a b : List ℕ) (l h : ℕ) (is : List Report) → 1 ≡ group_size a b (by_kind k l h) is
unfolding group_size
run_group This f a b l h is = refl
run_group That f a b l h is = refl
run_group Both f a b l h is = absurd (f refl)
