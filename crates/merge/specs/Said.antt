-- What a report of the code says: a run of one input, or an item of both.
use Rattle.std.specs.Prelude.{ℕ}
use Rattle.reports.specs.Survey.{Report, this, that, both}
use Rattle.merge.specs.declared.report.Kind.{Kind}
use Rattle.merge.specs.declared.report.Kind.TheVariants.{This, That, Both}

-- a report by its kind
abbrev pub by_kind : Kind → ℕ → ℕ → Report
by_kind This l h = this l h
by_kind That l h = that l h
by_kind Both l h = both l h

-- a report of the code as one
abbrev pub said : Rattle.merge.specs.declared.report.Report.Report → Report
said r = by_kind r.kind r.low r.high

-- the one of two inputs that a run is of
abbrev pub of_kind : {A : Type 0} → Kind → A → A → A
of_kind This a b = a
of_kind That a b = b
of_kind Both a b = a
