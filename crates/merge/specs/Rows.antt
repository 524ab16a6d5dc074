-- The reports of a row.
use Rattle.std.specs.Prelude.{List}
use Rattle.reports.specs.Survey.{Report}
use Rattle.reports.specs.Scratch.{reports_at}
use Rattle.merge.specs.declared.row.Row.{Row}

-- the reports that stand there
abbrev pub reports_of : Row → List Report
reports_of r = reports_at r.words.now r.from r.count
