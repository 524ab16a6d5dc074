-- What a chunk is written from (document 01, "Merge": "each layer is written into its own part of the output"): two settled chunks, and the
-- reports of each layer in the scratch.
use Rattle.std.specs.Prelude.{ℕ, ◌+◌, ◌*◌, ◌≤◌, List, length}
use Rattle.chunk.specs.Entry.{Entry}
use Rattle.chunk.specs.Words.{entries, table_size}
use Rattle.chunk.specs.declared.Contents.{Contents}
use Rattle.merge.specs.declared.Spans.{Spans}
use Rattle.reports.specs.Survey.{Report}
use Rattle.reports.specs.Scratch.{reports_at}
use Rattle.reports.specs.Write.{widths, entries_by}
use Rattle.reports.specs.Layered.{Layered}
use Rattle.reports.specs.Whole.{Whole}

-- the reports of the keys, of the values and of the times
abbrev pub key_reports : List ℕ → Spans → List Report
key_reports s p = reports_at s 0 p.keys

-- the values' stand after them
abbrev pub val_reports : List ℕ → Spans → List Report
val_reports s p = reports_at s p.vals_at p.vals

-- and the times' after those
abbrev pub time_reports : List ℕ → Spans → List Report
time_reports s p = reports_at s p.times_at p.times

-- two settled chunks with their contents, reports that lie under each other, and room for what they name
pub record Weft (w0 : List ℕ) (c0 : Contents) (w1 : List ℕ) (c1 : Contents) (s : List ℕ) (p : Spans) (room : ℕ) : Type 0 where
  pub first : Whole w0 c0
  pub second : Whole w1 c1
  pub keys_stand : 3 * p.keys ≤ length s
  pub vals_stand : p.vals_at + 3 * p.vals ≤ length s
  pub times_stand : p.times_at + 3 * p.times ≤ length s
  pub layered : Layered (entries w0) (entries w1) (key_reports s p) (val_reports s p) (time_reports s p)
  pub fits : table_size + 2 * widths (key_reports s p) + 2 * widths (val_reports s p) + 3 * widths (time_reports s p) ≤ room

-- the same by the reports themselves
pub record Laid (w0 : List ℕ) (c0 : Contents) (w1 : List ℕ) (c1 : Contents) (ks vs ts : List Report) (room : ℕ) : Type 0 where
  pub first : Whole w0 c0
  pub second : Whole w1 c1
  pub layered : Layered (entries w0) (entries w1) ks vs ts
  pub fits : table_size + 2 * widths ks + 2 * widths vs + 3 * widths ts ≤ room

-- the entries that the reports of the times name
unfoldable pub named : List ℕ → List ℕ → List ℕ → Spans → List Entry
unfolding entries_by reports_at
named w0 w1 s p = entries_by (entries w0) (entries w1) (time_reports s p)
