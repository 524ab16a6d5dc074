-- The surveys of all three layers (document 01, refusal 12: "scratch below 3 × (nk+nv+nt of both) words"): keys', then values', then times'.
use Rattle.std.specs.Prelude.{ℕ, ◌+◌, ◌*◌, ◌≤◌, List, length}
use Rattle.chunk.specs.Entry.{Entry}
use Rattle.chunk.specs.Bodies.{keys, vals, times, val_ends, time_ends}
use Rattle.chunk.specs.declared.Contents.{Contents}
use Rattle.reports.specs.Survey.{Report}
use Rattle.reports.specs.Scratch.{pair_of, surveyed}
use Rattle.reports.specs.Read.{Read}

-- how the keys of two lists of entries interleave
unfoldable pub key_survey : List Entry → List Entry → List Report
key_survey es fs = pair_of (keys es) 0 (length (keys es)) (keys fs) 0 (length (keys fs))

-- how their values do, key by key
unfoldable pub val_survey : List Entry → List Entry → List Report
unfolding key_survey
val_survey es fs = surveyed (val_ends es) (vals es) (val_ends fs) (vals fs) (key_survey es fs)

-- how their times do, value by value
unfoldable pub time_survey : List Entry → List Entry → List Report
unfolding val_survey
time_survey es fs = surveyed (time_ends es) (times es) (time_ends fs) (times fs) (val_survey es fs)

-- two well formed chunks, and the scratch that document 01 asks for
pub record LayersRoom (w0 : List ℕ) (c0 : Contents) (w1 : List ℕ) (c1 : Contents) (s : List ℕ) : Type 0 where
  pub first : Read w0 c0
  pub second : Read w1 c1
  pub room : 3 * (c0.nk + c0.nv + c0.nt + (c1.nk + c1.nv + c1.nt)) ≤ length s
