-- Check (document 01, "Well formed"): 5 exactly where the slice isn't well formed; else the contents, and whether it is settled.
use Rattle.std.specs.Prelude.{ℕ, Bool, true, false, List, Result, Ok, Err}
use Rattle.chunk.specs.declared.Checked.{Checked}
use Rattle.chunk.specs.declared.Refusal.{Refusal}
use Rattle.chunk.specs.declared.Refusal.TheVariants.{Malformed}
use Rattle.chunk.specs.Words.{well_formed, settled}
use Rattle.chunk.specs.Contents.{contents_in}

-- the answer for a slice that is well formed, and for one that isn't
abbrev pub checked_as : Bool → List ℕ → Result Checked Refusal
checked_as true w = Ok (record { settled = settled w; contents = contents_in w })
checked_as false w = Err Malformed

-- the answer of `check`
unfoldable pub checked_of : List ℕ → Result Checked Refusal
checked_of w = checked_as (well_formed w) w
