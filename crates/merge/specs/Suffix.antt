-- Suffix (document 01): "The settled chunk of records from index t on"; the cursor as the caller hands it over, and the parts that the call is made of.
use Rattle.std.specs.Prelude.{◌≡◌, ℕ, ◌≤◌, true, List, length}
use Rattle.chunk.specs.Words.{settled, entries, size}
use Rattle.chunk.specs.declared.Contents.{Contents}
use Rattle.merge.specs.declared.Cursor.{Cursor}
use Rattle.reports.specs.Merge.{Place, sound_at}
use Rattle.reports.specs.Read.{Read}

-- a cursor as a place
abbrev pub place_of : Cursor → Place
place_of c = record { k = c.k; v = c.v; t = c.t }

-- what a suffix is written from: a settled chunk, a cursor that is sound in it, and room
pub record Ready (w : List ℕ) (c : Contents) (p : Cursor) (out : List ℕ) : Type 0 where
  pub chunk : Read w c
  pub settles : settled w ≡ true
  pub sound : sound_at (entries w) (place_of p) ≡ true
  pub room : size w ≤ length out
