-- A settled chunk with its contents; and the bodies of a chunk, by the layers that they are written in.
use Rattle.std.specs.Prelude.{ℕ, true, ◌≡◌, List, ◌++◌, length}
use Rattle.chunk.specs.Entry.{Entry}
use Rattle.chunk.specs.Bodies.{keys, val_ends, vals, time_ends, times, diff_ends, diffs}
use Rattle.chunk.specs.Contents.{layout_of}
use Rattle.chunk.specs.Words.{settled}
use Rattle.chunk.specs.declared.Contents.{Contents}
use Rattle.reports.specs.Read.{Read}

-- a settled chunk with its contents
pub record Whole (w : List ℕ) (c : Contents) : Type 0 where
  pub chunk : Read w c
  pub settles : settled w ≡ true

-- where the bodies of their chunk stand, with room for a diff at each time
abbrev pub places_for : List Entry → Contents
places_for es = layout_of (length (keys es)) (length (vals es)) (length (times es)) (length (times es))

-- the bodies down to the values
unfoldable pub upper_of : List Entry → List ℕ
upper_of es = keys es ++ (val_ends es ++ vals es)

-- the times'
unfoldable pub middle_of : List Entry → List ℕ
middle_of es = time_ends es ++ times es

-- the diffs' own
unfoldable pub lower_of : List Entry → List ℕ
lower_of es = diff_ends es ++ diffs es
