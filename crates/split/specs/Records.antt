-- What a split does to a chunk's records (document 01: "First n records, and the rest").
-- The statement is a type here, and a theorem under the same words in `proofs/`.
use Rattle.std.specs.Prelude.{ℕ, ◌≡◌, List, ◌++◌, take, drop}
use Rattle.chunk.specs.Entry.{Entry}

-- splitting and putting together again gives the records back
abbrev pub SplitJoins : Type 0
SplitJoins = (n : ℕ) (es : List Entry) → take n es ++ drop n es ≡ es
