-- Yard examples of document 01 for merge and suffix, marked P: chunk A with B, and A from (0, 1, 2) on. Each is a theorem in `proofs/Examples.antt`.
use Rattle.std.specs.Prelude.{ℕ, ◌≡◌, List, [], ◌∷◌, replicate}
use Rattle.chunk.specs.Words.{entries}
use Rattle.reports.specs.Merge.{Place, merge_number, merge_out, survivor, the_first, suffix_number, suffix_out}

-- chunk A: (7,3,(1,5),+1), (7,3,(1,9),−1), (7,4,(2,0),+1), (9,3,(1,5),+2)
abbrev pub chunk_a : List ℕ
chunk_a =
    2 ∷ 3 ∷ 4 ∷ 4 ∷ 7 ∷ 9 ∷ 2 ∷ 3 ∷ 3 ∷ 4 ∷ 3 ∷ 2 ∷ 3 ∷ 4 ∷ 4294967301 ∷ 4294967305 ∷ 8589934592 ∷ 4294967301 ∷ 1 ∷ 2 ∷ 3 ∷ 4
    ∷ 1 ∷ 18446744073709551615 ∷ 1 ∷ 2 ∷ []

-- chunk B: (7,3,(1,9),+1), (7,4,(1,0),+1)
abbrev pub chunk_b : List ℕ
chunk_b = 1 ∷ 2 ∷ 2 ∷ 2 ∷ 7 ∷ 2 ∷ 3 ∷ 4 ∷ 1 ∷ 2 ∷ 4294967305 ∷ 4294967296 ∷ 1 ∷ 2 ∷ 1 ∷ 1 ∷ []

-- the survivor's cursor
abbrev pub cursor_a : Place
cursor_a = record { k = 0; v = 1; t = 2 }

-- A merged with B
pub record MergedAB : Type 0 where
  pub number : merge_number chunk_a chunk_b (replicate 42 0) (replicate 38 0) ≡ 0
  pub out : merge_out chunk_a chunk_b (replicate 42 0) (replicate 38 0)
      ≡ 1 ∷ 2 ∷ 3 ∷ 2 ∷ 7 ∷ 2 ∷ 3 ∷ 4 ∷ 2 ∷ 3 ∷ 4294967301 ∷ 4294967305 ∷ 4294967296 ∷ 1 ∷ 1 ∷ 2 ∷ 1 ∷ 1 ∷ replicate 20 0
  pub survives : survivor (entries chunk_a) (entries chunk_b) ≡ the_first cursor_a

-- A's suffix from the cursor on
pub record SuffixA : Type 0 where
  pub number : suffix_number cursor_a chunk_a (replicate 26 0) ≡ 0
  pub out : suffix_out cursor_a chunk_a (replicate 26 0)
      ≡ 2 ∷ 2 ∷ 2 ∷ 2 ∷ 7 ∷ 9 ∷ 1 ∷ 2 ∷ 4 ∷ 3 ∷ 1 ∷ 2 ∷ 8589934592 ∷ 4294967301 ∷ 1 ∷ 2 ∷ 1 ∷ 2 ∷ replicate 8 0
