-- The yard examples of document 01 that are marked P: their updates and chunks in words. The theorems are in proofs/Yard.antt.
use Rattle.std.specs.Prelude.{ℕ, List, [], ◌∷◌, replicate}
use Rattle.reports.specs.Merge.{Place}

-- the four updates (7,3,(1,5),+1), (7,3,(1,9),−1), (7,4,(2,0),+1), (9,3,(1,5),+2)
abbrev pub four_updates : List ℕ
four_updates =
    7 ∷ 3 ∷ 4294967301 ∷ 1
    ∷ 7 ∷ 3 ∷ 4294967305 ∷ 18446744073709551615
    ∷ 7 ∷ 4 ∷ 8589934592 ∷ 1
    ∷ 9 ∷ 3 ∷ 4294967301 ∷ 2 ∷ []

-- their chunk, 26 words
abbrev pub A : List ℕ
A =
    2 ∷ 3 ∷ 4 ∷ 4 ∷ 7 ∷ 9 ∷ 2 ∷ 3 ∷ 3 ∷ 4 ∷ 3 ∷ 2 ∷ 3 ∷ 4
    ∷ 4294967301 ∷ 4294967305 ∷ 8589934592 ∷ 4294967301 ∷ 1 ∷ 2 ∷ 3 ∷ 4 ∷ 1 ∷ 18446744073709551615 ∷ 1 ∷ 2 ∷ []

-- +1 and −1 at one position
abbrev pub cancelling : List ℕ
cancelling = 7 ∷ 3 ∷ 1 ∷ 1 ∷ 7 ∷ 3 ∷ 1 ∷ 18446744073709551615 ∷ []

-- the empty chunk
abbrev pub none : List ℕ
none = 0 ∷ 0 ∷ 0 ∷ 0 ∷ []

-- the two updates (7,3,(1,9),+1), (7,4,(1,0),+1)
abbrev pub two_updates : List ℕ
two_updates = 7 ∷ 3 ∷ 4294967305 ∷ 1 ∷ 7 ∷ 4 ∷ 4294967296 ∷ 1 ∷ []

-- their chunk
abbrev pub B : List ℕ
B = 1 ∷ 2 ∷ 2 ∷ 2 ∷ 7 ∷ 2 ∷ 3 ∷ 4 ∷ 1 ∷ 2 ∷ 4294967305 ∷ 4294967296 ∷ 1 ∷ 2 ∷ 1 ∷ 1 ∷ []

-- A merged with B
abbrev pub AB : List ℕ
AB = 1 ∷ 2 ∷ 3 ∷ 2 ∷ 7 ∷ 2 ∷ 3 ∷ 4 ∷ 2 ∷ 3 ∷ 4294967301 ∷ 4294967305 ∷ 4294967296 ∷ 1 ∷ 1 ∷ 2 ∷ 1 ∷ 1 ∷ []

-- that filtered
abbrev pub clean_ab : List ℕ
clean_ab = 1 ∷ 2 ∷ 2 ∷ 2 ∷ 7 ∷ 2 ∷ 3 ∷ 4 ∷ 1 ∷ 2 ∷ 4294967301 ∷ 4294967296 ∷ 1 ∷ 2 ∷ 1 ∷ 1 ∷ []

-- where A survives
abbrev pub survives_at : Place
survives_at = record { k = 0; v = 1; t = 2 }

-- A's suffix from there
abbrev pub suffix_a : List ℕ
suffix_a = 2 ∷ 2 ∷ 2 ∷ 2 ∷ 7 ∷ 9 ∷ 1 ∷ 2 ∷ 4 ∷ 3 ∷ 1 ∷ 2 ∷ 8589934592 ∷ 4294967301 ∷ 1 ∷ 2 ∷ 1 ∷ 2 ∷ []

-- the corners (1,9), (2,0)
abbrev pub two_corners : List ℕ
two_corners = 4294967305 ∷ 8589934592 ∷ []

-- (1,9) alone
abbrev pub one_corner : List ℕ
one_corner = 4294967305 ∷ []

-- the chunk of A's records at (1,9) and (2,0)
abbrev pub kept_a : List ℕ
kept_a = 1 ∷ 2 ∷ 2 ∷ 2 ∷ 7 ∷ 2 ∷ 3 ∷ 4 ∷ 1 ∷ 2 ∷ 4294967305 ∷ 8589934592 ∷ 1 ∷ 2 ∷ 18446744073709551615 ∷ 1 ∷ []

-- the chunk of its other records
abbrev pub shipped_a : List ℕ
shipped_a = 2 ∷ 2 ∷ 2 ∷ 2 ∷ 7 ∷ 9 ∷ 1 ∷ 2 ∷ 3 ∷ 3 ∷ 1 ∷ 2 ∷ 4294967301 ∷ 4294967301 ∷ 1 ∷ 2 ∷ 1 ∷ 2 ∷ []

-- a lent slice, all fives
abbrev pub five : ℕ → List ℕ
five n = replicate n 5
