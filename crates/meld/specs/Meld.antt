-- Meld (document 01): "Chunk b after chunk a, b's first position strictly past a's last. An empty one gives the other."
use Rattle.std.specs.Prelude.{◌≡◌, ℕ, ◌+◌, ◌-◌, Bool, true, not, List, [], ◌∷◌, ◌++◌, length, nat_lt}
use Rattle.chunk.specs.Entry.{Entry, before}
use Rattle.chunk.specs.Words.{entries, size, nt, limit, table_size}
use Rattle.chunk.specs.Refusal.{Test, first, refuse, malformed, unsettled, written}

-- whether the first of these, if there is one, is past `a`
unfoldable pub last_before : Entry → List Entry → Bool
last_before a [] = true
last_before a (b ∷ bs) = before a b

-- b's first position strictly past a's last; where one is empty there is nothing to compare
unfoldable pub follows : List Entry → List Entry → Bool
unfolding last_before
follows [] bs = true
follows (a ∷ []) bs = last_before a bs
follows (a ∷ c ∷ es) bs = follows (c ∷ es) bs

-- what is refused of two settled chunks: more times than a chunk may have, the second not past the first, no room
abbrev pub pair_tests : List ℕ → List ℕ → List ℕ → List Test
pair_tests a b out =
    refuse 2 (nat_lt limit (nt a + nt b))
    ∷ refuse 11 (not (follows (entries a) (entries b)))
    ∷ refuse 13 (nat_lt (length out) (size a + size b - table_size))
    ∷ []

-- the number of two settled chunks
unfoldable pub pair_number : List ℕ → List ℕ → List ℕ → ℕ
pair_number a b out = first (pair_tests a b out)

-- the number: 5, 6 for the first, 5, 6 for the second, then those of two settled chunks
unfoldable pub meld_number : List ℕ → List ℕ → List ℕ → ℕ
unfolding first follows entries
meld_number a b out = first (malformed a ∷ unsettled a ∷ malformed b ∷ unsettled b ∷ pair_tests a b out)

-- the output afterwards: the chunk of both lists of entries at its front, or as it was
unfoldable pub meld_out : List ℕ → List ℕ → List ℕ → List ℕ
unfolding meld_number written entries
meld_out a b out = written (meld_number a b out) (entries a ++ entries b) out

-- what `meld` promises: its answer, and the output afterwards
pub record Melded (a b out : List ℕ) (answer : ℕ) (after : List ℕ) : Type 0 where
  pub number : answer ≡ meld_number a b out
  pub output : after ≡ meld_out a b out

-- the same of two settled chunks
pub record PairMelded (a b out : List ℕ) (answer : ℕ) (after : List ℕ) : Type 0 where
  pub number : answer ≡ pair_number a b out
  pub output : after ≡ written (pair_number a b out) (entries a ++ entries b) out
