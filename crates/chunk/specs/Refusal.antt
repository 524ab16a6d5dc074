-- Document 01's refusals, as ordered tests. `first` is the first number whose test holds, 0 where none does.
use Rattle.std.specs.Prelude.{ℕ, zero, suc, Bool, not, cond, List, [], ◌∷◌, eqb}
use Rattle.chunk.specs.Entry.{Entry}
use Rattle.chunk.specs.Bodies.{chunk_of}
use Rattle.chunk.specs.Words.{well_formed, settled, nt, over}

-- a refusal number and whether its test fails
pub record Test : Type 0 where
  pub number : ℕ
  pub fails : Bool

-- the first number whose test fails; 0 where none does
unfoldable pub first : List Test → ℕ
first [] = 0
first (t ∷ ts) = cond t.fails t.number (first ts)

-- a test, by its number
abbrev pub refuse : ℕ → Bool → Test
refuse n b = record { number = n; fails = b }

-- 5: not well formed; 6: well formed, not settled; 7: the empty chunk
abbrev pub malformed : List ℕ → Test
malformed w = refuse 5 (not (well_formed w))

-- 6, once 5 is passed
abbrev pub unsettled : List ℕ → Test
unsettled w = refuse 6 (not (settled w))

-- 7, once 6 is passed
abbrev pub empty : List ℕ → Test
empty w = refuse 7 (eqb (nt w) 0)

-- what a lent output holds afterwards: the chunk of these entries where the call is accepted, and what it held where it is refused
unfoldable pub written : ℕ → List Entry → List ℕ → List ℕ
written zero es out = over (chunk_of es) out
written (suc n) es out = out
