-- An accepted meld (document 01, "Meld"): what the output says.
use Rattle.std.specs.Prelude.{◌≡◌, ℕ, ◌+◌, ◌<◌, ◌≤◌, true, List, ◌++◌, take}
use Rattle.chunk.specs.Words.{well_formed, entries, settled, size, nt, limit, over}
use Rattle.laws.specs.OneChunk.{Says}
use Rattle.meld.specs.Meld.{meld_number, meld_out}

-- the output of an accepted meld: a settled chunk that says what the first says and then what the second says
pub record Accepted (a b out : List ℕ) : Type 0 where
  pub says : Says (entries a ++ entries b) (meld_out a b out)
  pub settles : settled (meld_out a b out) ≡ true

-- so of each accepted meld
abbrev pub MeldSays : Type 0
MeldSays = (a b out : List ℕ) → meld_number a b out ≡ 0 → Accepted a b out

-- "An empty one gives the other": the output has the other's words at its front
abbrev pub FirstEmpty : Type 0
FirstEmpty = (a b out : List ℕ) → meld_number a b out ≡ 0 → nt a ≡ 0 → meld_out a b out ≡ over (take (size b) b) out

-- and where the second is empty, the first's
abbrev pub SecondEmpty : Type 0
SecondEmpty = (a b out : List ℕ) → meld_number a b out ≡ 0 → nt b ≡ 0 → meld_out a b out ≡ over (take (size a) a) out

-- no chunk but the empty one goes behind itself: 11, unless its times are too many
abbrev pub BehindItself : Type 0
BehindItself =
    (a out : List ℕ) → well_formed a ≡ true → settled a ≡ true → 0 < nt a → nt a + nt a ≤ limit → meld_number a a out ≡ 11
