-- Changes as whole numbers, and what a list of entries says at a position.
use Rattle.std.specs.Prelude.{ℕ, ◌^◌, Bool, cond, ◌&&◌, List, [], ◌∷◌, ltb, eqb, ℤ, pos, ◌+ℤ◌}
use Rattle.std.specs.Int.Signed.{mag}
use Rattle.std.proofs.Common.{of_z}
use Rattle.std.specs.Int.{w64}
use Rattle.chunk.specs.Entry.{Entry, change}

-- the word of the sum of two changes, where it fits
abbrev pub plus : ℕ → ℕ → ℕ
plus a b = of_z w64 (change a +ℤ change b)

-- within −2^63 to 2^63 − 1: `mag z` is n both for n and for −(n + 1)
abbrev pub sum_fits : ℕ → ℕ → Bool
sum_fits a b = ltb (mag (change a +ℤ change b)) (2 ^ 63)

-- the same position with another change
abbrev pub with_diff : Entry → ℕ → Entry
with_diff e d = record { key = e.key; val = e.val; time = e.time; diff = d }

-- the whole change at a truck, fault and time
unfoldable pub total : ℕ → ℕ → ℕ → List Entry → ℤ
total k v t [] = pos 0
total k v t (e ∷ es) =
    cond (eqb e.key k && (eqb e.val v && eqb e.time t)) (change e.diff +ℤ total k v t es) (total k v t es)
