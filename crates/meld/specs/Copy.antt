-- A body is copied into its own part of the output (document 01, "each layer is written into its own part of the output"); the ends of
-- the second of two layers go up by the items of the first (document 01: "an end is the count of child items up to and including that list").
use Rattle.std.specs.Prelude.{ℕ, zero, suc, ◌+◌, ◌%◌, ◌^◌, List, [], ◌∷◌, ◌++◌, map, length, take, drop}

-- a slice with another at its front: as much of it as there is room for, and past it what was there
unfoldable pub copied : List ℕ → List ℕ → List ℕ
copied dst src = take (length dst) src ++ drop (length src) dst

-- an end with `by` items more before it, in 64 bits
abbrev pub shifted : ℕ → ℕ → ℕ
shifted by e = (e + by) % 2 ^ 64

-- the ends of a layer that follows `by` items
abbrev pub shifted_all : ℕ → List ℕ → List ℕ
shifted_all by ends = map (shifted by) ends

-- the same, where nothing stands before a layer it is as it was
unfoldable pub gone : ℕ → List ℕ → List ℕ
gone zero ends = ends
gone (suc n) ends = shifted_all (suc n) ends

-- so many numbers from x on, in 64 bits
unfoldable pub counted_on : ℕ → ℕ → List ℕ
counted_on x zero = []
counted_on x (suc n) = x % 2 ^ 64 ∷ counted_on (suc x) n

-- a slice with new words from `at` on, the others as they were
unfoldable pub placed : ℕ → List ℕ → List ℕ → List ℕ
placed at new out = take at out ++ (new ++ drop (at + length new) out)
