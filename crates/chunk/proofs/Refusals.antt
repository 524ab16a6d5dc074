-- The number of a refusal is above 0, and what a first part of the tests refuses all of them do.
use Prim.Native.Nat.{ℕ, ◌<◌}
use mathlib.Core.Path.{◌≡◌, refl}
use mathlib.Core.List.{List, [], ◌∷◌, ◌++◌}
use native.Mathlib.Omega.{arith}
use Rattle.chunk.specs.declared.Refusal.{Refusal}
use Rattle.chunk.specs.declared.Refusal.TheVariants.{Ragged, TooMany, Falls, OutOfRange, Malformed, Unsettled, Empty, BadCursor, BadFrontier, TooManyCorners, Overlaps, ScratchShort, OutputShort, Overflows}
use Rattle.chunk.specs.Answer.{number_of}
use Rattle.chunk.specs.Refusal.{Test, first}
use Rattle.chunk.proofs.Tests.{by_test}

pub number_above : (r : Refusal) → 0 < number_of r
number_above Ragged = omega arith
number_above TooMany = omega arith
number_above Falls = omega arith
number_above OutOfRange = omega arith
number_above Malformed = omega arith
number_above Unsettled = omega arith
number_above Empty = omega arith
number_above BadCursor = omega arith
number_above BadFrontier = omega arith
number_above TooManyCorners = omega arith
number_above Overlaps = omega arith
number_above ScratchShort = omega arith
number_above OutputShort = omega arith
number_above Overflows = omega arith

-- tests of which one fails already
pub refused_already : (ts us : List Test) → 0 < first ts → first (ts ++ us) ≡ first ts
unfolding first
refused_already [] us h = absurd (omega (arith, h))
refused_already (t ∷ ts) us h = by_test t.fails (λ k. rw k refl) (λ k. rw k (refused_already ts us (rw k at h)))

-- a refusal by a first part of the tests is one by all of them
pub refused_by : (r : Refusal) (ts us : List Test) → number_of r ≡ first ts → number_of r ≡ first (ts ++ us)
refused_by r ts us e = rw (refused_already ts us (rw e at (number_above r))) e
