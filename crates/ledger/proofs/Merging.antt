-- What an accepted merge wrote, and what its filter and its survivor's suffix may still refuse.
use Prim.Native.Nat.{ℕ, ◌≤◌, ◌+◌}
use mathlib.Core.Path.{◌≡◌, refl, sym, ap, ap₂, ◌∙◌}
use mathlib.Core.Bool.{true, not}
use mathlib.Core.List.{List, [], ◌∷◌, ◌++◌}
use native.Mathlib.Omega.{arith}
use lib.Dec.{ltb, leb-suc-zero}
use lib.ListN.{length}
use borrow.Author.Tests.{ltb-false, not-false}
use Rattle.chunk.specs.Entry.{every}
use Rattle.chunk.specs.Words.{entries, size, nt, limit}
use Rattle.chunk.specs.Refusal.{Test, first, refuse, malformed, unsettled, empty}
use Rattle.reports.specs.Merge.{merged, Place, Survives, nobody, the_first, the_second, sound_at, merge_number, merge_out, suffix_number}
use Rattle.reports.specs.Theorems.{SoundOf}
use Rattle.reports.proofs.Merged.{merged_rises, merged_short, survivor-sound}
use Rattle.retain.specs.Cut.{filter_number}
use Rattle.whole.specs.Whole.{and_then, survives, rest_number, whole_number}
use Rattle.whole.proofs.Parts.{goes_alike}
use Rattle.laws.specs.OneChunk.{Says, Fronts}
use Rattle.laws.proofs.OneChunk.{front_is_chunk}
use Rattle.ledger.specs.Refusals.{rest_room}
use Rattle.ledger.proofs.Ordered.{Passed, passed, passes, first-append}
use Rattle.ledger.proofs.Tests.{merge_tests, merge_first, filter-first, suffix_first}
use Rattle.ledger.proofs.Clean.{written_says}

-- 13, where a slice is short of the room asked
abbrev pub room_test : ℕ → List ℕ → Test
room_test asked out = refuse 13 (ltb (length out) asked)

-- the tests that merge and suffix make of an input
abbrev input_tests : List ℕ → List Test
input_tests w = malformed w ∷ unsettled w ∷ empty w ∷ []

-- a suffix from a sound cursor
suffix_asks : (p : Place) (w rest : List ℕ) → Passed (input_tests w) → sound_at (entries w) p ≡ true → suffix_number p w rest ≡ first (room_test (size w) rest ∷ [])
suffix_asks p w rest i h =
    rw suffix_first (passes (malformed w ∷ unsettled w ∷ empty w ∷ refuse 8 (not (sound_at (entries w) p)) ∷ []) _ (i.0, (i.1.0, (i.1.1.0, (ap not h, tt)))))

-- a survivor's suffix, its cursor being sound
suffix_room : (who : Survives) (a b rest : List ℕ) → Passed (input_tests a) → Passed (input_tests b) → SoundOf (entries a) (entries b) who
    → rest_number who a b rest ≡ first (room_test (rest_room who a b) rest ∷ [])
unfolding rest_number first
suffix_room nobody a b rest i j h = rw leb-suc-zero
suffix_room (the_first p) a b rest i j h = suffix_asks p a rest i h.sound
suffix_room (the_second p) a b rest i j h = suffix_asks p b rest j h.sound

module _ (a b scratch out : List ℕ) (accepted : merge_number a b scratch out ≡ 0) where
  pub merge_passed : Passed (merge_tests a b scratch out)
  unfolding every
  merge_passed = passed (merge_tests a b scratch out) refl (rw merge_first at accepted)

  -- its inputs are chunks
  pub first_fronts : Fronts a
  first_fronts = front_is_chunk a (not-false _ merge_passed.0)

  pub second_fronts : Fronts b
  second_fronts = front_is_chunk b (not-false _ merge_passed.1.1.1.0)

  -- with few enough entries
  pub merge_few : nt a + nt b ≤ limit
  merge_few = ltb-false limit (nt a + nt b) merge_passed.1.1.1.1.1.1.0

  -- and it wrote the chunk of the merged ones
  pub merge_says : Says (merged (entries a) (entries b)) (merge_out a b scratch out)
  unfolding merge_out
  merge_says =
      written_says (merge_number a b scratch out) (merged (entries a) (entries b)) out accepted
      (merged_rises (entries a) (entries b) first_fronts.rise second_fronts.rise)
      (omega (arith, merge_few, merged_short (entries a) (entries b), first_fronts.counted, second_fronts.counted))

  -- so its filter may refuse for room alone
  pub filter_asks : (clean : List ℕ) → filter_number (merge_out a b scratch out) clean ≡ first (room_test (size (merge_out a b scratch out)) clean ∷ [])
  filter_asks clean = rw filter-first (passes (malformed (merge_out a b scratch out) ∷ []) _ (ap not merge_says.formed, tt))

  -- and so may its survivor's suffix
  pub rest_asks : (rest : List ℕ) → rest_number (survives a b) a b rest ≡ first (room_test (rest_room (survives a b) a b) rest ∷ [])
  rest_asks rest =
      suffix_room (survives a b) a b rest
      (merge_passed.0, (merge_passed.1.0, (merge_passed.1.1.0, tt)))
      (merge_passed.1.1.1.0, (merge_passed.1.1.1.1.0, (merge_passed.1.1.1.1.1.0, tt)))
      (survivor-sound (entries a) (entries b) first_fronts.rise second_fronts.rise)

-- ---- the whole

-- what may still refuse
abbrev pub later_tests : List ℕ → List ℕ → List ℕ → List ℕ → List ℕ → List ℕ → List Test
later_tests a b scratch out clean rest = room_test (size (merge_out a b scratch out)) clean ∷ room_test (rest_room (survives a b) a b) rest ∷ []

abbrev pub whole_tests : List ℕ → List ℕ → List ℕ → List ℕ → List ℕ → List ℕ → List Test
whole_tests a b scratch out clean rest = merge_tests a b scratch out ++ later_tests a b scratch out clean rest

later_first : (a b scratch out clean rest : List ℕ) → merge_number a b scratch out ≡ 0
    → and_then (filter_number (merge_out a b scratch out) clean) (rest_number (survives a b) a b rest) ≡ first (later_tests a b scratch out clean rest)
unfolding every
later_first a b scratch out clean rest z =
    ap₂ and_then (filter_asks a b scratch out z clean) (rest_asks a b scratch out z rest)
    ∙ sym (first-append (room_test (size (merge_out a b scratch out)) clean ∷ []) (room_test (rest_room (survives a b) a b) rest ∷ []) refl)

pub whole_first : (a b scratch out clean rest : List ℕ) → whole_number a b scratch out clean rest ≡ first (whole_tests a b scratch out clean rest)
unfolding whole_number every
whole_first a b scratch out clean rest =
    goes_alike (merge_number a b scratch out) _ _ (later_first a b scratch out clean rest)
    ∙ ap (λ (n : ℕ). and_then n (first (later_tests a b scratch out clean rest))) (merge_first a b scratch out)
    ∙ sym (first-append (merge_tests a b scratch out) (later_tests a b scratch out clean rest) refl)
