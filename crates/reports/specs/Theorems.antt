-- What a merge keeps (document 01, "Merge", and "What the promises have to settle"): the output up to L and the survivor's suffix say
-- together what the two inputs said. Each statement is a type here, and a theorem under the same words in `proofs/Merged.antt`.
use Rattle.std.specs.Prelude.{ℕ, ◌+◌, ◌<◌, ◌≤◌, true, false, cond, ◌≡◌, List, [], ◌∷◌, ◌++◌, length, drop, ◌+ℤ◌}
use Rattle.chunk.specs.Entry.{Entry, before, rising}
use Rattle.chunk.specs.Sums.{plus, with_diff, total}
use Rattle.reports.specs.Merge.{union, merged, survivor, overflows, sound_at, Place, Survives, nobody, the_first, the_second}

-- two entries at one position, added
abbrev pub summed : Entry → Entry → Entry
summed a b = with_diff a (plus a.diff b.diff)

-- two lists side by side: the earlier head first, heads at one position added; `rest` is what becomes of one list where the other has ended
unfoldable pub walked : (List Entry → List Entry) → List Entry → List Entry → List Entry
walked rest [] bs = rest bs
walked rest (a ∷ es) bs =
    elim bs [
      | [] ↦ rest (a ∷ es)
      | b ∷ (bs' → further) ↦
          cond (before a b) (a ∷ walked rest es (b ∷ bs')) (cond (before b a) (b ∷ further) (summed a b ∷ walked rest es bs'))
    ]

-- the plain two-pointer merge that stops when one list ends
abbrev pub plain : List Entry → List Entry → List Entry
plain a b = walked (λ (es : List Entry). []) a b

-- the one that goes on to the end of both
abbrev pub whole : List Entry → List Entry → List Entry
whole a b = walked (λ (es : List Entry). es) a b

-- what a merge leaves: the survivor's entries from its cursor on
abbrev pub left_of : List Entry → List Entry → Survives → List Entry
left_of a b nobody = []
left_of a b (the_first p) = drop p.t a
left_of a b (the_second p) = drop p.t b

-- a cursor that suffix never refuses, at an entry that is there
pub record Sound (es : List Entry) (p : Place) : Type 0 where
  pub sound : sound_at es p ≡ true
  pub within : p.t < length es

-- the survivor's cursor is sound in the list that survives
abbrev pub SoundOf : List Entry → List Entry → Survives → Type 0
SoundOf a b nobody = Unit {0}
SoundOf a b (the_first p) = Sound a p
SoundOf a b (the_second p) = Sound b p

-- the first and the second change places
abbrev pub swapped : Survives → Survives
swapped nobody = nobody
swapped (the_first p) = the_second p
swapped (the_second p) = the_first p

-- the output rises
abbrev pub MergedRises : Type 0
MergedRises = (a b : List Entry) → rising a ≡ true → rising b ≡ true → rising (merged a b) ≡ true

-- and is no longer than both inputs
abbrev pub MergedShort : Type 0
MergedShort = (a b : List Entry) → length (merged a b) ≤ length a + length b

-- the output and what is left are all positions of both, in order
abbrev pub MergedThenLeft : Type 0
MergedThenLeft =
    (a b : List Entry) → rising a ≡ true → rising b ≡ true → merged a b ++ left_of a b (survivor a b) ≡ union a b

-- totals at each position of output and suffix together are those of the two inputs together
abbrev pub TotalsKept : Type 0
TotalsKept =
    (a b : List Entry) → rising a ≡ true → rising b ≡ true → overflows a b ≡ false
    → (k v t : ℕ) → total k v t (merged a b) +ℤ total k v t (left_of a b (survivor a b)) ≡ total k v t a +ℤ total k v t b

-- whoever survives, its cursor is sound
abbrev pub SurvivorSound : Type 0
SurvivorSound = (a b : List Entry) → rising a ≡ true → rising b ≡ true → SoundOf a b (survivor a b)

-- the same output whichever is first
abbrev pub MergedCommutes : Type 0
MergedCommutes = (a b : List Entry) → rising a ≡ true → rising b ≡ true → merged a b ≡ merged b a

-- and the same survivor
abbrev pub SurvivorCommutes : Type 0
SurvivorCommutes = (a b : List Entry) → survivor b a ≡ swapped (survivor a b)

-- the definition by L is the plain two-pointer merge
abbrev pub MergedIsPlain : Type 0
MergedIsPlain =
    (a b : List Entry) → rising a ≡ true → rising b ≡ true → 0 < length a → 0 < length b → merged a b ≡ plain a b
