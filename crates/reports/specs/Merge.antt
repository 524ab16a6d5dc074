-- Merge and suffix (document 01), both cursors zero.
use Rattle.std.specs.Prelude.{ℕ, suc, ◌+◌, ◌*◌, ◌-◌, Bool, false, not, cond, ◌&&◌, ◌||◌, List, [], ◌∷◌, ltb, eqb, length, take, drop}
use Rattle.chunk.specs.Entry.{Entry, before, same, keep}
use Rattle.chunk.specs.Sums.{plus, sum_fits, with_diff}
use Rattle.chunk.specs.Bodies.{keys, vals, lasts_of}
use Rattle.chunk.specs.Words.{entries, size, nk, nv, nt, limit}
use Rattle.chunk.specs.Refusal.{first, refuse, malformed, unsettled, empty, written}

-- an entry put into a rising list at its place, added where its position is there; a sum of 0 is an empty diff list
unfoldable pub insert_add : Entry → List Entry → List Entry
insert_add b [] = b ∷ []
insert_add b (a ∷ es) =
    cond (before b a) (b ∷ a ∷ es)
    (cond (same a b) (with_diff a (plus a.diff b.diff) ∷ es) (a ∷ insert_add b es))

-- each position that is in either, ascending
unfoldable pub union : List Entry → List Entry → List Entry
union a [] = a
union a (b ∷ bs) = insert_add b (union a bs)

-- the last entry, or this one where there is none
unfoldable pub last_or : Entry → List Entry → Entry
last_or d [] = d
last_or d (a ∷ es) = last_or a es

-- the last entry
abbrev pub last_of : List Entry → Entry
last_of es = last_or (record { key = 0; val = 0; time = 0; diff = 0 }) es

-- L, the smaller of the two last positions
abbrev pub lesser_last : List Entry → List Entry → Entry
lesser_last a b = cond (before (last_of b) (last_of a)) (last_of b) (last_of a)

-- up to and including a position
abbrev pub up_to : Entry → List Entry → List Entry
up_to l es = keep (λ (e : Entry). not (before l e)) es

-- each position up to and including L that is in either, ascending
unfoldable pub merged : List Entry → List Entry → List Entry
unfolding union keep last_or
merged a b = up_to (lesser_last a b) (union a b)

-- a cursor: an index into each of the three bodies
pub record Place : Type 0 where
  pub k : ℕ
  pub v : ℕ
  pub t : ℕ

-- where the entry at t stands: its indices in the three bodies
unfoldable pub place_at : List Entry → ℕ → Place
unfolding lasts_of
place_at es t = record { k = length (keys (take (suc t) es)) - 1; v = length (vals (take (suc t) es)) - 1; t = t }

-- which input survives, and from where
pub data Survives : Type 0 where
  nobody : Survives
  the_first : Place → Survives
  the_second : Place → Survives

-- the input with the greater last position, at its first position past L
unfoldable pub survivor : List Entry → List Entry → Survives
unfolding keep last_or place_at
survivor a b =
    cond (same (last_of a) (last_of b)) nobody
    (cond (before (last_of b) (last_of a))
    (the_first (place_at a (length (up_to (last_of b) a))))
    (the_second (place_at b (length (up_to (last_of a) b)))))

-- a sum of two diffs at one position is outside signed 64 bits
unfoldable pub overflows_at : Entry → List Entry → Bool
overflows_at a [] = false
overflows_at a (b ∷ bs) = (same a b && not (sum_fits a.diff b.diff)) || overflows_at a bs

-- and so for some entry of the first
unfoldable pub overflows : List Entry → List Entry → Bool
unfolding overflows_at
overflows [] bs = false
overflows (a ∷ es) bs = overflows_at a bs || overflows es bs

-- the scratch asked: three words for each key, value and time of both
abbrev pub scratch_room : List ℕ → List ℕ → ℕ
scratch_room a b = 3 * (nk a + nv a + nt a + (nk b + nv b + nt b))

-- 5, 6, 7 for the first, the same for the second, then 2, 12, 13, 14
unfoldable pub merge_number : List ℕ → List ℕ → List ℕ → List ℕ → ℕ
unfolding first overflows entries
merge_number a b scratch out =
    first (
    malformed a ∷ unsettled a ∷ empty a
    ∷ malformed b ∷ unsettled b ∷ empty b
    ∷ refuse 2 (ltb limit (nt a + nt b))
    ∷ refuse 12 (ltb (length scratch) (scratch_room a b))
    ∷ refuse 13 (ltb (length out) (size a + size b - 4))
    ∷ refuse 14 (overflows (entries a) (entries b))
    ∷ [])

-- the output afterwards
unfoldable pub merge_out : List ℕ → List ℕ → List ℕ → List ℕ → List ℕ
unfolding merge_number written merged entries
merge_out a b scratch out = written (merge_number a b scratch out) (merged (entries a) (entries b)) out

-- ---- suffix_chunk

-- a time index below nt, with its own value and key
unfoldable pub sound_at : List Entry → Place → Bool
unfolding place_at
sound_at es p =
    ltb p.t (length es) && (eqb p.v (place_at es p.t).v && eqb p.k (place_at es p.t).k)

-- 5, 6, 7, 8, 13
unfoldable pub suffix_number : Place → List ℕ → List ℕ → ℕ
unfolding first sound_at entries
suffix_number p w out =
    first (
    malformed w ∷ unsettled w ∷ empty w
    ∷ refuse 8 (not (sound_at (entries w) p))
    ∷ refuse 13 (ltb (length out) (size w))
    ∷ [])

-- the output afterwards: the records from index t on
unfoldable pub suffix_out : Place → List ℕ → List ℕ → List ℕ
unfolding suffix_number written entries
suffix_out p w out = written (suffix_number p w out) (drop p.t (entries w)) out
