-- One chunk (document 01): for each list of at most 1,048,576 strictly rising positions with non-zero diffs there is one settled chunk.
-- Each statement is a type here, and a theorem under the same words in `proofs/OneChunk.antt`.
use Rattle.std.specs.Prelude.{ℕ, ◌≤◌, ◌^◌, Bool, true, ◌≡◌, List, ◌++◌, ltb, length, take}
use Rattle.chunk.specs.Entry.{Entry, rising, stands, every}
use Rattle.chunk.specs.Bodies.{chunk_of}
use Rattle.chunk.specs.Words.{well_formed, settled, size, entries, nt, limit}
use Rattle.chunk.specs.Sums.{total}

-- what a slice with the chunk of these entries at its front says
pub record Says (es : List Entry) (w : List ℕ) : Type 0 where
  pub formed : well_formed w ≡ true
  pub sized : size w ≡ length (chunk_of es)
  pub read : entries w ≡ es

-- rising entries, within the limit, are the entries of their chunk, whatever words follow it
abbrev pub ChunkSays : Type 0
ChunkSays = (es : List Entry) (rest : List ℕ) → rising es ≡ true → length es ≤ limit → Says es (chunk_of es ++ rest)

-- what a well formed slice has at its front
pub record Fronts (w : List ℕ) : Type 0 where
  pub front : take (size w) w ≡ chunk_of (entries w)
  pub rise : rising (entries w) ≡ true
  pub counted : length (entries w) ≡ nt w
  pub bounded : length (entries w) ≤ limit

-- the front of a well formed slice is the chunk of its entries, which rise, number nt, and are at most the limit
abbrev pub FrontIsChunk : Type 0
FrontIsChunk = (w : List ℕ) → well_formed w ≡ true → Fronts w

-- settled means that every entry stands
abbrev pub SettledStands : Type 0
SettledStands = (w : List ℕ) → well_formed w ≡ true → settled w ≡ every stands (entries w)

-- two different lists of entries have different chunks
abbrev pub ChunksDiffer : Type 0
ChunksDiffer =
    (es fs : List Entry) → rising es ≡ true → rising fs ≡ true → length es ≤ limit → length fs ≤ limit
    → chunk_of es ≡ chunk_of fs → es ≡ fs

-- a list of words that is the one settled chunk of these entries: well formed, settled, all of it chunk, and these its entries
pub record SettledChunk (es : List Entry) (w : List ℕ) : Type 0 where
  pub formed : well_formed w ≡ true
  pub settles : settled w ≡ true
  pub whole : size w ≡ length w
  pub read : entries w ≡ es

-- for each list of strictly rising positions with non-zero diffs there is one settled chunk: `chunk_of` is one, and any other is that one
pub record OneSettledChunk (es : List Entry) : Type 0 where
  pub one : SettledChunk es (chunk_of es)
  pub only : (w : List ℕ) → SettledChunk es w → w ≡ chunk_of es

-- for each list
abbrev pub OneForEach : Type 0
OneForEach = (es : List Entry) → rising es ≡ true → every stands es ≡ true → length es ≤ limit → OneSettledChunk es

-- a machine word
abbrev pub is_word : ℕ → Bool
is_word n = ltb n (2 ^ 64)

-- an entry whose diff is a machine word
abbrev pub fits : Entry → Bool
fits e = is_word e.diff

-- two settled lists that say the same change at every position are the same
abbrev pub SettledOnce : Type 0
SettledOnce =
    (es fs : List Entry)
    → rising es ≡ true → every stands es ≡ true → every fits es ≡ true
    → rising fs ≡ true → every stands fs ≡ true → every fits fs ≡ true
    → ((k v t : ℕ) → total k v t es ≡ total k v t fs) → es ≡ fs
