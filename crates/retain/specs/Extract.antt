-- Extract (document 01): the open records kept, the others shipped.
use Rattle.std.specs.Prelude.{ℕ, not, cond, List, [], ◌∷◌, ltb, eqb, length, take}
use Rattle.chunk.specs.Entry.{Entry, keep}
use Rattle.chunk.specs.Bodies.{times}
use Rattle.chunk.specs.Words.{entries, size}
use Rattle.chunk.specs.Refusal.{first, refuse, malformed, unsettled, written}
use Rattle.retain.specs.Frontier.{most, is_open, sound, least_of}

-- the open entries
unfoldable pub kept_of : List ℕ → List Entry → List Entry
unfolding keep
kept_of corners es = keep (λ (e : Entry). is_open corners e.time) es

-- the others
unfoldable pub shipped_of : List ℕ → List Entry → List Entry
unfolding keep
shipped_of corners es = keep (λ (e : Entry). not (is_open corners e.time)) es

-- the frontier of the kept times
unfoldable pub frontier_of : List ℕ → List Entry → List ℕ
unfolding kept_of least_of
frontier_of corners es = least_of (times (kept_of corners es))

-- the number that extract answers, for a frontier of a count and 128 places
unfoldable pub extract_number : ℕ → List ℕ → List ℕ → List ℕ → List ℕ → ℕ
unfolding first sound frontier_of entries
extract_number count corners w kept shipped =
    first (
    refuse 9 (not (sound count corners))
    ∷ malformed w ∷ unsettled w
    ∷ refuse 13 (ltb (length kept) (size w)) ∷ refuse 13 (ltb (length shipped) (size w))
    ∷ refuse 10 (ltb most (length (frontier_of (take count corners) (entries w))))
    ∷ [])

-- all kept (an empty chunk too), all shipped, or mixed
pub data Verdict : Type 0 where
  all_kept all_shipped mixed : Verdict

-- which of the three
unfoldable pub verdict : List ℕ → List Entry → Verdict
unfolding kept_of shipped_of
verdict corners es =
    cond (eqb (length (shipped_of corners es)) 0) all_kept
    (cond (eqb (length (kept_of corners es)) 0) all_shipped mixed)

-- what the output of the kept holds afterwards
unfoldable pub kept_out : ℕ → List ℕ → List ℕ → List ℕ → List ℕ → List ℕ
unfolding extract_number written kept_of entries
kept_out count corners w kept shipped =
    written (extract_number count corners w kept shipped) (kept_of (take count corners) (entries w)) kept

-- and that of the shipped
unfoldable pub shipped_out : ℕ → List ℕ → List ℕ → List ℕ → List ℕ → List ℕ
unfolding extract_number written shipped_of entries
shipped_out count corners w kept shipped =
    written (extract_number count corners w kept shipped) (shipped_of (take count corners) (entries w)) shipped
