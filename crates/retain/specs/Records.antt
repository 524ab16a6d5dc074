-- What an extract does to a chunk's records (document 01: "Open records are kept, the others shipped";
-- the frontier has "those with no different kept time at or below them in both coordinates").
-- Each statement is a type here, and a theorem under the same words in `proofs/`.
use Rattle.std.specs.Prelude.{ℕ, ◌+◌, ◌≡◌, Bool, true, not, ◌||◌, List, eqb, length}
use Rattle.chunk.specs.Entry.{Entry, keep, every}
use Rattle.chunk.specs.Time.{at_or_below}
use Rattle.retain.specs.Frontier.{is_open, least_of}
use Rattle.retain.specs.Extract.{kept_of, shipped_of}

-- kept and shipped together have each record once: whatever is counted, the two counts add up to the chunk's
abbrev pub EachOnce : Type 0
EachOnce =
    (corners : List ℕ) (es : List Entry) (q : Entry → Bool)
    → length (keep q (kept_of corners es)) + length (keep q (shipped_of corners es)) ≡ length (keep q es)

-- no corner is at or below another
abbrev pub CornersApart : Type 0
CornersApart =
    (ts : List ℕ) → every (λ (c : ℕ). every (λ (d : ℕ). eqb c d || not (at_or_below c d)) (least_of ts)) (least_of ts) ≡ true

-- every time of which the corners are taken has one of them at or below it
abbrev pub CornersCover : Type 0
CornersCover = (ts : List ℕ) → every (is_open (least_of ts)) ts ≡ true
