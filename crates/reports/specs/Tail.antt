-- Where a merge ends (document 01, "Merge": "up to and including L, the smaller of the two last positions"): the surveys without the runs of
-- one input that they end with, and what those runs say of the survivor.
use Rattle.std.specs.Prelude.{ℕ, Bool, true, false, not, cond, ◌||◌, List, [], ◌∷◌, length, get_or, drop}
use Rattle.chunk.specs.Entry.{Entry}
use Rattle.chunk.specs.Sums.{sum_fits}
use Rattle.reports.specs.Survey.{Report, this, that, both}
use Rattle.reports.specs.Merge.{place_at, Survives, nobody, the_first, the_second}

-- all of them runs of the first input
unfoldable pub only_this : List Report → Bool
only_this [] = true
only_this (this l h ∷ rs) = only_this rs
only_this (that l h ∷ rs) = false
only_this (both i j ∷ rs) = false

-- all of them runs of the second
unfoldable pub only_that : List Report → Bool
only_that [] = true
only_that (this l h ∷ rs) = false
only_that (that l h ∷ rs) = only_that rs
only_that (both i j ∷ rs) = false

-- reports without the runs of one input that they end with
unfoldable pub trimmed : List Report → List Report
unfolding only_this only_that
trimmed [] = []
trimmed (r ∷ rs) = cond (only_this (r ∷ rs) || only_that (r ∷ rs)) [] (r ∷ trimmed rs)

-- the runs that they end with
unfoldable pub trailing : List Report → List Report
unfolding trimmed
trailing rs = drop (length (trimmed rs)) rs

-- who survives where the reports of the times end with these runs, and from where
unfoldable pub survivor_by : List Entry → List Entry → List Report → Survives
unfolding place_at
survivor_by es fs [] = nobody
survivor_by es fs (this l h ∷ rs) = the_first (place_at es l)
survivor_by es fs (that l h ∷ rs) = the_second (place_at fs l)
survivor_by es fs (both i j ∷ rs) = nobody

-- a sum of two diffs at a shared time is outside signed 64 bits
unfoldable pub overflows_by : List ℕ → List ℕ → List Report → Bool
overflows_by a b [] = false
overflows_by a b (this l h ∷ rs) = overflows_by a b rs
overflows_by a b (that l h ∷ rs) = overflows_by a b rs
overflows_by a b (both i j ∷ rs) = not (sum_fits (get_or a i 0) (get_or b j 0)) || overflows_by a b rs
