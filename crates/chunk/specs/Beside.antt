-- Times with their diff ends and diffs beside them, and what a look over a range of them finds.
use Rattle.std.specs.Prelude.{ℕ, suc, ◌-◌, ◌<◌, ◌≤◌, Bool, not, ◌&&◌, ◌≡◌, List, length, take, drop, eqb}
use Rattle.chunk.specs.declared.beside.Seen.{Seen}
use Rattle.chunk.specs.Entry.{every}
use Rattle.chunk.specs.Words.{ends_step}
use Rattle.chunk.specs.Falls.{falls_of}

-- no diff is 0
abbrev pub standing : List ℕ → Bool
standing diffs = every (λ (d : ℕ). not (eqb d 0)) diffs

-- the diff ends step from one count to another, and no diff is 0
abbrev pub changes_hold : ℕ → List ℕ → List ℕ → ℕ → Bool
changes_hold low ends diffs top = ends_step low ends top && standing diffs

-- a diff end for each time, no more diffs than times, and a range of times that has some
pub record Beside (times ends diffs : List ℕ) (low high : ℕ) : Type 0 where
  pub alike : length ends ≡ length times
  pub few : length diffs ≤ length times
  pub some : low < high
  pub within : high ≤ length times

-- what a look over a range finds, where the diff ends before it have reached a count: one fall more than the range has, since its first time counts as one; and whether the changes hold as far as it goes, so that with those after it they tell of all from its start on
pub record LookFrom (seen : Seen) (times ends diffs : List ℕ) (low high reach : ℕ) : Type 0 where
  pub falls : seen.fell ≡ suc (falls_of (take (high - low) (drop low times)))
  pub changes : changes_hold reach (drop low ends) (drop low diffs) (length diffs) ≡ (seen.good && changes_hold seen.reach (drop high ends) (drop high diffs) (length diffs))
