-- The run that a survey passes over (document 01, "Survey": "each longest run of one input's keys"): how far the items below a target reach,
-- found by doubling and then halving steps.
use Rattle.std.specs.Prelude.{ℕ, ◌+◌, ◌-◌, ◌≤◌, ◌^◌, Bool, true, false, cond, ◌&&◌, ◌≡◌, List, ltb, length, get_or, take, drop}
use Rattle.chunk.specs.Words.{rises}
use Rattle.reports.specs.Survey.{below}

-- the items from one index up to another, which is excluded
abbrev pub between : ℕ → ℕ → List ℕ → List ℕ
between from to items = take (to - from) (drop from items)

-- an index short of `upper` with an item below the target
unfoldable pub below_at : List ℕ → ℕ → ℕ → ℕ → Bool
below_at items upper target at = ltb at upper && ltb (get_or items at 0) target

-- a power of two
pub record Doubled (step : ℕ) : Type 0 where
  pub times : ℕ
  pub is : step ≡ 2 ^ times

-- a halving step: taken where it lands below the target
unfoldable pub settled : List ℕ → ℕ → ℕ → ℕ → ℕ → ℕ
unfolding below_at
settled items lower step upper target = cond (below_at items upper target (lower + step)) (lower + step) lower

-- the halving steps end at the last item of the run
pub record Reached (items : List ℕ) (from upper target r : ℕ) : Type 0 where
  pub onward : from ≤ r
  pub under : below_at items upper target r ≡ true
  pub short : below_at items upper target (r + 1) ≡ false

-- a range of an input's items, which rise
pub record Rises (items : List ℕ) (from upper : ℕ) : Type 0 where
  pub ordered : from ≤ upper
  pub within : upper ≤ length items
  pub rise : rises (between from upper items) ≡ true

-- where the items below the target end
unfoldable pub run_end : List ℕ → ℕ → ℕ → ℕ → ℕ
unfolding below
run_end items from upper target = from + below target (between from upper items)
