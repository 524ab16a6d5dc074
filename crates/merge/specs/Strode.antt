-- Where the doubling steps of a gallop end.
use Rattle.std.specs.Prelude.{◌≡◌, ℕ, ◌+◌, ◌*◌, ◌≤◌, true, false, List}
use Rattle.reports.specs.Gallop.{below_at, Doubled}
use Rattle.merge.specs.declared.Stride.{Stride}

-- the doubling steps end at an item below the target, with none below it a step further on
pub record Strode (items : List ℕ) (from upper target : ℕ) (r : Stride) : Type 0 where
  pub onward : from ≤ r.lower
  pub under : below_at items upper target r.lower ≡ true
  pub short : below_at items upper target (r.lower + r.step) ≡ false
  pub doubled : Doubled r.step
  pub small : r.step ≤ 2 * upper
