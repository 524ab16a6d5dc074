-- `merge::pair::trim_surveys` meets its contract, survey by survey.
use Rattle.std.proofs.Common.{◌≡◌, ◌-◌, arith}
use Rattle.merge.proofs.Trimmed.{spans_are}
use Rattle.merge.proofs.pair.trim_surveys.Goals as goal

pub returns : goal.returns
returns c =
    let z : c.args.surveys.keys - 0 ≡ c.args.surveys.keys = omega arith in
    spans_are _ _ (rw (c.row_between.ensures, z) at c.trim-keys.ensures) (rw c.row_between-2.ensures at c.trim-vals.ensures) (rw c.row_between-3.ensures at c.trim-times.ensures)
