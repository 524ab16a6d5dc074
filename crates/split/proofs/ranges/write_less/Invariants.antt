-- `split::ranges::write_less` meets its contract.
use Rattle.std.proofs.Common.{◌≡◌, ℕ, ◌-◌, map}
use lib.Seq.{paste}
use Rattle.split.proofs.ranges.write_less.Given as goal

abbrev pub invariant-loop-i : goal.invariant-loop-i
invariant-loop-i l = l.out ≡ paste l.initial.out l.at (map (λ (e : ℕ). e - l.less) l.ends) l.i
