-- `split::ranges::write_range` meets its contract: the items, their ends less the range's start, and in the place of the last end the range's length.
use Prim.Native.Nat.{ℕ, ◌+◌, ◌-◌}
use mathlib.Core.Path.{◌∙◌, ap}
use mathlib.Core.List.{List, map}
use native.Mathlib.Omega.{arith}
use lib.ListN.{set}
use lib.Seq.{sets}
use Rattle.laws.specs.Picked.{part}
use Rattle.meld.proofs.Copy.{copied-sets}
use Rattle.split.proofs.Spans.{length_part, range_written}
use Rattle.split.proofs.ranges.write_range.Goals as goal

pub returns : goal.returns
returns c =
    let n : ℕ = c.args.here.upper - c.args.here.lower in
    let i : List ℕ = part c.args.here.lower c.args.here.upper c.args.items.now in
    let l = length_part c.args.here.lower c.args.here.upper c.args.items.now (omega (arith, c.requires.len.0, c.requires.len.1.within)) in
    ap (λ (l : List ℕ). set l (n + n - 1) (c.args.below.upper - c.args.below.lower))
    (c.write_less.ensures ∙ ap (λ (l : List ℕ). sets l n (map (λ (e : ℕ). e - c.args.below.lower) (part c.args.here.lower c.args.here.upper c.args.ends.now))) (c.copy_into.ensures ∙ copied-sets c.args.out.now i (omega (arith, l, c.requires.out_len))))
    ∙ range_written c.args.ends.now c.args.below c.args.here c.requires.len.1 c.args.items.now c.args.out.now c.requires.len.0 c.requires.out_len
