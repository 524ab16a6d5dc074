-- `split::ranges::write_run` meets its contract: each third takes its run.
use Prim.Native.Nat.{ℕ, ◌+◌}
use mathlib.Core.Path.{refl, ◌∙◌, ap}
use mathlib.Core.List.{List}
use native.Mathlib.Omega.{arith}
use lib.ListN.{length}
use lib.Seq.{sets}
use Rattle.laws.specs.Picked.{count_up}
use Rattle.meld.proofs.Copy.{copied-sets, put_copy, put_count}
use Rattle.split.proofs.ranges.write_run.Goals as goal

pub returns : goal.returns
returns c =
    let n : ℕ = length c.args.times.now in
    put_copy (n + n) (n + n + n) _ c.args.diffs.now _ (omega (arith, c.requires.0)) (omega arith) c.copy_into-2.ensures
    ∙ ap (λ (l : List ℕ). sets l (n + n) c.args.diffs.now)
    (put_count n (n + n) n _ _ (omega (arith, c.requires.0)) refl (omega arith) c.count_on.ensures
    ∙ ap (λ (l : List ℕ). sets l n (count_up 0 n)) (c.copy_into.ensures ∙ copied-sets c.args.out.now c.args.times.now (omega arith)))
