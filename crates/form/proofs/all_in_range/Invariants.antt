-- `form::all_in_range` meets its contract: what was in range so far, and the updates left, give the answer.
use Rattle.std.proofs.Common.{◌≡◌, ◌&&◌, drop}
use Rattle.chunk.specs.Entry.{every}
use Rattle.sort.specs.Sort.{updates}
use Rattle.form.specs.Form.{in_range}
use Rattle.form.proofs.all_in_range.Given as goal

abbrev pub invariant-loop-i : goal.invariant-loop-i
invariant-loop-i l = every in_range (updates l.words) ≡ (l.within && every in_range (drop l.i (updates l.words)))
