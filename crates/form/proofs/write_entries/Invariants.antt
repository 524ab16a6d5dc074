-- `form::write_entries` meets its contract: the invariant is `Writing`, that what is stored and the updates left give all that is written.
use Rattle.sort.specs.Sort.{updates}
use Rattle.form.proofs.Underway.{Writing}
use Rattle.form.proofs.write_entries.Given as goal

abbrev pub invariant-loop-i : goal.invariant-loop-i
invariant-loop-i l = Writing (updates l.sorted) l.places l.initial.out l.out l.i l.state
