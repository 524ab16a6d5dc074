-- `form::write_entries` meets its contract: the invariant is `Writing`, that what is stored and the updates left give all that is written.
use Rattle.std.proofs.Common.{◌≡◌, ◌<◌, ◌≤◌, length, sym, ◌∙◌, subst, arith, rules}
use Rattle.sort.specs.Sort.{updates}
use Rattle.sort.proofs.Updates.{count_whole}
use Rattle.form.specs.declared.Consolidating.{Consolidating}
use Rattle.form.proofs.Left.{first_word}
use Rattle.form.proofs.Underway.{Writing, wider, fresh, writing_starts, writing_turn, writing_ends, roomy, below_turn, below_end}
use Rattle.form.proofs.write_entries.Goals as goal

pub loop-i-init : goal.loop-i-init
loop-i-init c =
    let g = c.args in
    let w = g.sorted.now in
    let start : c.default-state.result ≡ fresh = search rules in
    subst (λ (s : Consolidating). Writing (updates w) g.places g.out.now g.out.now 0 s) (sym start)
    (writing_starts (updates w) (first_word w (omega (arith, c.type_inv.sorted 3))) g.places g.out.now)

pub take-state-requires-clause-counting : goal.take-state-requires-clause-counting
take-state-requires-clause-counting c = wider (omega arith) c.loop-i.invariant.underway.counting

pub take-state-requires-clause-roomy : goal.take-state-requires-clause-roomy
take-state-requires-clause-roomy c =
    let l = c.loop-i in
    let g = c.args in
    let es = updates g.sorted.now in
    let more : l.i < length es = omega (arith, count_whole g.sorted.now) in
    roomy es g.places g.out.now l.out _ c.requires l.auto.out (below_turn es l.i l.state c.read-next.result more c.read-next.ensures l.invariant.underway)

pub loop-i-preserved : goal.loop-i-preserved
loop-i-preserved c =
    let l = c.loop-i in
    let g = c.args in
    let t = c.take-state in
    let es = updates g.sorted.now in
    let more : l.i < length es = omega (arith, count_whole g.sorted.now) in
    writing_turn es l.i l.state t.result c.read-next.result more c.read-next.ensures t.ensures.taken g.places g.out.now l.out t.new.out l.invariant t.ensures

pub push-requires-clause-counting : goal.push-requires-clause-counting
push-requires-clause-counting c = wider (omega arith) c.loop-i.invariant.underway.counting

pub push-requires-clause-roomy : goal.push-requires-clause-roomy
push-requires-clause-roomy c =
    let l = c.loop-i in
    let g = c.args in
    let es = updates g.sorted.now in
    let over : length es ≤ l.i = omega (arith, count_whole g.sorted.now) in
    roomy es g.places g.out.now l.out _ c.requires l.auto.out (below_end es l.i l.state over l.invariant.underway)

pub returns : goal.returns
returns c =
    let l = c.loop-i in
    let g = c.args in
    let es = updates g.sorted.now in
    let over : length es ≤ l.i = omega (arith, count_whole g.sorted.now) in
    c.push.ensures.stores ∙ sym (writing_ends es l.i l.state over g.places g.out.now l.out l.invariant)
