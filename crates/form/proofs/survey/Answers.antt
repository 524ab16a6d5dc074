-- `form::survey` meets its contract: the invariant is `Surveying`, that the pass and the updates left give all answers.
use Rattle.std.proofs.Common.{◌≡◌, ◌<◌, ◌≤◌, Bool, true, false, ◌&&◌, ◌||◌, length, sym, ap, ◌∙◌, subst, arith, rules}
use Rattle.sort.specs.Sort.{updates}
use Rattle.sort.proofs.Updates.{count_whole}
use Rattle.form.specs.declared.Tally.{Tally}
use Rattle.form.specs.Tally.{no_tally}
use Rattle.form.proofs.Left.{first_word, answers_0, answers_3, answers_4}
use Rattle.form.proofs.Tallying.{Surveying, sized_wider, surveying_starts, surveying_turn, ends_falls, ends_range, ends_sizes}
use Rattle.form.proofs.survey.Goals as goal

pub loop-i-init : goal.loop-i-init
loop-i-init c =
    let w = c.args.words.now in
    let start : c.default-state.result ≡ no_tally = search rules in
    subst (λ (t : Tally). Surveying (updates w) 0 t false true) (sym start) (surveying_starts (updates w) (first_word w (omega (arith, c.type_inv.words 3))))

pub take-state-requires : goal.take-state-requires
take-state-requires c = sized_wider (omega arith) c.loop-i.invariant.sized

pub loop-i-preserved : goal.loop-i-preserved
loop-i-preserved c =
    let l = c.loop-i in
    let es = updates c.args.words.now in
    let more : l.i < length es = omega (arith, count_whole c.args.words.now) in
    surveying_turn es l.i l.state c.take-state.result l.fell (l.fell || c.precedes-fell.result) l.inside (l.inside && c.in_range-inside.result) c.read-next.result more c.read-next.ensures
    l.invariant c.take-state.ensures (ap (λ (t : Bool). l.fell || t) c.precedes-fell.ensures) (ap (λ (t : Bool). l.inside && t) c.in_range-inside.ensures)

pub returns-then-fell : goal.returns-then-fell
returns-then-fell c =
    let l = c.loop-i in
    let es = updates c.args.words.now in
    let over : length es ≤ l.i = omega (arith, count_whole c.args.words.now) in
    answers_3 es (ends_falls es l.i l.state l.fell l.inside over l.invariant ∙ c.if-fell.true)

pub returns-then-not-inside : goal.returns-then-not-inside
returns-then-not-inside c =
    let l = c.loop-i in
    let es = updates c.args.words.now in
    let over : length es ≤ l.i = omega (arith, count_whole c.args.words.now) in
    answers_4 es (ends_falls es l.i l.state l.fell l.inside over l.invariant ∙ c.if-fell.false) (ends_range es l.i l.state l.fell l.inside over l.invariant ∙ c.if-not-inside.true)

pub sizes_after-requires : goal.sizes_after-requires
sizes_after-requires c = sized_wider (omega arith) c.loop-i.invariant.sized

pub returns : goal.returns
returns c =
    let l = c.loop-i in
    let es = updates c.args.words.now in
    let over : length es ≤ l.i = omega (arith, count_whole c.args.words.now) in
    let unfallen = ends_falls es l.i l.state l.fell l.inside over l.invariant ∙ c.if-fell.false in (
      answers_0 es unfallen (ends_range es l.i l.state l.fell l.inside over l.invariant ∙ c.if-not-inside.false),
      c.sizes_after.ensures ∙ sym (ends_sizes es l.i l.state l.fell l.inside over l.invariant unfallen),
    )
