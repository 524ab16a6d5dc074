-- `form::all_in_range` meets its contract: what was in range so far, and the updates left, give the answer.
use Rattle.std.proofs.Common.{◌+◌, ◌<◌, Bool, ◌&&◌, length, drop, sym, ap, ◌∙◌, arith}
use Rattle.chunk.specs.Entry.{every}
use Rattle.sort.specs.Sort.{updates}
use Rattle.sort.proofs.Updates.{count_whole}
use Rattle.form.specs.Form.{in_range}
use Rattle.form.proofs.Left.{range_done, range_more}
use Rattle.form.proofs.all_in_range.Goals as goal

pub loop-i-preserved : goal.loop-i-preserved
loop-i-preserved c =
    let l = c.loop-i in
    let es = updates c.args.words.now in
    let more : l.i < length es = omega (arith, count_whole c.args.words.now) in
    l.invariant
    ∙ range_more es l.i l.within c.read-next.result more c.read-next.ensures
    ∙ ap (λ (t : Bool). (l.within && t) && every in_range (drop (l.i + 1) es)) (sym c.in_range-within.ensures)

pub returns : goal.returns
returns c = sym (c.loop-i.invariant ∙ range_done _ c.loop-i.i c.loop-i.within (omega (arith, count_whole c.args.words.now)))
