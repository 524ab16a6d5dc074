-- `meld::count_on` meets its contract: so many numbers stand at the front, and past them what was lent.
use Rattle.std.proofs.Common.{length, ◌∙◌, arith, take_all}
use Rattle.meld.specs.Copy.{counted_on}
use Rattle.meld.proofs.Copy.{stepped, partly_end, length_counted, get_or_counted}
use Rattle.meld.proofs.count_on.Goals as goal

pub loop-i-preserved : goal.loop-i-preserved
loop-i-preserved c =
    let l = c.loop-i in
    let v = c.args in
    let n = length v.dst.now in
    stepped v.dst.now (counted_on v.first n) l.i 0 (omega (arith, length_counted v.first n)) (omega arith) l.invariant (get_or_counted v.first n l.i 0 (omega arith))

pub returns : goal.returns
returns c =
    let l = c.loop-i in
    let v = c.args in
    let n = length v.dst.now in
    l.invariant ∙ partly_end v.dst.now (counted_on v.first n) l.i (omega arith) (omega arith) ∙ take_all n (counted_on v.first n) (omega (arith, length_counted v.first n))
