-- `meld::copy_into` meets its contract.
use Rattle.std.proofs.Common.{refl, ◌∙◌, arith}
use Rattle.meld.proofs.Copy.{stepped, copied_least}
use Rattle.meld.proofs.copy_into.Goals as goal

pub loop-i-preserved : goal.loop-i-preserved
loop-i-preserved c =
    let l = c.loop-i in
    let v = c.args in
    stepped v.dst.now v.src.now l.i 0 (omega arith) (omega arith) l.invariant refl

pub returns : goal.returns
returns c =
    let l = c.loop-i in
    let v = c.args in
    l.invariant ∙ copied_least v.dst.now v.src.now l.i (omega (arith, c.min-i-end.ensures))
