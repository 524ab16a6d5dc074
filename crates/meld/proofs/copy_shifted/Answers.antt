-- `meld::copy_shifted` meets its contract: it is the copy of the ends gone up.
use Rattle.std.proofs.Common.{◌<◌, length, sym, ◌∙◌, arith}
use lib.ListN.{length-map, get_or-map}
use Rattle.meld.specs.Copy.{shifted, shifted_all}
use Rattle.meld.proofs.Copy.{stepped, copied_least}
use Rattle.meld.proofs.copy_shifted.Goals as goal

pub loop-i-preserved : goal.loop-i-preserved
loop-i-preserved c =
    let l = c.loop-i in
    let v = c.args in
    let m : l.i < length (shifted_all v.by v.ends.now) = simp length-map (omega arith) in
    stepped v.dst.now (shifted_all v.by v.ends.now) l.i (shifted v.by 0) m (omega arith) l.invariant (sym (get_or-map (shifted v.by) v.ends.now l.i 0))

pub returns : goal.returns
returns c =
    let l = c.loop-i in
    let v = c.args in
    l.invariant ∙ copied_least v.dst.now (shifted_all v.by v.ends.now) l.i (omega (arith, length-map v.ends.now (shifted v.by), c.min-i-end.ensures))
