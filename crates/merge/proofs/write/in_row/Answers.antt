-- `merge::write::in_row` meets its contract.
use Rattle.std.proofs.Common.{◌≡◌, ◌-◌, length, get_or, arith, eqb-true}
use Rattle.reports.proofs.WriteRows.{goes_up}
use Rattle.merge.proofs.write.in_row.Goals as goal

pub overflow_sub-result : goal.overflow_sub-result
overflow_sub-result c =
    let t = c in
    let v = t.args in omega (arith, goes_up v.ends.now 0 (length v.ends.now - 1) t.requires (omega arith) (omega arith))

pub returns : goal.returns
returns c =
    let t = c in
    let v = t.args in
    let up = goes_up v.ends.now 0 (length v.ends.now - 1) t.requires (omega arith) (omega arith) in
    λ q. let far : get_or v.ends.now (length v.ends.now - 1) 0 - get_or v.ends.now 0 0 ≡ length v.ends.now - 1 = eqb-true _ _ q in record { some = omega arith; last = omega arith }
