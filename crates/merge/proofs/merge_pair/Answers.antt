use Rattle.std.proofs.lemmas.Result.{err_from_is_err_and}
use Rattle.merge.proofs.Passing.{taken, first_refuses, second_refuses, small_each, room_refuses, both_pass, merge_done}
use Rattle.merge.proofs.merge_pair.Goals as goal

pub returns-in_err-first : goal.returns-in_err-first
returns-in_err-first c =
    let p = err_from_is_err_and c.from_residual.result c.from_residual.ensures.1 in
    rw (p.1, p.2) (first_refuses _ _ _ _ _ c.in_err-first.ensures)

pub returns-in_err-second : goal.returns-in_err-second
returns-in_err-second c =
    let p = err_from_is_err_and c.from_residual-in_err-second.result c.from_residual-in_err-second.ensures.1 in
    let e0 = c.in_ok-first.ensures in
    let t0 = taken _ _ _ c.in_ok-first.first.placed e0.0 e0.1 e0.2 e0.3 in
    rw (p.1, p.2) (second_refuses _ _ _ _ _ t0 _ c.in_err-second.ensures)

pub admit-requires : goal.admit-requires
admit-requires c =
    let e0 = c.in_ok-first.ensures in
    let e1 = c.in_ok-second.ensures in
    small_each _ _ c.args.scratch.now c.args.out.now _ (taken _ _ _ c.in_ok-first.first.placed e0.0 e0.1 e0.2 e0.3) _ (taken _ _ _ c.in_ok-second.second.placed e1.0 e1.1 e1.2 e1.3)

pub returns-in_err-admit : goal.returns-in_err-admit
returns-in_err-admit c =
    let p = err_from_is_err_and c.from_residual-in_err-admit.result c.from_residual-in_err-admit.ensures.1 in
    let e0 = c.in_ok-first.ensures in
    let e1 = c.in_ok-second.ensures in
    rw (p.1, p.2) (room_refuses _ _ c.args.scratch.now c.args.out.now _ (taken _ _ _ c.in_ok-first.first.placed e0.0 e0.1 e0.2 e0.3) _ (taken _ _ _ c.in_ok-second.second.placed e1.0 e1.1 e1.2 e1.3) _ c.in_err-admit.ensures)

pub merge_settled-requires : goal.merge_settled-requires
merge_settled-requires c =
    let e0 = c.in_ok-first.ensures in
    let e1 = c.in_ok-second.ensures in
    rw (e0.0, e1.0) (both_pass c.args.words0.now c.args.words1.now c.args.scratch.now c.args.out.now _ (taken _ _ _ c.in_ok-first.first.placed e0.0 e0.1 e0.2 e0.3) _ (taken _ _ _ c.in_ok-second.second.placed e1.0 e1.1 e1.2 e1.3) c.in_ok-admit.ensures)

pub returns : goal.returns
returns c =
    let e0 = c.in_ok-first.ensures in
    let e1 = c.in_ok-second.ensures in
    merge_done c.args.words0.now c.args.words1.now c.args.scratch.now c.args.out.now _ (taken _ _ _ c.in_ok-first.first.placed e0.0 e0.1 e0.2 e0.3) _ (taken _ _ _ c.in_ok-second.second.placed e1.0 e1.1 e1.2 e1.3) c.in_ok-admit.ensures _ _ _ (rw (e0.0, e1.0) at c.merge_settled.ensures)
