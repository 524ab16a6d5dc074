-- `meld::meld_settled` meets its contract: each test in its order, and then the chunk of both.
use Rattle.std.proofs.Common.{◌≡◌, ◌+◌, sym, ◌∙◌, arith}
use Rattle.std.specs.Prelude.{Some, None}
use Rattle.std.proofs.lemmas.Result.{err_from_is_err_and}
use Rattle.chunk.specs.declared.Refusal.TheVariants.{Overlaps}
use Rattle.meld.proofs.Numbers.{many, behind}
use Rattle.meld.proofs.Meeting.{met_by, unmet_by}
use Rattle.meld.proofs.Pair.{times_many, times_few, no_room, counts, melded}
use Rattle.meld.proofs.meld_settled.Goals as goal

pub returns-then-is_none : goal.returns-then-is_none
returns-then-is_none c =
    let v = c.args in
    many _ _ _ (times_many c.layout.ensures c.is_none.ensures (λ i. v.front.placed.time_count i + v.back.placed.time_count i) c.if-is_none.true)

pub returns-in_err-seam : goal.returns-in_err-seam
returns-in_err-seam c =
    let v = c.args in
    let few = times_few c.layout.ensures c.is_none.ensures (λ i. v.front.placed.time_count i + v.back.placed.time_count i) c.if-is_none.false in
    let p = err_from_is_err_and c.from_residual.result c.from_residual.ensures.1 in
    let n : c.seam_between.result ≡ None = grind arith in
    let o : c.in_err-seam.field-0.0 ≡ Overlaps = grind arith in
    rw (p.1, p.2, o) (behind _ _ _ few (unmet_by _ _ (sym c.seam_between.ensures ∙ n)))

pub returns-then-out-room : goal.returns-then-out-room
returns-then-out-room c =
    let v = c.args in
    let few = times_few c.layout.ensures c.is_none.ensures (λ i. v.front.placed.time_count i + v.back.placed.time_count i) c.if-is_none.false in
    let s : c.seam_between.result ≡ Some c.in_ok-seam.seam = grind arith in
    no_room _ _ _ c.requires.front_formed c.requires.back_formed few _ (met_by _ _ _ (sym c.seam_between.ensures ∙ s)) (omega arith)

pub write-requires-clause-counted : goal.write-requires-clause-counted
write-requires-clause-counted c =
    let v = c.args in
    let few = times_few c.layout.ensures c.is_none.ensures (λ i. v.front.placed.time_count i + v.back.placed.time_count i) c.if-is_none.false in
    let s : c.seam_between.result ≡ Some c.in_ok-seam.seam = grind arith in
    counts _ _ v.out.now c.requires.front_formed c.requires.back_formed few _ (met_by _ _ _ (sym c.seam_between.ensures ∙ s))

pub returns : goal.returns
returns c =
    let v = c.args in
    let few = times_few c.layout.ensures c.is_none.ensures (λ i. v.front.placed.time_count i + v.back.placed.time_count i) c.if-is_none.false in
    let s : c.seam_between.result ≡ Some c.in_ok-seam.seam = grind arith in
    melded _ _ _ c.requires.front_formed c.requires.back_formed few _ (met_by _ _ _ (sym c.seam_between.ensures ∙ s)) (omega arith) c.write.ensures
