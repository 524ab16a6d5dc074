-- `meld::seam_between` meets its contract: by the positions at the ends, where there are some.
use Rattle.std.proofs.Common.{sym, ◌∙◌}
use Rattle.meld.proofs.Read.{bodied}
use Rattle.meld.proofs.Meeting.{seam_some, seam_first_none, seam_second_none}
use Rattle.meld.proofs.seam_between.Goals as goal
use Rattle.meld.proofs.seam_between.Goals.{then-front-eq0-via-then-front-eq0, then-front-eq0-via-else-front-eq0+then-back-eq0}

pub returns-then-front-eq0 : goal.returns-then-front-eq0
returns-then-front-eq0 c =
    let f = c.args.front.placed.time_count ∙ (bodied _ c.requires.front_formed).time_count in
    let g = c.args.back.placed.time_count ∙ (bodied _ c.requires.back_formed).time_count in
    elim c.then-front-eq0.branch [
      | then-front-eq0-via-then-front-eq0 w ↦ seam_first_none _ _ (sym f ∙ w.if-front-eq0.true)
      | then-front-eq0-via-else-front-eq0+then-back-eq0 w ↦ seam_second_none _ _ (sym g ∙ w.if-back-eq0.true)
    ]

pub returns : goal.returns
returns c =
    let f = c.args.front.placed.time_count ∙ (bodied _ c.requires.front_formed).time_count in
    let g = c.args.back.placed.time_count ∙ (bodied _ c.requires.back_formed).time_count in
    c.seam_at.ensures
    ∙ rw (c.last_position.ensures, c.first_position.ensures)
    (seam_some _ _ (λ e. c.if-front-eq0.false (f ∙ e)) (λ e. c.if-back-eq0.false (g ∙ e)))
