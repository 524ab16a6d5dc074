use Rattle.std.proofs.Common.{◌≡◌, ℕ, ◌+◌, ◌*◌, List, length, take, sym, refl, arith}
use Rattle.chunk.specs.Contents.{child_range}
use Rattle.chunk.specs.declared.Range.{Range}
use Rattle.reports.specs.Survey.{both}
use Rattle.reports.specs.Scratch.{placed, report_words, pair_of, PairRoom, OneRoom}
use Rattle.reports.proofs.Surveying.{One, one_this, one_that, pair_room, one_both}
use Rattle.merge.proofs.Fronts.{cut-length, room_cut, reports_cut}
use Rattle.merge.proofs.Clauses.{value-scratch_after}
use Rattle.merge.proofs.survey_one.Goals as goal

-- the lists of a shared item, cut from their layers
module _ (e0 x0 e1 x1 : List ℕ) (l h : ℕ) (s : List ℕ) (at : ℕ) (o : OneRoom e0 x0 e1 x1 (both l h) s at) (r0 r1 : Range) (c0 : r0 ≡ child_range e0 l) (c1 : r1 ≡ child_range e1 h) where
  shared_room : PairRoom x0 r0.lower r0.upper x1 r1.lower r1.upper s at
  shared_room = pair_room e0 x0 e1 x1 2 l h s at (λ e. absurd (omega arith)) (λ e. absurd (omega arith)) o r0 r1 c0 c1

  cut_room : PairRoom (take r0.upper x0) r0.lower (length (take r0.upper x0)) (take r1.upper x1) r1.lower (length (take r1.upper x1)) s at
  cut_room = room_cut x0 r0.lower r0.upper x1 r1.lower r1.upper s at shared_room

  long0 : r0.upper ≡ length (take r0.upper x0)
  long0 = sym (cut-length x0 r0.lower r0.upper shared_room.rise0)

  long1 : r1.upper ≡ length (take r1.upper x1)
  long1 = sym (cut-length x1 r1.lower r1.upper shared_room.rise1)

  cut_both : (r : ℕ) (s' : List ℕ) → r ≡ at + 3 * length (pair_of (take r0.upper x0) r0.lower (length (take r0.upper x0)) (take r1.upper x1) r1.lower (length (take r1.upper x1)))
      → s' ≡ placed at (report_words (pair_of (take r0.upper x0) r0.lower (length (take r0.upper x0)) (take r1.upper x1) r1.lower (length (take r1.upper x1)))) s
      → One e0 x0 e1 x1 2 l h s at r s'
  cut_both r s' p q =
      let e = reports_cut x0 r0.lower r0.upper x1 r1.lower r1.upper s at shared_room in
      one_both e0 x0 e1 x1 2 l h s at (λ e. absurd (omega arith)) (λ e. absurd (omega arith)) o r0 r1 c0 c1 r s' (rw e at p) (rw e at q)

pub slice_bounds-survey_pair-end : goal.slice_bounds-survey_pair-end
slice_bounds-survey_pair-end c = long0 _ _ _ _ _ _ _ _ (rw c.in-Both.is at c.requires) _ _ c.child_range-one.ensures c.child_range-two.ensures

pub slice_bounds-survey_pair-end-in-Both : goal.slice_bounds-survey_pair-end-in-Both
slice_bounds-survey_pair-end-in-Both c = long1 _ _ _ _ _ _ _ _ (rw c.in-Both.is at c.requires) _ _ c.child_range-one.ensures c.child_range-two.ensures

pub survey_pair-requires : goal.survey_pair-requires
survey_pair-requires c = cut_room _ _ _ _ _ _ _ _ (rw c.in-Both.is at c.requires) _ _ c.child_range-one.ensures c.child_range-two.ensures

pub returns-in-This : goal.returns-in-This
returns-in-This c = rw c.in-This.is (value-scratch_after (one_this _ _ _ _ 0 _ _ _ _ _ refl (rw (c.this.ensures, c.items_of-run.ensures) at c.write.ensures)))

pub returns-in-That : goal.returns-in-That
returns-in-That c = rw c.in-That.is (value-scratch_after (one_that _ _ _ _ 1 _ _ _ _ _ refl (rw (c.that.ensures, c.items_of-run-in-That.ensures) at c.write-in-That.ensures)))

pub returns-in-Both : goal.returns-in-Both
returns-in-Both c = rw c.in-Both.is (value-scratch_after (cut_both _ _ _ _ _ _ _ _ (rw c.in-Both.is at c.requires) _ _ c.child_range-one.ensures c.child_range-two.ensures _ _ c.survey_pair.ensures.value c.survey_pair.ensures.scratch_after))
