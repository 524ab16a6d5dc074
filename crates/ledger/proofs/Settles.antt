-- Each promise settles its outcome: it says what the answer and each lent slice are, so two outcomes are that one.
use Prim.Native.Nat.{ℕ}
use mathlib.Core.Path.{◌≡◌, refl, sym, ap, subst, ◌∙◌}
use Rattle.std.specs.Prelude.{Ok, Err, ◌<◌}
use mathlib.Core.Bool.{true}
use mathlib.Core.List.{List, [], ◌∷◌}
use native.Mathlib.Omega.{arith}
use borrow.Author.Tests.{ne_eqb}
use Rattle.laws.proofs.Tests.{true-not-false}
use Rattle.chunk.specs.declared.Contents.{Contents}
use Rattle.chunk.specs.Contents.{Placed}
use Rattle.chunk.specs.Entry.{Entry}
use Rattle.chunk.specs.Words.{nt, well_formed}
use Rattle.chunk.specs.Words.{settled as is_settled}
use Rattle.chunk.specs.Refusal.{first, malformed, unsettled, empty}
use Rattle.chunk.proofs.Placed.{laid_by}
use Rattle.sort.specs.Sort.{entry_of}
use lib.ListN.{length}
use Rattle.reports.specs.Merge.{merge_number, merge_out}
use Rattle.merge.specs.Outcome.{Joined, answer_by, merge_answer}
use Rattle.ledger.proofs.Numbered.{one_number, none_of, one_answer}
use Rattle.whole.specs.Whole.{survives, whole_number, clean_out, left_out}
use Rattle.ledger.specs.Settles.{Two, Three, Lent, LentOf, PlacesSettles, NumberSettles, BodiesSettle, FormedSettles, SettledSettles, FilledSettles, ReadSettles, CountSettles, AnswerSettles, JoinedSettles, CheckSettles, FormSettles, UnsortedSettles, FilterSettles, SplitSettles, SuffixSettles, MeldSettles, ContentsSettles, LayoutSettles, TableSettles, ChildSettles, EarlierSettles, BelowSettles, SortSettles, CopySettles, ShiftSettles, ExtractSettles, FrontierSettles, RunSettles, StartSettles, StepSettles, AdvanceSettles, BeginSettles, StepInPlaceSettles, StartInPlaceSettles, NextSettles, PlanSettles, SurveySettles, ListedSettles, MergeSettles, WholeSettles, ScratchIdle, WholeScratchIdle}

-- the one law: what a promise says by an equation is settled
pub settled : {A : Type 0} {x y z : A} → x ≡ z → y ≡ z → x ≡ y
settled h k = h ∙ sym k

-- outcomes by their parts
pair : {A B : Type 0} (o q : A × B) → o.0 ≡ q.0 → o.1 ≡ q.1 → o ≡ q
pair o q h k = λ i. (h i, k i)

two : {A : Type 0} (o q : Two A) → o.0 ≡ q.0 → o.1 ≡ q.1 → o.2 ≡ q.2 → o ≡ q
two o q h k l = λ i. (h i, k i, l i)

three : {A : Type 0} (o q : Three A) → o.0 ≡ q.0 → o.1 ≡ q.1 → o.2 ≡ q.2 → o.3 ≡ q.3 → o ≡ q
three o q h k l m = λ i. (h i, k i, l i, m i)

pub answer_settles : AnswerSettles
answer_settles (Ok x) (Ok y) e = refl
answer_settles (Ok x) (Err r) e = absurd (none_of r e)
answer_settles (Err r) (Ok y) e = absurd (none_of r (sym e))
answer_settles (Err r) (Err s) e = ap Err (one_number r s e)

pub joined_settles : JoinedSettles
joined_settles (Ok x) (Ok y) e = ap (λ (j : Joined). Ok j.survivor) e
joined_settles (Ok x) (Err r) e = absurd (none_of r (ap (λ (j : Joined). j.number) e))
joined_settles (Err r) (Ok y) e = absurd (none_of r (sym (ap (λ (j : Joined). j.number) e)))
joined_settles (Err r) (Err s) e = ap Err (one_number r s (ap (λ (j : Joined). j.number) e))

pub check_settles : CheckSettles
check_settles w o q h k = settled h k

pub form_settles : FormSettles
form_settles us out o q h k = pair o q (settled h.number k.number) (settled h.written k.written)

pub unsorted_settles : UnsortedSettles
unsorted_settles us out o q h k = two o q (settled h.number k.number) (settled h.kept k.kept) (settled h.written k.written)

pub filter_settles : FilterSettles
filter_settles w out o q h k = pair o q (settled h.0 k.0) (settled h.1 k.1)

pub split_settles : SplitSettles
split_settles w n first rest o q h k = two o q (settled h.number k.number) (settled h.first k.first) (settled h.rest k.rest)

pub suffix_settles : SuffixSettles
suffix_settles p w out o q h k = pair o q (settled h.0 k.0) (settled h.1 k.1)

pub meld_settles : MeldSettles
meld_settles a b out o q h k = pair o q (settled h.number k.number) (settled h.output k.output)

pub contents_settles : ContentsSettles
contents_settles w o q h k = settled h k

pub layout_settles : LayoutSettles
layout_settles a b c d o q h k = settled h k

pub places_settles : PlacesSettles
places_settles a b c d o q h k = settled h k

pub table_settles : TableSettles
table_settles a b c d out o q h k = settled h k

pub child_settles : ChildSettles
child_settles ends i o q h k = settled h k

pub earlier_settles : EarlierSettles
earlier_settles s t o q h k = settled h k

pub below_settles : BelowSettles
below_settles s t o q h k = settled h k

pub number_settles : NumberSettles
number_settles r o q h k = settled h k

pub bodies_settle : (w : List ℕ) → BodiesSettle w
bodies_settle w =
    record {
      keys = λ o q h k. settled h k;
      val_ends = λ o q h k. settled h k;
      vals = λ o q h k. settled h k;
      time_ends = λ o q h k. settled h k;
      times = λ o q h k. settled h k;
      diff_ends = λ o q h k. settled h k;
      diffs = λ o q h k. settled h k;
      whole = λ o q h k. settled h k;
    }

-- the contents of one chunk's words are one
one_contents : (w : List ℕ) (c d : Contents) → Placed c w → Placed d w → c ≡ d
one_contents w c d h k = laid_by c w h ∙ sym (laid_by d w k)

one_lent : (w : List ℕ) (c d : Lent) → LentOf w c → LentOf w d → c ≡ d
one_lent w c d h k = pair c d (settled h.0 k.0) (one_contents w c.1 d.1 (subst (Placed c.1) h.0 h.1) (subst (Placed d.1) k.0 k.1))

-- no test fails of what is settled, nor of what is filled
sound : (w : List ℕ) → well_formed w ≡ true → is_settled w ≡ true → first (malformed w ∷ unsettled w ∷ []) ≡ 0
unfolding first
sound w h k = simp (h, k)

full : (w : List ℕ) → well_formed w ≡ true → is_settled w ≡ true → 0 < nt w → first (malformed w ∷ unsettled w ∷ empty w ∷ []) ≡ 0
unfolding first
full w h k n = simp (h, k, ne_eqb (nt w) 0 (omega arith))

pub formed_settles : FormedSettles
formed_settles w (Ok c) (Ok d) h k = ap Ok (one_lent w c d h.0 k.0)
formed_settles w (Ok c) (Err r) h k = absurd (true-not-false (sym h.1 ∙ k.1))
formed_settles w (Err r) (Ok d) h k = absurd (true-not-false (sym k.1 ∙ h.1))
formed_settles w (Err r) (Err s) h k = ap Err (settled h.0 k.0)

pub settled_settles : SettledSettles
settled_settles w (Ok c) (Ok d) h k = ap Ok (one_lent w c d h.0 k.0)
settled_settles w (Ok c) (Err r) h k = absurd (none_of r (sym (k ∙ sound w h.1.0 h.1.1)))
settled_settles w (Err r) (Ok d) h k = absurd (none_of r (sym (h ∙ sound w k.1.0 k.1.1)))
settled_settles w (Err r) (Err s) h k = ap Err (one_number r s (settled h k))

pub filled_settles : FilledSettles
filled_settles w (Ok c) (Ok d) h k = ap Ok (one_lent w c d h.0 k.0)
filled_settles w (Ok c) (Err r) h k = absurd (none_of r (sym (k ∙ full w h.1.0 h.1.1.0 h.1.1.1)))
filled_settles w (Err r) (Ok d) h k = absurd (none_of r (sym (h ∙ full w k.1.0 k.1.1.0 k.1.1.1)))
filled_settles w (Err r) (Err s) h k = ap Err (one_number r s (settled h k))

pub read_settles : ReadSettles
read_settles us i o q h k = let e : entry_of o ≡ entry_of q = settled h k in ap (λ (x : Entry). record { key = x.key; val = x.val; time = x.time; diff = x.diff }) e

pub sort_settles : SortSettles
sort_settles us o q h k = settled h k

pub copy_settles : CopySettles
copy_settles dst src o q h k = settled h k

pub shift_settles : ShiftSettles
shift_settles by dst ends o q h k = settled h k

pub extract_settles : ExtractSettles
extract_settles count corners w kept shipped o q h k = two o q (one_answer o.0 q.0 _ (settled h.number k.number) h.answer k.answer) (settled h.keeps k.keeps) (settled h.ships k.ships)

pub count_settles : CountSettles
count_settles from dst o q h k = settled h k

pub frontier_settles : FrontierSettles
frontier_settles o q h k = settled h k

pub run_settles : RunSettles
run_settles kind low high first second o q h k = settled h k

pub start_settles : StartSettles
start_settles w o q h k = settled h k

pub step_settles : StepSettles
step_settles words w o q h k = settled h k

pub advance_settles : AdvanceSettles
advance_settles words w o q h k = settled h k

pub begin_settles : BeginSettles
begin_settles words w o q h k = settled h k

pub step_in_place_settles : StepInPlaceSettles
step_in_place_settles words w o q h k = pair o q (settled h.0 k.0) (settled h.1 k.1)

pub start_in_place_settles : StartInPlaceSettles
start_in_place_settles words w o q h k = pair o q (settled h.0 k.0) (settled h.1 k.1)

pub next_settles : NextSettles
next_settles a b spot o q h k = settled h k

pub plan_settles : PlanSettles
plan_settles a b lent o q h k = settled h k

pub survey_settles : SurveySettles
survey_settles a b lent o q h k = pair o q (settled h.0 k.0) (settled h.1 k.1)

pub listed_settles : ListedSettles
listed_settles a b o q h k = settled h k

pub merge_settles : MergeSettles
merge_settles a b scratch out o q used other h k =
    record {
      same = pair o q (settled h.answers k.answers) (settled h.written k.written);
      untouched = λ r. settled (h.untouched r) (k.untouched r);
    }

pub whole_settles : WholeSettles
whole_settles a b scratch out clean rest o q used other h k =
    record {
      same = three o q (settled h.answers k.answers) (settled h.merges k.merges) (settled h.filters k.filters) (settled h.leaves k.leaves);
      untouched = λ r. settled (h.untouched r) (k.untouched r);
    }

-- ---- what scratch held

module _ (a b first second out : List ℕ) (h : length first ≡ length second) where
  number_idle : merge_number a b first out ≡ merge_number a b second out
  unfolding merge_number
  number_idle = rw h

  out_idle : merge_out a b first out ≡ merge_out a b second out
  unfolding merge_out
  out_idle = rw number_idle

  pair_idle : merge_answer a b first out ≡ merge_answer a b second out
  unfolding merge_answer
  pair_idle = rw number_idle

  module _ (clean rest : List ℕ) where
    whole_idle : whole_number a b first out clean rest ≡ whole_number a b second out clean rest
    unfolding whole_number
    whole_idle = rw (number_idle, out_idle)

    clean_idle : clean_out a b first out clean ≡ clean_out a b second out clean
    unfolding clean_out
    clean_idle = rw (number_idle, out_idle)

    left_idle : left_out a b first out clean rest ≡ left_out a b second out clean rest
    unfolding left_out
    left_idle = rw (number_idle, out_idle)

pub scratch_idle : ScratchIdle
scratch_idle a b first second out h o q used other p r =
    pair o q
    (settled p.answers (r.answers ∙ sym (pair_idle a b first second out h)))
    (settled p.written (r.written ∙ sym (out_idle a b first second out h)))

pub whole_scratch_idle : WholeScratchIdle
whole_scratch_idle a b first second out clean rest h o q used other p r =
    three o q
    (settled p.answers (r.answers ∙ ap (λ (n : ℕ). answer_by n (survives a b)) (sym (whole_idle a b first second out h clean rest))))
    (settled p.merges (r.merges ∙ sym (out_idle a b first second out h)))
    (settled p.filters (r.filters ∙ sym (clean_idle a b first second out h clean rest)))
    (settled p.leaves (r.leaves ∙ sym (left_idle a b first second out h clean rest)))
