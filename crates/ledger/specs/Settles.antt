-- "For any call, two outcomes that its promise allows are shown equal", and "no answer may depend on what scratch held" (document 01,
-- "What the promises have to settle"). An outcome is the answer and every slice lent to write to, as it stands afterwards; what a promise
-- allows is what the public function ensures. Each statement is a type here, and a theorem of proofs/Settles.antt.
use Rattle.std.specs.Prelude.{ℕ, ◌≡◌, ◌<◌, Bool, true, false, List, [], ◌∷◌, length, take, Option, Result, MatchResult}
use Rattle.chunk.specs.declared.Checked.{Checked}
use Rattle.chunk.specs.declared.Contents.{Contents}
use Rattle.chunk.specs.declared.Range.{Range}
use Rattle.chunk.specs.declared.Refusal.{Refusal}
use Rattle.chunk.specs.declared.Refusal.TheVariants.{Malformed}
use Rattle.chunk.specs.Answer.{number_of, answer_number}
use Rattle.chunk.specs.Words.{nt, size, key_body, val_end_body, val_body, time_end_body, time_body, diff_end_body, diff_body, well_formed, settled}
use Rattle.chunk.specs.Refusal.{first, malformed, unsettled, empty}
use Rattle.chunk.specs.Time.{earlier, at_or_below}
use Rattle.chunk.specs.Contents.{contents_of, layout_within, layout_near, with_table, child_range, Placed}
use Rattle.chunk.specs.Check.{checked_of}
use Rattle.sort.specs.declared.Update.{Update}
use Rattle.sort.specs.Sort.{entry_of, nth, updates, sorted_words}
use Rattle.form.specs.Form.{FormAnswers, UnsortedAnswers}
use Rattle.merge.specs.declared.Survivor.{Survivor}
use Rattle.reports.specs.Merge.{Place, merge_number, suffix_number, suffix_out}
use Rattle.reports.specs.Refusals.{Refused}
use Rattle.merge.specs.Outcome.{Joined, joined_of, MergeAnswers}
use Rattle.reports.specs.Run.{run_of}
use Rattle.retain.specs.Cut.{filter_number, filter_out}
use Rattle.split.specs.Cut.{Split}
use Rattle.retain.specs.declared.Extracted.{Extracted}
use Rattle.retain.specs.declared.Frontier.{Frontier}
use Rattle.retain.specs.Found.{empty_frontier}
use Rattle.retain.specs.Answer.{Extraction}
use Rattle.meld.specs.Copy.{copied, shifted_all, counted_on}
use Rattle.meld.specs.Meld.{Melded}
use Rattle.whole.specs.Whole.{WholeAnswers}
use Rattle.walk.specs.declared.Walker.{Walker}
use Rattle.walk.specs.Walk.{step}
use Rattle.walk.specs.Answer.{Started, Stepped, place_of, started_of, stepped_by}
use Rattle.walker.specs.declared.Advanced.{Advanced}
use Rattle.walker.specs.declared.Begun.{Begun}
use Rattle.walker.specs.Lent.{Taken, stepped_from, taken_of, walker_after, advanced_to, begun_of, walker_from, begun_at}
use Rattle.survey.specs.declared.Report.{Report}
use Rattle.survey.specs.declared.Spot.{Spot}
use Rattle.survey.specs.declared.Next.{Next}
use Rattle.survey.specs.declared.Listed.{Listed}
use Rattle.survey.specs.Reports.{next_of, surveyed_of, filled_of, listed_of}

-- two outcomes that a promise allows are equal
abbrev pub Settled : {A : Type 0} → (A → Type 0) → Type 0
Settled {A} allows = (o q : A) → allows o → allows q → o ≡ q

-- an answer and one slice
abbrev pub One : Type 0 → Type 0
One A = A × List ℕ

-- an answer and two slices
abbrev pub Two : Type 0 → Type 0
Two A = A × List ℕ × List ℕ

-- an answer and three slices
abbrev pub Three : Type 0 → Type 0
Three A = A × List ℕ × List ℕ × List ℕ

-- an answer that says nothing but its number is settled by it: of form, form_unsorted, filter_zero, split_at, suffix_chunk and meld
abbrev pub AnswerSettles : Type 0
AnswerSettles = (o q : Result (Unit {0}) Refusal) → answer_number o ≡ answer_number q → o ≡ q

-- and an answer of a merge by its number and its survivor
abbrev pub JoinedSettles : Type 0
JoinedSettles = (o q : Result Survivor Refusal) → joined_of o ≡ joined_of q → o ≡ q

-- ---- the calls

-- check writes to nothing
abbrev pub CheckSettles : Type 0
CheckSettles = (w : List ℕ) → Settled (λ (o : Result Checked Refusal). o ≡ checked_of w)

-- form
abbrev pub FormSettles : Type 0
FormSettles = (us out : List ℕ) → Settled (λ (o : One ℕ). FormAnswers us out o.0 o.1)

-- form_unsorted writes to its updates too
abbrev pub UnsortedSettles : Type 0
UnsortedSettles = (us out : List ℕ) → Settled (λ (o : Two ℕ). UnsortedAnswers us out o.0 o.1 o.2)

-- filter_zero
abbrev pub FilterSettles : Type 0
FilterSettles = (w out : List ℕ) → Settled (λ (o : One ℕ). (o.0 ≡ filter_number w out) × (o.1 ≡ filter_out w out))

-- split_at
abbrev pub SplitSettles : Type 0
SplitSettles = (w : List ℕ) (n : ℕ) (one two : List ℕ) → Settled (λ (o : Two ℕ). Split o.0 o.1 o.2 w n one two)

-- extract, its answer with all 128 places of the frontier
abbrev pub ExtractSettles : Type 0
ExtractSettles =
    (count : ℕ) (corners w kept shipped : List ℕ) → Settled (λ (o : Two (Result Extracted Refusal)). Extraction o.0 o.1 o.2 count corners w kept shipped)

-- suffix_chunk
abbrev pub SuffixSettles : Type 0
SuffixSettles = (p : Place) (w out : List ℕ) → Settled (λ (o : One ℕ). (o.0 ≡ suffix_number p w out) × (o.1 ≡ suffix_out p w out))

-- meld
abbrev pub MeldSettles : Type 0
MeldSettles = (a b out : List ℕ) → Settled (λ (o : One ℕ). Melded a b out o.0 o.1)

-- ---- the smaller public functions

-- read_contents
abbrev pub ContentsSettles : Type 0
ContentsSettles = (w : List ℕ) → Settled (λ (o : Option Contents). o ≡ contents_of w)

-- layout
abbrev pub LayoutSettles : Type 0
LayoutSettles = (k v t d : ℕ) → Settled (λ (o : Option Contents). o ≡ layout_within k v t d)

-- places
abbrev pub PlacesSettles : Type 0
PlacesSettles = (k v t d : ℕ) → Settled (λ (o : Contents). o ≡ layout_near k v t d)

-- write_table
abbrev pub TableSettles : Type 0
TableSettles = (k v t d : ℕ) (out : List ℕ) → Settled (λ (o : List ℕ). o ≡ with_table k v t d out)

-- child_range
abbrev pub ChildSettles : Type 0
ChildSettles = (ends : List ℕ) (i : ℕ) → Settled (λ (o : Range). o ≡ child_range ends i)

-- sorts_before
abbrev pub EarlierSettles : Type 0
EarlierSettles = (s t : ℕ) → Settled (λ (o : Bool). o ≡ earlier s t)

-- at_or_below
abbrev pub BelowSettles : Type 0
BelowSettles = (s t : ℕ) → Settled (λ (o : Bool). o ≡ at_or_below s t)

-- the number of a refusal
abbrev pub NumberSettles : Type 0
NumberSettles = (r : Refusal) → Settled (λ (o : ℕ). o ≡ number_of r)

-- the bodies of a lent chunk, and all of its words
pub record BodiesSettle (w : List ℕ) : Type 0 where
  pub keys : Settled (λ (o : List ℕ). o ≡ key_body w)
  pub val_ends : Settled (λ (o : List ℕ). o ≡ val_end_body w)
  pub vals : Settled (λ (o : List ℕ). o ≡ val_body w)
  pub time_ends : Settled (λ (o : List ℕ). o ≡ time_end_body w)
  pub times : Settled (λ (o : List ℕ). o ≡ time_body w)
  pub diff_ends : Settled (λ (o : List ℕ). o ≡ diff_end_body w)
  pub diffs : Settled (λ (o : List ℕ). o ≡ diff_body w)
  pub whole : Settled (λ (o : List ℕ). o ≡ take (size w) w)

-- a chunk that is lent: its words and their contents, which the bodies stand by
abbrev pub Lent : Type 0
Lent = List ℕ × Contents

-- such a chunk of these words
abbrev pub LentOf : List ℕ → Lent → Type 0
LentOf w c = (c.0 ≡ w) × Placed c.1 c.0

-- formed
abbrev pub FormedSettles : Type 0
FormedSettles =
    (w : List ℕ)
    → Settled (λ (o : Result Lent Refusal). MatchResult o (λ c. LentOf w c × (well_formed w ≡ true)) (λ e. (e ≡ Malformed) × (well_formed w ≡ false)))

-- settled
abbrev pub SettledSettles : Type 0
SettledSettles =
    (w : List ℕ)
    → Settled (λ (o : Result Lent Refusal). MatchResult o (λ c. LentOf w c × ((well_formed w ≡ true) × (settled w ≡ true)))
    (λ e. number_of e ≡ first (malformed w ∷ unsettled w ∷ [])))

-- filled
abbrev pub FilledSettles : Type 0
FilledSettles =
    (w : List ℕ)
    → Settled (λ (o : Result Lent Refusal). MatchResult o (λ c. LentOf w c × ((well_formed w ≡ true) × ((settled w ≡ true) × (0 < nt w))))
    (λ e. number_of e ≡ first (malformed w ∷ unsettled w ∷ empty w ∷ [])))

-- the update of a number
abbrev pub ReadSettles : Type 0
ReadSettles = (us : List ℕ) (i : ℕ) → Settled (λ (o : Update). entry_of o ≡ nth (updates us) i)

-- sort_updates
abbrev pub SortSettles : Type 0
SortSettles = (us : List ℕ) → Settled (λ (o : List ℕ). o ≡ sorted_words us)

-- copy_into
abbrev pub CopySettles : Type 0
CopySettles = (dst src : List ℕ) → Settled (λ (o : List ℕ). o ≡ copied dst src)

-- copy_shifted
abbrev pub ShiftSettles : Type 0
ShiftSettles = (by : ℕ) (dst ends : List ℕ) → Settled (λ (o : List ℕ). o ≡ copied dst (shifted_all by ends))

-- count_on
abbrev pub CountSettles : Type 0
CountSettles = (from : ℕ) (dst : List ℕ) → Settled (λ (o : List ℕ). o ≡ counted_on from (length dst))

-- Frontier::new
abbrev pub FrontierSettles : Type 0
FrontierSettles = Settled (λ (o : Frontier). o ≡ empty_frontier)

-- run_of writes to nothing: its answer is a part of an input
abbrev pub RunSettles : Type 0
RunSettles = (kind low high : ℕ) (first second : List ℕ) → Settled (λ (o : List ℕ). o ≡ run_of kind low high first second)

-- ---- walk and walker

-- walk_start
abbrev pub StartSettles : Type 0
StartSettles = (w : List ℕ) → Settled (λ (o : Started). o ≡ started_of w)

-- walk_step
abbrev pub StepSettles : Type 0
StepSettles = (words : List ℕ) (w : Walker) → Settled (λ (o : Stepped). o ≡ stepped_by (step words (place_of w)))

-- advance, and step_lent
abbrev pub AdvanceSettles : Type 0
AdvanceSettles = (words : List ℕ) (w : Walker) → Settled (λ (o : Advanced). o ≡ advanced_to w (stepped_from words w))

-- begin
abbrev pub BeginSettles : Type 0
BeginSettles = (words : List ℕ) (w : Walker) → Settled (λ (o : Begun). o ≡ begun_at w (started_of words))

-- step_in_place, with the walker afterwards
abbrev pub StepInPlaceSettles : Type 0
StepInPlaceSettles =
    (words : List ℕ) (w : Walker)
    → Settled (λ (o : Taken × Walker). (o.0 ≡ taken_of (stepped_from words w)) × (o.1 ≡ walker_after w (stepped_from words w)))

-- start_in_place, with the walker afterwards
abbrev pub StartInPlaceSettles : Type 0
StartInPlaceSettles =
    (words : List ℕ) (w : Walker)
    → Settled (λ (o : Result (Unit {0}) Refusal × Walker). (o.0 ≡ begun_of (started_of words)) × (o.1 ≡ walker_from w (started_of words)))

-- ---- survey

-- next_report
abbrev pub NextSettles : Type 0
NextSettles = (a b : List ℕ) (spot : Spot) → Settled (λ (o : Option Next). o ≡ next_of a b spot)

-- plan
abbrev pub PlanSettles : Type 0
PlanSettles = (a b : List ℕ) (lent : ℕ) → Settled (λ (o : Result ℕ Refusal). o ≡ surveyed_of a b lent)

-- survey, with every lent report afterwards
abbrev pub SurveySettles : Type 0
SurveySettles =
    (a b : List ℕ) (lent : List Report)
    → Settled (λ (o : Result ℕ Refusal × List Report). (o.0 ≡ surveyed_of a b (length lent)) × (o.1 ≡ filled_of a b lent))

-- survey_listed
abbrev pub ListedSettles : Type 0
ListedSettles = (a b : List ℕ) → Settled (λ (o : Listed). o ≡ listed_of a b)

-- ---- merge, whose scratch the promise leaves open after acceptance or 14

-- two outcomes are equal in all but the scratch, and in the scratch too where the merge's number does not leave it open
pub record Once (n : ℕ) {A : Type 0} (o q : A) (used other : List ℕ) : Type 0 where
  pub same : o ≡ q
  pub untouched : Refused n → used ≡ other

-- merge_pair: its answer and its output
abbrev pub MergeSettles : Type 0
MergeSettles =
    (a b scratch out : List ℕ) (o q : One Joined) (used other : List ℕ)
    → MergeAnswers a b scratch out o.0 o.1 used → MergeAnswers a b scratch out q.0 q.1 other
    → Once (merge_number a b scratch out) o q used other

-- merge_whole: its answer and its three outputs
abbrev pub WholeSettles : Type 0
WholeSettles =
    (a b scratch out clean rest : List ℕ) (o q : Three Joined) (used other : List ℕ)
    → WholeAnswers a b scratch out clean rest o.0 o.1 o.2 o.3 used
    → WholeAnswers a b scratch out clean rest q.0 q.1 q.2 q.3 other
    → Once (merge_number a b scratch out) o q used other

-- whatever two scratches of one length held, the answer and the output are equal
abbrev pub ScratchIdle : Type 0
ScratchIdle =
    (a b first second out : List ℕ) → length first ≡ length second → (o q : One Joined) (used other : List ℕ)
    → MergeAnswers a b first out o.0 o.1 used → MergeAnswers a b second out q.0 q.1 other → o ≡ q

-- and so the answer and the three outputs of merge_whole
abbrev pub WholeScratchIdle : Type 0
WholeScratchIdle =
    (a b first second out clean rest : List ℕ) → length first ≡ length second → (o q : Three Joined) (used other : List ℕ)
    → WholeAnswers a b first out clean rest o.0 o.1 o.2 o.3 used
    → WholeAnswers a b second out clean rest q.0 q.1 q.2 q.3 other → o ≡ q
