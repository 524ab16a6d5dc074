-- A merge in words: the survivor that goes out, and the ways that the merge beneath goes.
use Prim.Native.Nat.{ℕ, zero, suc, ◌≤◌}
use mathlib.Core.Path.{◌≡◌, refl, sym, ◌∙◌, ap}
use mathlib.Core.Bool.{Bool, cond}
use mathlib.Core.List.{List}
use lib.ListN.{length}
use borrow.Author.Tests.{le-ltb}
use Rattle.chunk.specs.Words.{entries}
use Rattle.reports.specs.Merge.{Survives, survivor, merge_number, merge_out}
use Rattle.merge.specs.Outcome.{Joined, survivor_of, answer_by, merge_answer, MergeAnswers}
use Rattle.whole.specs.Whole.{whole_number, clean_out, left_out, WholeAnswers}
use Rattle.host.specs.Answers.{number_in, laid_by, Answers}
use Rattle.host.specs.Merges.{survivor_words, left_words, once_lent, Said, PairAnswers, AllAnswers}
use Rattle.host.proofs.Laid.{with_room}

-- a slice that is lent with room for the answer
lent_room : (l old new : List ℕ) → 4 ≤ length l → new ≡ once_lent l old new
lent_room l old new h = sym (ap (λ (t : Bool). cond t old new) (le-ltb (length l) 4 h))

-- an answer by its number and who survives, in words
laid_by_lem : (n : ℕ) (s : Survives) (l : List ℕ) → laid_by (answer_by n s).number (survivor_words (answer_by n s).survivor) l ≡ laid_by n (survivor_words (survivor_of s)) l
laid_by_lem zero s l = refl
laid_by_lem (suc n) s l = refl

numbered : (n : ℕ) (s : Survives) → (answer_by n s).number ≡ n
numbered zero s = refl
numbered (suc n) s = refl

-- what is said of an answer by its number and who survives
module _ (n : ℕ) (s : Survives) (j : Joined) (e : j ≡ answer_by n s) (l : List ℕ) (h : 4 ≤ length l) (r : ℕ) (after : List ℕ) (u : Said j l r after) where
  pub said_by : Answers (number_in 4 n l) (laid_by (number_in 4 n l) (survivor_words (survivor_of s)) l) r after
  said_by =
      record {
        returned = u.returned ∙ ap (λ (x : Joined). x.number) e ∙ numbered n s ∙ with_room 4 n l l h;
        laid = u.laid ∙ ap (λ (x : Joined). laid_by x.number (survivor_words x.survivor) l) e ∙ laid_by_lem n s l
            ∙ ap (λ (m : ℕ). laid_by m (survivor_words (survivor_of s)) l) (with_room 4 n l l h);
      }

module _ (a b scratch out answer : List ℕ) where
  module _ (h : 4 ≤ length answer) (j : Joined) (after used : List ℕ) (m : MergeAnswers a b scratch out j after used) where
    answer-is : j ≡ answer_by (merge_number a b scratch out) (survivor (entries a) (entries b))
    unfolding merge_answer
    answer-is = m.answers

    pub pair_said : (r : ℕ) (answered : List ℕ) → Said j answer r answered → PairAnswers a b scratch out answer r answered after used
    pair_said r answered u =
        let q : Answers (number_in 4 (merge_number a b scratch out) answer) (laid_by (number_in 4 (merge_number a b scratch out) answer) (left_words a b) answer) r answered = said_by (merge_number a b scratch out) (survivor (entries a) (entries b)) j answer-is answer h r answered u in
        record {
          returned = q.returned;
          answered = q.laid;
          merges = m.written ∙ lent_room answer out (merge_out a b scratch out) h;
          untouched = λ bad. m.untouched (rw (with_room 4 (merge_number a b scratch out) answer answer h) bad);
        }

module _ (a b scratch out clean rest answer : List ℕ) where
  module _ (h : 4 ≤ length answer) (j : Joined) (after cleaned left used : List ℕ) (m : WholeAnswers a b scratch out clean rest j after cleaned left used) where
    pub all_said : (r : ℕ) (answered : List ℕ) → Said j answer r answered → AllAnswers a b scratch out clean rest answer r answered after cleaned left used
    all_said r answered u =
        let q : Answers (number_in 4 (whole_number a b scratch out clean rest) answer) (laid_by (number_in 4 (whole_number a b scratch out clean rest) answer) (left_words a b) answer) r answered = said_by (whole_number a b scratch out clean rest) (survivor (entries a) (entries b)) j m.answers answer h r answered u in
        record {
          returned = q.returned;
          answered = q.laid;
          merges = m.merges ∙ lent_room answer out (merge_out a b scratch out) h;
          filters = m.filters ∙ lent_room answer clean (clean_out a b scratch out clean) h;
          leaves = m.leaves ∙ lent_room answer rest (left_out a b scratch out clean rest) h;
          untouched = λ bad. m.untouched (rw (with_room 4 (merge_number a b scratch out) answer answer h) bad);
        }
