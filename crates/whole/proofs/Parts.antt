-- Where the three parts end: the first refusal is the answer, and what was written before it stays.
use Prim.Native.Nat.{ℕ, zero, suc, ◌<◌}
use mathlib.Core.Path.{◌≡◌, refl, sym, ap, ◌∙◌}
use mathlib.Core.List.{List}
use native.Mathlib.Omega.{arith}
use Rattle.std.specs.Prelude.{Err}
use Rattle.chunk.specs.declared.Refusal.{Refusal}
use Rattle.chunk.specs.Answer.{number_of}
use Rattle.chunk.proofs.Refusals.{number_above}
use Rattle.merge.specs.declared.Survivor.{Survivor}
use Rattle.merge.specs.declared.Survivor.TheVariants.{Nobody}
use Rattle.reports.specs.Merge.{Survives, nobody, the_first, the_second, merge_number, merge_out}
use Rattle.merge.specs.Outcome.{Joined, joined_of, survivor_of, answer_by, merge_answer, MergeAnswers}
use Rattle.retain.specs.Cut.{filter_number, filter_out}
use Rattle.whole.specs.Whole.{and_then, once_done, survives_of, survives, rest_number, rest_out, whole_number, clean_out, left_out, WholeAnswers}

-- ---- answers

-- an answer has its number
its_number : (n : ℕ) (who : Survives) → (answer_by n who).number ≡ n
its_number zero who = refl
its_number (suc n) who = refl

-- and, accepted, its survivor
survivor_of_lem : (n : ℕ) (who : Survives) → n ≡ 0 → (answer_by n who).survivor ≡ survivor_of who
survivor_of_lem zero who h = refl
survivor_of_lem (suc n) who h = absurd (omega arith)

-- nobody survives a refusal, whoever it was
refused_alike : (n : ℕ) (who : Survives) → (n ≡ 0 → ⊥) → answer_by n nobody ≡ answer_by n who
refused_alike zero who h = absurd (h refl)
refused_alike (suc n) who h = refl

-- a refusal's answer is by its number, which is not 0
by_number : (n : ℕ) → 0 < n → record { number = n; survivor = Nobody } ≡ answer_by n nobody
by_number zero h = absurd (omega (arith, h))
by_number (suc n) h = refl

pub refusal_answer : (e : Refusal) → joined_of (Err e) ≡ answer_by (number_of e) nobody
refusal_answer e = by_number (number_of e) (number_above e)

pub not_zero : (e : Refusal) → number_of e ≡ 0 → ⊥
not_zero e z = let h = number_above e in omega arith

-- who survives is told as it is
pub told : (who : Survives) → survives_of (survivor_of who) ≡ who
told nobody = refl
told (the_first p) = refl
told (the_second p) = refl

-- a number and an output, as the definitions say them of the survivor once it is known
pub rest_known : (s k : Survivor) (a b rest : List ℕ) (l : ℕ) (left : List ℕ) → s ≡ k
    → l ≡ rest_number (survives_of k) a b rest → left ≡ rest_out (survives_of k) a b rest
    → (l ≡ rest_number (survives_of s) a b rest) × (left ≡ rest_out (survives_of s) a b rest)
rest_known s k a b rest l left h n o = rw h (n, o)

-- ---- one part after another

pub ends : (m n : ℕ) → (m ≡ 0 → ⊥) → and_then m n ≡ m
ends zero n h = absurd (h refl)
ends (suc m) n h = refl

goes_on : (m n : ℕ) → m ≡ 0 → and_then m n ≡ n
goes_on zero n h = refl
goes_on (suc m) n h = absurd (omega arith)

-- what comes after matters only then
pub goes_alike : (m n k : ℕ) → (m ≡ 0 → n ≡ k) → and_then m n ≡ and_then m k
goes_alike zero n k h = h refl
goes_alike (suc m) n k h = refl

as_it_was : (n : ℕ) (new old : List ℕ) → (n ≡ 0 → ⊥) → once_done n new old ≡ old
as_it_was zero new old h = absurd (h refl)
as_it_was (suc n) new old h = refl

done : (n : ℕ) (new old : List ℕ) → n ≡ 0 → once_done n new old ≡ new
done zero new old h = refl
done (suc n) new old h = absurd (omega arith)

-- ---- the call

module _ (a b scratch out clean rest : List ℕ) (r : Joined) (after used : List ℕ) (m : MergeAnswers a b scratch out r after used) where
  merge_answer_lem : r ≡ answer_by (merge_number a b scratch out) (survives a b)
  unfolding merge_answer
  merge_answer_lem = m.answers

  merge-number : r.number ≡ merge_number a b scratch out
  merge-number = ap (λ (j : Joined). j.number) merge_answer_lem ∙ its_number (merge_number a b scratch out) (survives a b)

  -- the merge is refused
  pub merge_refused : (r.number ≡ 0 → ⊥) → WholeAnswers a b scratch out clean rest r after clean rest used
  unfolding whole_number clean_out left_out
  merge_refused h =
      let f : merge_number a b scratch out ≡ 0 → ⊥ = λ z. h (merge-number ∙ z) in
      let l : and_then (merge_number a b scratch out) (filter_number (merge_out a b scratch out) clean) ≡ merge_number a b scratch out = ends _ _ f in
      record {
        answers = merge_answer_lem ∙ ap (λ (n : ℕ). answer_by n (survives a b)) (sym (ends _ _ f));
        merges = m.written;
        filters = sym (as_it_was _ _ _ f);
        leaves = sym (as_it_was _ _ _ (λ z. f (sym l ∙ z)));
        untouched = m.untouched;
      }

  module _ (accepted : r.number ≡ 0) (n : ℕ) (cleaned : List ℕ) (number : n ≡ filter_number after clean) (filters : cleaned ≡ filter_out after clean) where
    -- what the merge answers once it is accepted
    merge-zero : merge_number a b scratch out ≡ 0
    merge-zero = sym merge-number ∙ accepted

    filter-number : n ≡ filter_number (merge_out a b scratch out) clean
    filter-number = number ∙ ap (λ (w : List ℕ). filter_number w clean) m.written

    clean_written : cleaned ≡ clean_out a b scratch out clean
    unfolding clean_out
    clean_written = filters ∙ ap (λ (w : List ℕ). filter_out w clean) m.written ∙ sym (done _ _ _ merge-zero)

    -- both numbers so far
    so_far : and_then (merge_number a b scratch out) (filter_number (merge_out a b scratch out) clean) ≡ n
    so_far = goes_on _ _ merge-zero ∙ sym filter-number

    -- the filter is refused
    pub filter_refused : (n ≡ 0 → ⊥) → (j : Joined) → j ≡ answer_by n nobody → WholeAnswers a b scratch out clean rest j after cleaned rest used
    unfolding whole_number left_out
    filter_refused h j e =
        record {
          answers = e ∙ refused_alike n (survives a b) h
              ∙ ap (λ (k : ℕ). answer_by k (survives a b)) (sym (goes_on _ _ merge-zero ∙ ends _ _ (λ z. h (filter-number ∙ z)) ∙ sym filter-number));
          merges = m.written;
          filters = clean_written;
          leaves = sym (as_it_was _ _ _ (λ z. h (sym so_far ∙ z)));
          untouched = m.untouched;
        }

    module _ (passes : n ≡ 0) (l : ℕ) (left : List ℕ)
        (rests : l ≡ rest_number (survives_of r.survivor) a b rest)
        (leaves : left ≡ rest_out (survives_of r.survivor) a b rest) where
      -- who the merge says survives
      who_survives : survives_of r.survivor ≡ survives a b
      who_survives =
          ap (λ (j : Joined). survives_of j.survivor) merge_answer_lem
          ∙ ap survives_of (survivor_of_lem (merge_number a b scratch out) (survives a b) merge-zero)
          ∙ told (survives a b)

      whole_number_lem : whole_number a b scratch out clean rest ≡ l
      unfolding whole_number
      whole_number_lem =
          goes_on _ _ merge-zero ∙ goes_on _ _ (sym filter-number ∙ passes)
          ∙ ap (λ (w : Survives). rest_number w a b rest) (sym who_survives) ∙ sym rests

      left-written : left ≡ left_out a b scratch out clean rest
      unfolding left_out
      left-written = leaves ∙ ap (λ (w : Survives). rest_out w a b rest) who_survives ∙ sym (done _ _ _ (so_far ∙ passes))

      -- the suffix answers
      whole_answers : (j : Joined) → j ≡ answer_by l (survives a b) → WholeAnswers a b scratch out clean rest j after cleaned left used
      whole_answers j e =
          record {
            answers = e ∙ ap (λ (k : ℕ). answer_by k (survives a b)) (sym whole_number_lem);
            merges = m.written;
            filters = clean_written;
            leaves = left-written;
            untouched = m.untouched;
          }

      -- it is refused
      pub rest_refused : (l ≡ 0 → ⊥) → (j : Joined) → j ≡ answer_by l nobody → WholeAnswers a b scratch out clean rest j after cleaned left used
      rest_refused h j e = whole_answers j (e ∙ refused_alike l (survives a b) h)

      -- all three are accepted
      pub all_accepted : l ≡ 0 → WholeAnswers a b scratch out clean rest r after cleaned left used
      all_accepted h = whole_answers r (merge_answer_lem ∙ ap (λ (k : ℕ). answer_by k (survives a b)) (merge-zero ∙ sym h))

-- ---- acceptance

-- two numbers, of which neither refuses
both_zero : (m n : ℕ) → and_then m n ≡ 0 → (m ≡ 0) × (n ≡ 0)
both_zero zero n h = (refl, h)
both_zero (suc m) n h = absurd (omega arith)

-- the three parts of a call that is accepted, and what its outputs then hold
pub record Accepted (a b scratch out clean rest : List ℕ) : Type 0 where
  pub merge : merge_number a b scratch out ≡ 0
  pub filter : filter_number (merge_out a b scratch out) clean ≡ 0
  pub suffix : rest_number (survives a b) a b rest ≡ 0
  pub cleaned : clean_out a b scratch out clean ≡ filter_out (merge_out a b scratch out) clean
  pub left : left_out a b scratch out clean rest ≡ rest_out (survives a b) a b rest

pub whole_accepted : (a b scratch out clean rest : List ℕ) → whole_number a b scratch out clean rest ≡ 0 → Accepted a b scratch out clean rest
unfolding whole_number clean_out left_out
whole_accepted a b scratch out clean rest h =
    let m : ℕ = merge_number a b scratch out in
    let f : ℕ = filter_number (merge_out a b scratch out) clean in
    let p : (m ≡ 0) × (and_then f (rest_number (survives a b) a b rest) ≡ 0) = both_zero m _ h in
    let q : (f ≡ 0) × (rest_number (survives a b) a b rest ≡ 0) = both_zero f _ p.1 in
    record {
      merge = p.0;
      filter = q.0;
      suffix = q.1;
      cleaned = done _ _ _ p.0;
      left = done _ _ _ (goes_on m f p.0 ∙ q.0);
    }
