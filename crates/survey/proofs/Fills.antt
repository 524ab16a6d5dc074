-- The lent records, one report after another, are the reports in order with the other records as they were.
use Prim.Native.Nat.{ℕ, zero, suc, ◌+◌, ◌≤◌, ◌<◌}
use mathlib.Core.Path.{◌≡◌, refl, sym, ◌∙◌, ap}
use mathlib.Core.List.{List, [], ◌∷◌, ◌++◌, map, append_assoc, append-nil}
use native.Mathlib.Omega.{arith}
use native.Mathlib.Numerals.{add-one}
use lib.ListN.{length, take, drop, set, length-set}
use lib.Seq.{take-suc-set, take_all}
use Rattle.std.specs.Prelude.{Some, IsSome, Ok, Err}
use Rattle.chunk.specs.Words.{key_body}
use Rattle.reports.specs.Survey.{reports, survey_number}
use Rattle.reports.specs.Survey.{Report as Said}
use Rattle.survey.specs.Reports.{record_of, next_in, keys_of, surveyed_of, filled_for, filled_of}
use Rattle.survey.specs.declared.Report.{Report}
use Rattle.survey.specs.declared.Spot.{Spot}
use Rattle.survey.specs.declared.Next.{Next}
use Rattle.chunk.specs.declared.Refusal.{Refusal}
use Rattle.survey.proofs.Nexts.{Turn, turn, left, outset, whole, some_next, count_within}
use Rattle.survey.proofs.Plans.{taken_keys, taken_count, Accepted, accepted, Counted, counted, refuses}

-- before a record is filled: the reports are those stored and those left, as many as there are records
pub record Filled (xs ys : List ℕ) (s : Spot) (at : ℕ) (rs : List Report) : Type 0 where
  pub in_i : s.i ≤ length xs
  pub in_j : s.j ≤ length ys
  pub room : at + length (left xs ys s) ≡ length rs
  pub stored : take at rs ++ map record_of (left xs ys s) ≡ map record_of (reports xs ys)

module _ (xs ys : List ℕ) (rs : List Report) where
  pub fill_start : length (reports xs ys) ≡ length rs → Filled xs ys outset 0 rs
  fill_start e = record { in_i = omega arith; in_j = omega arith; room = omega (arith, ap length (whole xs ys)); stored = ap (map record_of) (whole xs ys) }

  module _ (s : Spot) (at : ℕ) (f : Filled xs ys s at rs) where
    pub fill_next : at < length rs → IsSome (next_in xs ys s.i s.j)
    fill_next h = some_next xs ys s f.in_i f.in_j (omega (arith, f.room))

    pub fill_more : (nx : Next) → Some nx ≡ next_in xs ys s.i s.j → at < length rs → Filled xs ys nx.spot (at + 1) (set rs at nx.report)
    fill_more nx e h =
        let t : Turn xs ys s nx = turn xs ys s f.in_i f.in_j nx e in
        let tail : List Report = map record_of (left xs ys nx.spot) in
        let is : nx.report ≡ record_of t.said = ap (λ (x : Next). x.report) t.is in
        record {
          in_i = t.in_i;
          in_j = t.in_j;
          room = omega (arith, f.room, ap length t.split, length-set rs at nx.report);
          stored = ap (λ (n : ℕ). take n (set rs at nx.report) ++ tail) (add-one at)
              ∙ ap (λ (l : List Report). l ++ tail) (take-suc-set rs at nx.report h)
              ∙ append_assoc (take at rs) (nx.report ∷ []) tail
              ∙ ap (λ (r : Report). take at rs ++ (r ∷ tail)) is
              ∙ ap (λ (l : List Said). take at rs ++ map record_of l) (sym t.split)
              ∙ f.stored;
        }

    none_left : length rs ≤ at → map record_of (left xs ys s) ≡ []
    none_left h = go (left xs ys s) (omega (arith, f.room))
      where
        go : (l : List Said) → length l ≡ 0 → map record_of l ≡ []
        go [] z = refl
        go (a ∷ l) z = absurd (omega arith)

    pub fill_end : length rs ≤ at → rs ≡ map record_of (reports xs ys)
    fill_end h =
        sym (take_all at rs h) ∙ (sym (append-nil (take at rs)) ∙ ap (λ (l : List Report). take at rs ++ l) (sym (none_left h)) ∙ f.stored)

-- what a survey that is taken says of the lent records
pub record Told (a b : List ℕ) (lent : List Report) (n : ℕ) : Type 0 where
  pub room : n ≤ length lent
  pub counted_keys : length (reports (keys_of a) (keys_of b)) ≡ n
  pub filled : map record_of (reports (keys_of a) (keys_of b)) ++ drop n lent ≡ filled_of a b lent

module _ (a b : List ℕ) (lent : List Report) where
  pub told : (n : ℕ) → Ok n ≡ surveyed_of a b (length lent) → Told a b lent n
  told n e =
      let k : Counted a b (length lent) n = counted a b (length lent) n e in
      let t : Accepted a b (length lent) = accepted a b (length lent) k.number in
      let p = taken_keys a t.first_well in
      let q = taken_keys b t.second_well in
      record {
        room = omega (arith, k.count, count_within (key_body a) (key_body b), t.room, taken_count a t.first_well, taken_count b t.second_well);
        counted_keys = rw (p, q) (sym k.count);
        filled = rw (p, q, k.number, k.count);
      }

  pub untouched : (r : Refusal) → Err r ≡ surveyed_of a b (length lent) → lent ≡ filled_of a b lent
  untouched r e = go (survey_number a b (length lent)) (refuses a b (length lent) r e)
    where
      go : (n : ℕ) → 0 < n → lent ≡ filled_for n a b lent
      go zero h = absurd (omega arith)
      go (suc n) h = refl
