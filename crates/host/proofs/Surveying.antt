-- A survey in words: the reports one after another, three words each, are all of them at the front of what was lent.
use Prim.Native.Nat.{ℕ, zero, suc, ◌+◌, ◌*◌, ◌/◌, ◌≤◌, ◌<◌}
use mathlib.Core.Path.{◌≡◌, refl, sym, ◌∙◌, ap}
use mathlib.Core.List.{List, [], ◌∷◌, ◌++◌}
use native.Mathlib.Omega.{arith}
use lib.ListN.{length, take, drop, set, length-append, length-take, length-drop, take-append-drop}
use lib.Dec.{ltb}
use Rattle.std.specs.Prelude.{Some, IsSome, Ok, Err}
use Rattle.chunk.specs.declared.Refusal.{Refusal}
use Rattle.chunk.specs.Answer.{number_of, answer_number}
use Rattle.chunk.proofs.Refusals.{number_above}
use borrow.Author.Tests.{ltb-true, ltb-false, lt-ltb, le-ltb}
use Rattle.laws.proofs.Tests.{by_test}
use Rattle.chunk.specs.Words.{over, key_body}
use Rattle.reports.specs.Survey.{this, that, both, reports, survey_number}
use Rattle.reports.specs.Survey.{Report as Said}
use Rattle.survey.specs.declared.Report.{Report}
use Rattle.survey.specs.declared.Spot.{Spot}
use Rattle.survey.specs.declared.Next.{Next}
use Rattle.survey.specs.Reports.{record_of, next_in, keys_of, surveyed_of}
use Rattle.survey.proofs.Nexts.{Turn, turn, left, outset, some_next, count_within}
use Rattle.survey.proofs.Nexts.{whole as pair_whole}
use Rattle.survey.proofs.Plans.{taken_keys, taken_count, Accepted, accepted, Counted, counted, numbered}
use Rattle.host.specs.Answers.{laid_by, Answers}
use Rattle.host.specs.Listing.{RoomInWords, report_words, reports_of, list_number, SurveyAnswers}
use Rattle.host.proofs.Laid.{stored1, kept_by, answers_refused, answers_laid}

-- a report's words, and those of the reports behind it
report-cons : (s : Said) (rs : List Said) → report_words (s ∷ rs) ≡ (record_of s).kind ∷ (record_of s).low ∷ (record_of s).high ∷ report_words rs
unfolding report_words
report-cons (this l h) rs = refl
report-cons (that l h) rs = refl
report-cons (both i j) rs = refl

-- three words written behind the first n, and what is still to be written behind those
three_more : (n m : ℕ) (out : List ℕ) (x y z : ℕ) (ws : List ℕ) → m ≡ n + 3 → m ≤ length out
    → take n out ++ over (x ∷ y ∷ z ∷ ws) (drop n out) ≡ take m (take n out ++ (x ∷ y ∷ z ∷ drop m out)) ++ over ws (drop m (take n out ++ (x ∷ y ∷ z ∷ drop m out)))
three_more zero m (a ∷ b ∷ c ∷ out) x y z ws e h = let q : m ≡ 3 = omega arith in rw q
three_more zero m [] x y z ws e h = absurd (omega arith)
three_more zero m (a ∷ []) x y z ws e h = absurd (omega arith)
three_more zero m (a ∷ b ∷ []) x y z ws e h = absurd (omega arith)
three_more (suc n) m [] x y z ws e h = absurd (omega arith)
three_more (suc n) zero (a ∷ out) x y z ws e h = absurd (omega arith)
three_more (suc n) (suc m) (a ∷ out) x y z ws e h = ap (λ (l : List ℕ). a ∷ l) (three_more n m out x y z ws (omega arith) (omega arith))

none : {A : Type 0} (l : List A) → length l ≡ 0 → l ≡ []
none [] h = refl
none (x ∷ l) h = absurd (omega arith)

-- before turn `at`: where both inputs stand, and that the whole is what is written with what is left
pub record Filling (xs ys : List ℕ) (count : ℕ) (out₀ : List ℕ) (s : Spot) (at : ℕ) (out : List ℕ) : Type 0 where
  pub in_i : s.i ≤ length xs
  pub in_j : s.j ≤ length ys
  pub counted : at + length (left xs ys s) ≡ count
  pub room : 3 * count ≤ length out
  pub same : length out ≡ length out₀
  pub whole : over (report_words (reports xs ys)) out₀ ≡ take (3 * at) out ++ over (report_words (left xs ys s)) (drop (3 * at) out)

module _ (xs ys : List ℕ) (count : ℕ) (out₀ : List ℕ) where
  pub fill_start : count ≡ length (reports xs ys) → 3 * count ≤ length out₀ → Filling xs ys count out₀ outset 0 out₀
  fill_start e h =
      record {
        in_i = omega arith;
        in_j = omega arith;
        counted = omega (arith, ap length (pair_whole xs ys));
        room = h;
        same = refl;
        whole = ap (λ (l : List Said). over (report_words l) out₀) (sym (pair_whole xs ys));
      }

  module _ (s : Spot) (at : ℕ) (out : List ℕ) (f : Filling xs ys count out₀ s at out) where
    pub fill_next : at < count → IsSome (next_in xs ys s.i s.j)
    fill_next h = some_next xs ys s f.in_i f.in_j (omega (arith, f.counted))

    pub fill_end : count ≤ at → out ≡ over (report_words (reports xs ys)) out₀
    unfolding report_words
    fill_end h =
        let z : left xs ys s ≡ [] = none (left xs ys s) (omega (arith, f.counted)) in
        sym (f.whole ∙ ap (λ (l : List Said). take (3 * at) out ++ over (report_words l) (drop (3 * at) out)) z ∙ take-append-drop (3 * at) out)

    pub fill_more : (nx : Next) → Some nx ≡ next_in xs ys s.i s.j → at < count → (out' : List ℕ)
        → out' ≡ take (3 * at) out ++ (nx.report.kind ∷ nx.report.low ∷ nx.report.high ∷ drop (3 * at + 3) out)
        → Filling xs ys count out₀ nx.spot (at + 1) out'
    fill_more nx e h out' p =
        let t : Turn xs ys s nx = turn xs ys s f.in_i f.in_j nx e in
        let said : Report = nx.report in
        let rest : List ℕ = report_words (left xs ys nx.spot) in
        let P : List ℕ = take (3 * at) out ++ (said.kind ∷ said.low ∷ said.high ∷ drop (3 * at + 3) out) in
        let words : report_words (left xs ys s) ≡ said.kind ∷ said.low ∷ said.high ∷ rest =
        ap report_words t.split ∙ report-cons t.said (left xs ys nx.spot)
        ∙ ap (λ (r : Report). r.kind ∷ r.low ∷ r.high ∷ rest) (sym (ap (λ (x : Next). x.report) t.is)) in
        let long : length P ≡ length out =
        simp (length-append, length-take, length-drop) (omega (arith, f.room, f.counted, ap length t.split)) in
        let q : 3 * (at + 1) ≡ 3 * at + 3 = omega arith in
        rw p
        (record {
          in_i = t.in_i;
          in_j = t.in_j;
          counted = omega (arith, f.counted, ap length t.split);
          room = omega (arith, f.room);
          same = omega (arith, f.same);
          whole = f.whole ∙ ap (λ (ws : List ℕ). take (3 * at) out ++ over ws (drop (3 * at) out)) words
              ∙ three_more (3 * at) (3 * at + 3) out said.kind said.low said.high rest refl (omega (arith, f.room))
              ∙ ap (λ (n : ℕ). take n P ++ over rest (drop n P)) (sym q);
        })

-- ---- all of a survey
pub room_in_words : RoomInWords
room_in_words words n =
    by_test (ltb words (3 * n))
    (λ t. lt-ltb (words / 3) n (omega (arith, ltb-true words (3 * n) t)) ∙ sym t)
    (λ t. le-ltb (words / 3) n (omega (arith, ltb-false words (3 * n) t)) ∙ sym t)

third : (l : ℕ) → 3 * (l / 3) ≤ l
third l = omega arith

module _ (a b lent answer : List ℕ) where
  -- the two slices as one number says
  said_by : (r : ℕ) (lent_after answer_after : List ℕ) → Answers (list_number a b lent answer) (laid_by (list_number a b lent answer) (length (reports_of a b) ∷ []) answer) r answer_after
      → lent_after ≡ laid_by r (report_words (reports_of a b)) lent → SurveyAnswers a b lent answer r lent_after answer_after
  said_by r lent_after answer_after p q =
      record { returned = p.returned; listed = q ∙ ap (λ (m : ℕ). laid_by m (report_words (reports_of a b)) lent) p.returned; counted = p.laid }

  module _ (k : 1 ≤ length answer) where
    pub survey_refused : (e : Refusal) → Err e ≡ surveyed_of a b (length lent / 3) → SurveyAnswers a b lent answer (number_of e) lent answer
    survey_refused e q =
        let bad : number_of e ≡ 0 → ⊥ = λ z. omega (arith, z, number_above e) in
        said_by (number_of e) lent answer
        (answers_refused 1 (survey_number a b (length lent / 3)) (length (reports_of a b) ∷ []) answer k (number_of e) (ap answer_number q ∙ numbered a b (length lent / 3)) bad)
        (kept_by (number_of e) (report_words (reports_of a b)) lent bad)

    module _ (n : ℕ) (e : Ok n ≡ surveyed_of a b (length lent / 3)) where
      said : Counted a b (length lent / 3) n
      said = counted a b (length lent / 3) n e

      all : Accepted a b (length lent / 3)
      all = accepted a b (length lent / 3) said.number

      keys_are : reports (keys_of a) (keys_of b) ≡ reports_of a b
      keys_are = ap (λ (l : List ℕ). reports l (keys_of b)) (taken_keys a all.first_well) ∙ ap (λ (l : List ℕ). reports (key_body a) l) (taken_keys b all.second_well)

      -- what writing them asks
      pub reports_ready : (n ≡ length (reports (keys_of a) (keys_of b))) × (3 * n ≤ length lent)
      reports_ready = (
        said.count ∙ ap length (sym keys_are),
        omega (arith, third (length lent), said.count, count_within (key_body a) (key_body b), all.room, taken_count a all.first_well, taken_count b all.second_well),
      )

      pub survey_laid : (lent_after : List ℕ) → lent_after ≡ over (report_words (reports (keys_of a) (keys_of b))) lent
          → SurveyAnswers a b lent answer 0 lent_after (set answer 0 n)
      survey_laid lent_after q =
          said_by 0 lent_after (set answer 0 n)
          (answers_laid 1 (survey_number a b (length lent / 3)) (length (reports_of a b) ∷ []) answer k (set answer 0 n) (sym said.number)
          (stored1 answer n k ∙ ap (λ (m : ℕ). over (m ∷ []) answer) said.count))
          (q ∙ ap (λ (l : List Said). over (report_words l) lent) keys_are)
