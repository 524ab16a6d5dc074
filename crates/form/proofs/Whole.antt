-- What the calls answer, from the tests on the way: the refusals in their order, and the chunk.
use Rattle.std.proofs.Common.{◌≡◌, ℕ, zero, suc, ◌/◌, ◌%◌, ◌<◌, ◌≤◌, Bool, true, false, not, eqb, ltb, List, [], ◌∷◌, ◌++◌, length, sym, refl, ap, ◌∙◌, arith, ltb-false, le-ltb, lt-ltb, eq-eqb, eqb-true, le-leb}
use lib.ListN.{length-map}
use Rattle.chunk.specs.declared.Refusal.{Refusal}
use Rattle.chunk.specs.declared.Refusal.TheVariants.{OutputShort}
use Rattle.chunk.specs.Answer.{number_of}
use Rattle.chunk.specs.Contents.{layout_of, table_of, with_table}
use Rattle.chunk.specs.Words.{over, limit}
use Rattle.chunk.specs.Entry.{Entry, same_list, every}
use Rattle.chunk.specs.Bodies.{lasts_of, same_key, chunk_of}
use Rattle.chunk.specs.Refusal.{Test, first, refuse, written}
use Rattle.chunk.proofs.Refusals.{number_above, refused_by}
use Rattle.sort.specs.Sort.{updates}
use Rattle.laws.proofs.Tests.{by_test, and_left, and_right, true-not-false}
use Rattle.form.specs.Form.{formed, falls, in_range, room, form_number, form_out, FormAnswers}
use Rattle.form.specs.Pass.{final_counts, count_number, survey_number, Accepts}
use Rattle.form.proofs.Formed.{formed-length}
use Rattle.form.proofs.Chunk.{count-keys, count-vals, count-times}

-- ---- the counts of what is formed are within the updates

lasts_length : (alike : Entry → Entry → Bool) (es : List Entry) → length (lasts_of alike es) ≤ length es
unfolding lasts_of
lasts_length alike [] = omega arith
lasts_length alike (a ∷ []) = omega arith
lasts_length alike (a ∷ b ∷ es) =
    by_test (alike a b)
    (λ (s : alike a b ≡ true). rw s (omega (arith, lasts_length alike (b ∷ es))))
    (λ (s : alike a b ≡ false). rw s (omega (arith, lasts_length alike (b ∷ es))))

module _ (es : List Entry) where
  pub final_times : (final_counts es).nt ≤ length es
  final_times = omega (arith, count-times (formed es), length-map (formed es) (λ (e : Entry). e.time), formed-length es)

  pub final_keys : (final_counts es).nk ≤ length es
  final_keys =
      omega (arith, count-keys (formed es), length-map (lasts_of same_key (formed es)) (λ (e : Entry). e.key), lasts_length same_key (formed es), formed-length es)

  pub final_vals : (final_counts es).nv ≤ length es
  final_vals =
      omega (arith, count-vals (formed es), length-map (lasts_of same_list (formed es)) (λ (e : Entry). e.val), lasts_length same_list (formed es), formed-length es)

  pub size_fits : (out : List ℕ) → Accepts es out → (layout_of (final_counts es).nk (final_counts es).nv (final_counts es).nt (final_counts es).nt).size ≤ length out
  size_fits out h = omega (arith, h.room, final_keys, final_vals, final_times)

pub tabled : (k v t d : ℕ) (out : List ℕ) → 4 ≤ length out → with_table k v t d out ≡ over (table_of k v t d) out
unfolding with_table
tabled k v t d out h = simp (le-leb 4 (length out) h)

-- ---- tests in order

-- tests none of which has the number 0
abbrev numbered : List Test → Bool
numbered ts = every (λ (t : Test). not (eqb t.number 0)) ts

-- where they all pass, those after them decide
pub first_on : (ts us : List Test) → numbered ts ≡ true → first ts ≡ 0 → first (ts ++ us) ≡ first us
unfolding first every
first_on [] us n h = refl
first_on (t ∷ ts) us n h =
    by_test t.fails
    (λ (f : t.fails ≡ true).
    let z : t.number ≡ 0 = rw f at h in
    let q : true ≡ false = rw (eq-eqb t.number 0 z) at (sym (and_left (not (eqb t.number 0)) _ n)) in
    absurd (true-not-false q))
    (λ (f : t.fails ≡ false). rw f (first_on ts us (and_right (not (eqb t.number 0)) _ n) (rw f at h)))

-- the tests of the count of words, of the updates, and of the room
abbrev pub count_tests : ℕ → List Test
count_tests n = refuse 1 (not (eqb (n % 4) 0)) ∷ refuse 2 (ltb limit (n / 4)) ∷ []

abbrev pub survey_tests : List Entry → List Test
survey_tests es = refuse 3 (falls es) ∷ refuse 4 (not (every in_range es)) ∷ []

abbrev pub room_tests : List ℕ → List ℕ → List Test
room_tests us out = refuse 13 (ltb (length out) (room us)) ∷ []

pub room_short : (us out : List ℕ) → length out < room us → 13 ≡ first (room_tests us out)
unfolding first
room_short us out h = simp (lt-ltb _ _ h)

pub room_enough : (us out : List ℕ) → room us ≤ length out → 0 ≡ first (room_tests us out)
unfolding first
room_enough us out h = simp (le-ltb (length out) (room us) h)

module _ (n : ℕ) (h : count_number n ≡ 0) where
  pub four_each : n % 4 ≡ 0
  unfolding count_number first
  four_each =
      by_test (eqb (n % 4) 0)
      (λ (f : eqb (n % 4) 0 ≡ true). eqb-true _ _ f)
      (λ (f : eqb (n % 4) 0 ≡ false). let q : ◌≡◌ {A = ℕ} 1 0 = rw f at h in absurd (omega arith))

  pub count_few : n / 4 ≤ limit
  unfolding count_number first
  count_few =
      by_test (ltb limit (n / 4))
      (λ (f : ltb limit (n / 4) ≡ true). let q : ◌≡◌ {A = ℕ} 2 0 = rw (eq-eqb _ _ four_each, f) at h in absurd (omega arith))
      (λ (f : ltb limit (n / 4) ≡ false). ltb-false _ _ f)

-- ---- the sorted call

module _ (us out : List ℕ) where
  -- a refusal leaves the output
  left : (n : ℕ) → 0 < n → out ≡ written n (formed (updates us)) out
  unfolding written
  left zero h = absurd (omega arith)
  left (suc n) h = refl

  refused : (e : Refusal) → number_of e ≡ form_number us out → FormAnswers us out (number_of e) out
  unfolding form_out
  refused e h = record { number = h; written = rw (sym h) (left (number_of e) (number_above e)) }

  pub form_count : (e : Refusal) → number_of e ≡ count_number (length us) → FormAnswers us out (number_of e) out
  unfolding form_number count_number
  form_count e h = refused e (refused_by e (count_tests (length us)) (survey_tests (updates us) ++ room_tests us out) h)

  module _ (counts : count_number (length us) ≡ 0) where
    -- what the count of words passes, the updates and the room decide
    then : form_number us out ≡ first (survey_tests (updates us) ++ room_tests us out)
    unfolding form_number count_number every
    then = first_on (count_tests (length us)) (survey_tests (updates us) ++ room_tests us out) refl counts

    pub form_survey : (e : Refusal) → number_of e ≡ survey_number (updates us) → FormAnswers us out (number_of e) out
    unfolding survey_number
    form_survey e h = refused e (refused_by e (survey_tests (updates us)) (room_tests us out) h ∙ sym then)

    module _ (passed : survey_number (updates us) ≡ 0) where
      then_room : form_number us out ≡ first (room_tests us out)
      unfolding survey_number every
      then_room = then ∙ first_on (survey_tests (updates us)) (room_tests us out) refl passed

      pub form_13 : length out < room us → FormAnswers us out 13 out
      form_13 h = refused OutputShort (room_short us out h ∙ sym then_room)

      pub form_0 : (after : List ℕ) → room us ≤ length out → after ≡ over (chunk_of (formed (updates us))) out → FormAnswers us out 0 after
      unfolding form_out written
      form_0 after h q =
          let z : 0 ≡ form_number us out = room_enough us out h ∙ sym then_room in
          record { number = z; written = q ∙ ap (λ (m : ℕ). written m (formed (updates us)) out) z }
