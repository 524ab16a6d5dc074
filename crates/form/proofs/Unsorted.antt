-- What `form_unsorted` answers, from the tests on the way: the refusals in their order, and the chunk of the sorted updates.
use Rattle.std.proofs.Common.{◌≡◌, ℕ, zero, suc, ◌/◌, ◌<◌, ◌≤◌, true, false, not, List, [], ◌∷◌, ◌++◌, length, sym, refl, ap, ◌∙◌, arith, eq-eqb}
use Rattle.chunk.specs.declared.Refusal.{Refusal}
use Rattle.chunk.specs.declared.Refusal.TheVariants.{OutOfRange, OutputShort}
use Rattle.chunk.specs.Answer.{number_of}
use Rattle.chunk.specs.Words.{over}
use Rattle.chunk.specs.Entry.{Entry, every}
use Rattle.chunk.specs.Bodies.{chunk_of}
use Rattle.chunk.specs.Refusal.{Test, first, refuse, written}
use Rattle.chunk.proofs.Refusals.{number_above, refused_by}
use Rattle.sort.specs.Sort.{updates, words_of, sort, sorted_words}
use Rattle.sort.proofs.Updates.{count_whole}
use Rattle.form.specs.Form.{formed, in_range, room, kept, unsorted_number, unsorted_out, unsorted_updates, UnsortedAnswers}
use Rattle.form.specs.Pass.{count_number, survey_number, Accepts}
use Rattle.form.proofs.Sorted.{sort_unfallen, sort-every, sort-length, updates_words}
use Rattle.form.proofs.Whole.{count_tests, room_tests, room_short, room_enough, first_on, four_each, count_few}

-- the test of the updates in any order
abbrev range_tests : List Entry → List Test
range_tests es = refuse 4 (not (every in_range es)) ∷ []

module _ (us out : List ℕ) where
  -- a refusal leaves the updates and the output
  left : (n : ℕ) → 0 < n → out ≡ written n (formed (sort (updates us))) out
  unfolding written
  left zero h = absurd (omega arith)
  left (suc n) h = refl

  stays : (n : ℕ) → 0 < n → us ≡ kept n (words_of (sort (updates us))) us
  stays zero h = absurd (omega arith)
  stays (suc n) h = refl

  refused : (e : Refusal) → number_of e ≡ unsorted_number us out → UnsortedAnswers us out (number_of e) us out
  unfolding unsorted_out unsorted_updates
  refused e h =
      record {
        number = h;
        kept = rw (sym h) (stays (number_of e) (number_above e));
        written = rw (sym h) (left (number_of e) (number_above e));
      }

  pub unsorted_count : (e : Refusal) → number_of e ≡ count_number (length us) → UnsortedAnswers us out (number_of e) us out
  unfolding unsorted_number count_number
  unsorted_count e h = refused e (refused_by e (count_tests (length us)) (range_tests (updates us) ++ room_tests us out) h)

  module _ (counts : count_number (length us) ≡ 0) where
    -- what the count of words passes, the range and the room decide
    then : unsorted_number us out ≡ first (range_tests (updates us) ++ room_tests us out)
    unfolding unsorted_number count_number every
    then = first_on (count_tests (length us)) (range_tests (updates us) ++ room_tests us out) refl counts

    pub unsorted_4 : every in_range (updates us) ≡ false → UnsortedAnswers us out 4 us out
    unfolding first
    unsorted_4 h = refused OutOfRange (sym (then ∙ rw h))

    -- the words that are sorted
    pub sorted_words_lem : sorted_words us ≡ words_of (sort (updates us))
    unfolding sorted_words
    sorted_words_lem = simp (eq-eqb _ _ (four_each (length us) counts))

    -- the updates that they are
    pub sorted_updates : (vs : List ℕ) → vs ≡ sorted_words us → updates vs ≡ sort (updates us)
    sorted_updates vs h = ap (λ (w : List ℕ). updates w) (h ∙ sorted_words_lem) ∙ updates_words (sort (updates us))

    module _ (inside : every in_range (updates us) ≡ true) where
      then_room : unsorted_number us out ≡ first (room_tests us out)
      unfolding first
      then_room = then ∙ rw inside

      pub unsorted_13 : length out < room us → UnsortedAnswers us out 13 us out
      unsorted_13 h = refused OutputShort (room_short us out h ∙ sym then_room)

      -- the first pass over the sorted updates refuses nothing
      pub sorted_passes : (vs : List ℕ) → vs ≡ sorted_words us → survey_number (updates vs) ≡ 0
      unfolding survey_number first
      sorted_passes vs h =
          ap (λ (es : List Entry). survey_number es) (sorted_updates vs h)
          ∙ rw (sort_unfallen (updates us), sort-every in_range (updates us) ∙ inside)

      module _ (enough : room us ≤ length out) where
        pub sorted_accepts : (vs : List ℕ) → vs ≡ sorted_words us → Accepts (updates vs) out
        sorted_accepts vs h =
            let n : length (updates vs) ≡ length us / 4 = ap (λ (es : List Entry). length es) (sorted_updates vs h) ∙ sort-length (updates us) ∙ sym (count_whole us) in
            record { few = omega (arith, count_few (length us) counts); room = omega arith }

        pub unsorted_0 : (vs after : List ℕ) → vs ≡ sorted_words us → after ≡ over (chunk_of (formed (updates vs))) out → UnsortedAnswers us out 0 vs after
        unfolding unsorted_out unsorted_updates written
        unsorted_0 vs after h q =
            let z : 0 ≡ unsorted_number us out = room_enough us out enough ∙ sym then_room in
            record {
              number = z;
              kept = h ∙ sorted_words_lem ∙ ap (λ (m : ℕ). kept m (words_of (sort (updates us))) us) z;
              written =
                  q
                  ∙ ap (λ (es : List Entry). over (chunk_of (formed es)) out) (sorted_updates vs h)
                  ∙ ap (λ (m : ℕ). written m (formed (sort (updates us))) out) z;
            }
