-- Each call's number goes by 01's table: given exactly when its row holds and none before it does.
use Prim.Native.Nat.{ℕ, suc, ◌<◌, ◌≤◌, ◌^◌}
use mathlib.Core.Path.{◌≡◌, refl, sym, ◌∙◌}
use mathlib.Core.Logic.{◌⊎◌, inl, inr}
use mathlib.Core.Bool.{Bool, true, false, not, ◌&&◌}
use mathlib.Core.List.{List, [], ◌∷◌}
use native.Mathlib.Omega.{arith}
use lib.Dec.{eqb, ltb, leb}
use borrow.Author.Tests.{ltb-true, leb-true, leb-false, eqb-true, eqb-false, eq-eqb, lt-ltb, not-true, not-false}
use lib.ListN.{length, take}
use lib.IntN.{ℤ, ◌+ℤ◌}
use lib.Signed.{mag}
use Rattle.chunk.specs.Entry.{change, before, every}
use Rattle.chunk.specs.Words.{entries, nt, well_formed, settled}
use Rattle.chunk.specs.Refusal.{first, refuse, malformed, unsettled, empty}
use Rattle.chunk.specs.Answer.{answer_number}
use Rattle.chunk.specs.Check.{checked_of, checked_as}
use Rattle.chunk.specs.Sums.{sum_fits}
use Rattle.sort.specs.Sort.{updates}
use Rattle.form.specs.Form.{falls, in_range, form_number, unsorted_number}
use Rattle.reports.specs.Merge.{Place, place_at, sound_at, overflows, merge_number, suffix_number}
use Rattle.reports.specs.Survey.{survey_number}
use Rattle.retain.specs.Frontier.{most, sound, ordered}
use Rattle.retain.specs.Cut.{filter_number}
use Rattle.split.specs.Cut.{split_number}
use Rattle.retain.specs.Extract.{extract_number}
use Rattle.meld.specs.Meld.{follows, meld_number}
use Rattle.whole.specs.Whole.{whole_number}
use Rattle.laws.proofs.OneChunk.{front_is_chunk}
use Rattle.laws.proofs.Tests.{by_test, and_left, and_right, and_both, true-not-false}
use Rattle.ledger.specs.Refusals.{row, GoesBy, not_settled, is_empty, bad_cursor, bad_frontier, nth, falling, out_of_range, not_past, overflowing, form_rows, unsorted_rows, merge_rows, later_rows, whole_rows, survey_rows, filter_rows, suffix_rows, split_rows, extract_rows, meld_rows, check_rows}
use Rattle.ledger.proofs.Ordered.{Decides, Decide, decide_append, goes_by}
use Rattle.ledger.proofs.Rows.{falls-there, no_fall, outside-there, none-outside, behind-there, none-behind, overflow_there, no_overflow}
use Rattle.ledger.proofs.Tests.{form_tests, form_first, unsorted_tests, unsorted_first, merge_tests, merge_first, survey_tests, survey_first, filter_tests, filter-first, suffix_tests, suffix_first, split_tests, split_first_lem, extract_tests, extract_first, meld_tests, meld_first}
use Rattle.ledger.proofs.Merging.{later_tests, whole_tests, whole_first}

-- ---- tests and their rows

both_ways : (b : Bool) → b ≡ true → b ≡ false → ⊥
both_ways b h k = true-not-false (sym h ∙ k)

-- a test that something is not so
negated : (n : ℕ) (b : Bool) → Decides (refuse n (not b)) (row n (b ≡ false))
negated n b = record { number = refl; yes_holds = λ h. not-true b h; no_holds = λ h k. both_ways b (not-false b h) k }

less : (n a b : ℕ) → Decides (refuse n (ltb a b)) (row n (a < b))
less n a b = record { number = refl; yes_holds = λ h. ltb-true a b h; no_holds = λ h k. both_ways (ltb a b) (lt-ltb a b k) h }

unequal : (n a b : ℕ) → Decides (refuse n (not (eqb a b))) (row n (a ≡ b → ⊥))
unequal n a b = record { number = refl; yes_holds = λ h. eqb-false a b (not-true _ h); no_holds = λ h k. k (eqb-true a b (not-false _ h)) }

unsettled-row : (w : List ℕ) → not (well_formed w) ≡ false → Decides (unsettled w) (not_settled w)
unsettled-row w f = record { number = refl; yes_holds = λ h. (not-false _ f, not-true _ h); no_holds = λ h k. both_ways (settled w) (not-false _ h) k.1 }

empty-row : (w : List ℕ) → Decides (empty w) (is_empty w)
empty-row w = record { number = refl; yes_holds = λ h. eqb-true (nt w) 0 h; no_holds = λ h k. eqb-false (nt w) 0 h k }

frontier_row : (count : ℕ) (corners : List ℕ) → Decides (refuse 9 (not (sound count corners))) (bad_frontier count corners)
unfolding sound
frontier_row count corners =
    record {
      number = refl;
      yes_holds = λ h. by_test (leb count most)
          (λ q. inr (simp q at (not-true (sound count corners) h)))
          (λ q. inl (leb-false count most q));
      no_holds = λ h k. against (not-false _ h) k;
    }
  where
    against : (leb count most && ordered (take count corners)) ≡ true → (most < count) ⊎ (ordered (take count corners) ≡ false) → ⊥
    against h (inl k) = let l : count ≤ most = leb-true count most (and_left (leb count most) (ordered (take count corners)) h) in omega arith
    against h (inr k) = both_ways (ordered (take count corners)) (and_right (leb count most) _ h) k

falls-row : (us : List ℕ) → Decides (refuse 3 (falls (updates us))) (falling us)
falls-row us =
    record {
      number = refl;
      yes_holds = falls-there (updates us);
      no_holds = λ h k. both_ways (before (nth (updates us) (suc k.i)) (nth (updates us) k.i)) k.falls (no_fall (updates us) h k.i k.there);
    }

range_row : (us : List ℕ) → Decides (refuse 4 (not (every in_range (updates us)))) (out_of_range us)
range_row us =
    record { number = refl; yes_holds = λ h. outside-there (updates us) (not-true _ h); no_holds = λ h k. none-outside (updates us) (not-false _ h) k }

past_row : (a b : List ℕ) → Decides (refuse 11 (not (follows (entries a) (entries b)))) (not_past a b)
past_row a b =
    record {
      number = refl;
      yes_holds = λ h. behind-there (entries a) (entries b) (not-true _ h);
      no_holds = λ h k. none-behind (entries a) (entries b) (not-false _ h) k;
    }

overflow_row : (a b : List ℕ) → Decides (refuse 14 (overflows (entries a) (entries b))) (overflowing a b)
overflow_row a b =
    record {
      number = refl;
      yes_holds = overflow_there (entries a) (entries b);
      no_holds = λ h k.
          let f : sum_fits (nth (entries a) k.i).diff (nth (entries b) k.j).diff ≡ true =
          no_overflow (entries a) (entries b) h k.i k.j k.there_first k.there_second k.shared in
          let z : ℤ = change (nth (entries a) k.i).diff +ℤ change (nth (entries b) k.j).diff in
          let l : mag z < 2 ^ 63 = ltb-true (mag z) (2 ^ 63) f in
          let g : 2 ^ 63 ≤ mag z = k.outside in
          omega arith;
    }

-- ---- the calls

pub form_refuses : (us out : List ℕ) → GoesBy (form_rows us out) (form_number us out)
unfolding every
form_refuses us out = rw form_first (goes_by (form_tests us out) (form_rows us out) refl
    (unequal 1 _ _, λ _. (less 2 _ _, λ _. (falls-row us, λ _. (range_row us, λ _. (less 13 _ _, λ _. tt))))))

pub unsorted_refuses : (us out : List ℕ) → GoesBy (unsorted_rows us out) (unsorted_number us out)
unfolding every
unsorted_refuses us out = rw unsorted_first (goes_by (unsorted_tests us out) (unsorted_rows us out) refl
    (unequal 1 _ _, λ _. (less 2 _ _, λ _. (range_row us, λ _. (less 13 _ _, λ _. tt)))))

merge_decides : (a b scratch out : List ℕ) → Decide (merge_tests a b scratch out) (merge_rows a b scratch out)
merge_decides a b scratch out = (
  negated 5 _,
  λ f. (
    unsettled-row a f,
    λ _. (
      empty-row a,
      λ _. (
        negated 5 _,
        λ g. (
          unsettled-row b g,
          λ _. (
            empty-row b,
            λ _.
                (less 2 _ _, λ _. (less 12 _ _, λ _. (less 13 _ _, λ _. (overflow_row a b, λ _. tt)))),
          ),
        ),
      ),
    ),
  ),
)

pub merge_refuses : (a b scratch out : List ℕ) → GoesBy (merge_rows a b scratch out) (merge_number a b scratch out)
unfolding every
merge_refuses a b scratch out = rw merge_first (goes_by (merge_tests a b scratch out) (merge_rows a b scratch out) refl (merge_decides a b scratch out))

-- past an accepted merge there is 13 alone: what it wrote is well formed, and its survivor's cursor is sound
pub whole_refuses : (a b scratch out clean rest : List ℕ) → GoesBy (whole_rows a b scratch out clean rest) (whole_number a b scratch out clean rest)
unfolding every
whole_refuses a b scratch out clean rest =
    let later : Decide (later_tests a b scratch out clean rest) (later_rows a b scratch out clean rest) = (less 13 _ _, λ _. (less 13 _ _, λ _. tt)) in
    rw whole_first (goes_by (whole_tests a b scratch out clean rest) (whole_rows a b scratch out clean rest) refl
    (decide_append (merge_tests a b scratch out) (later_tests a b scratch out clean rest) (merge_rows a b scratch out) (later_rows a b scratch out clean rest)
    (merge_decides a b scratch out) later))

pub survey_refuses : (a b : List ℕ) (lent : ℕ) → GoesBy (survey_rows a b lent) (survey_number a b lent)
unfolding every
survey_refuses a b lent = rw survey_first (goes_by (survey_tests a b lent) (survey_rows a b lent) refl
    (negated 5 _, λ f. (unsettled-row a f, λ _. (empty-row a, λ _. (negated 5 _, λ g. (unsettled-row b g, λ _. (empty-row b, λ _. (less 12 _ _, λ _. tt))))))))

pub filter_refuses : (w out : List ℕ) → GoesBy (filter_rows w out) (filter_number w out)
unfolding every
filter_refuses w out = rw filter-first (goes_by (filter_tests w out) (filter_rows w out) refl (negated 5 _, λ _. (less 13 _ _, λ _. tt)))

pub split_refuses : (w one two : List ℕ) → GoesBy (split_rows w one two) (split_number w one two)
unfolding every
split_refuses w one two = rw split_first_lem (goes_by (split_tests w one two) (split_rows w one two) refl
    (negated 5 _, λ f. (unsettled-row w f, λ _. (less 13 _ _, λ _. (less 13 _ _, λ _. tt)))))

pub extract_refuses : (count : ℕ) (corners w kept shipped : List ℕ) → GoesBy (extract_rows count corners w kept shipped) (extract_number count corners w kept shipped)
unfolding every
extract_refuses count corners w kept shipped = rw extract_first (goes_by (extract_tests count corners w kept shipped) (extract_rows count corners w kept shipped) refl
    (frontier_row count corners, λ _. (negated 5 _, λ f. (unsettled-row w f, λ _. (less 13 _ _, λ _. (less 13 _ _, λ _. (less 10 _ _, λ _. tt)))))))

pub meld_refuses : (a b out : List ℕ) → GoesBy (meld_rows a b out) (meld_number a b out)
unfolding every
meld_refuses a b out = rw meld_first (goes_by (meld_tests a b out) (meld_rows a b out) refl
    (negated 5 _, λ f. (unsettled-row a f, λ _. (negated 5 _, λ g. (unsettled-row b g, λ _. (less 2 _ _, λ _. (past_row a b, λ _. (less 13 _ _, λ _. tt))))))))

pub check_refuses : (w : List ℕ) → GoesBy (check_rows w) (answer_number (checked_of w))
unfolding every first checked_of
check_refuses w = rw (checked_number w) (goes_by (malformed w ∷ []) (check_rows w) refl (negated 5 _, λ _. tt))
  where
    checked_number : (w : List ℕ) → answer_number (checked_as (well_formed w) w) ≡ first (malformed w ∷ [])
    checked_number w = by_test (well_formed w) (λ h. simp h) (λ h. simp h)

-- nt is the number of entries of a well formed chunk
cursor_row : (p : Place) (w : List ℕ) → not (well_formed w) ≡ false → Decides (refuse 8 (not (sound_at (entries w) p))) (bad_cursor p w)
unfolding sound_at
cursor_row p w f =
    let e : length (entries w) ≡ nt w = (front_is_chunk w (not-false _ f)).counted in
    let at : Place = place_at (entries w) p.t in
    record {
      number = refl;
      yes_holds = λ h k. both_ways (sound_at (entries w) p)
          (and_both _ _ (lt-ltb p.t (length (entries w)) (omega (arith, k.below))) (and_both _ _ (eq-eqb _ _ k.val) (eq-eqb _ _ k.key)))
          (not-true _ h);
      no_holds = λ h k.
          let s : sound_at (entries w) p ≡ true = not-false _ h in
          let r : (eqb p.v at.v && eqb p.k at.k) ≡ true = and_right (ltb p.t (length (entries w))) _ s in
          k (record {
            below = omega (arith, ltb-true p.t (length (entries w)) (and_left _ _ s));
            val = eqb-true _ _ (and_left (eqb p.v at.v) (eqb p.k at.k) r);
            key = eqb-true _ _ (and_right (eqb p.v at.v) _ r);
          });
    }

pub suffix_refuses : (p : Place) (w out : List ℕ) → GoesBy (suffix_rows p w out) (suffix_number p w out)
unfolding every
suffix_refuses p w out = rw suffix_first (goes_by (suffix_tests p w out) (suffix_rows p w out) refl
    (negated 5 _, λ f. (unsettled-row w f, λ _. (empty-row w, λ _. (cursor_row p w f, λ _. (less 13 _ _, λ _. tt))))))
