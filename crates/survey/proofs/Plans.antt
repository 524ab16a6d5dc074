-- What a survey answers, by what its two inputs are.
use Prim.Native.Nat.{ℕ, zero, suc, ◌+◌, ◌≤◌, ◌<◌}
use mathlib.Core.Path.{◌≡◌, refl, sym, ◌∙◌, ap}
use mathlib.Core.Bool.{Bool, true, false, not}
use mathlib.Core.List.{List, [], ◌∷◌}
use native.Mathlib.Omega.{arith}
use lib.ListN.{length}
use lib.Dec.{ltb, eqb}
use borrow.Author.Tests.{lt-ltb, le-ltb, ltb-false, ne_eqb}
use Rattle.std.specs.Prelude.{Result, Ok, Err}
use Rattle.laws.proofs.Tests.{and_left}
use Rattle.chunk.specs.declared.Refusal.{Refusal}
use Rattle.chunk.specs.declared.Refusal.TheVariants.{Ragged, TooMany, Falls, OutOfRange, Malformed, Unsettled, Empty, BadCursor, BadFrontier, TooManyCorners, Overlaps, ScratchShort, OutputShort, Overflows}
use Rattle.chunk.specs.Answer.{number_of, answer_number}
use Rattle.chunk.specs.Words.{nk, nt, table_fits, well_formed, settled, key_body}
use Rattle.chunk.specs.Refusal.{Test, first, refuse, malformed, unsettled, empty}
use Rattle.chunk.proofs.Refusals.{number_above, refused_by}
use Rattle.chunk.proofs.Placed.{placed, length_keys}
use Rattle.chunk.specs.Contents.{contents_in}
use Rattle.reports.specs.Survey.{reports, survey_number}
use Rattle.survey.specs.Reports.{keys_of, refusal_of, surveyed_by, surveyed_of}

-- a refusal is that of its number
pub refusal_is : (r : Refusal) → refusal_of (number_of r) ≡ r
unfolding refusal_of
refusal_is Ragged = refl
refusal_is TooMany = refl
refusal_is Falls = refl
refusal_is OutOfRange = refl
refusal_is Malformed = refl
refusal_is Unsettled = refl
refusal_is Empty = refl
refusal_is BadCursor = refl
refusal_is BadFrontier = refl
refusal_is TooManyCorners = refl
refusal_is Overlaps = refl
refusal_is ScratchShort = refl
refusal_is OutputShort = refl
refusal_is Overflows = refl

-- an input that is well formed has its keys, as many as its table says
module _ (w : List ℕ) (h : well_formed w ≡ true) where
  fits : table_fits w ≡ true
  unfolding well_formed
  fits = and_left (table_fits w) _ h

  pub taken_keys : keys_of w ≡ key_body w
  taken_keys = rw fits

  pub taken_count : length (key_body w) ≡ nk w
  taken_count = length_keys (contents_in w) w (placed w fits)

-- an input that a survey takes
pub record Taken (w : List ℕ) : Type 0 where
  pub well : well_formed w ≡ true
  pub is_settled : settled w ≡ true
  pub filled : 0 < nt w

-- the answer of a refusal
refused : (a b : List ℕ) (r : Refusal) (n : ℕ) → number_of r ≡ n → ◌≡◌ {A = Result ℕ Refusal} (Err r) (surveyed_by n a b)
refused a b r zero e = absurd (omega (arith, number_above r))
refused a b r (suc n) e = ap (λ (x : Refusal). Err x) (sym (refusal_is r) ∙ ap refusal_of e)

module _ (a b : List ℕ) (lent : ℕ) where
  -- the tests from the second input's on, and those of the room
  abbrev room_tests : List Test
  room_tests = refuse 12 (ltb lent (nk a + nk b)) ∷ []

  abbrev second_tests : List Test
  second_tests = malformed b ∷ unsettled b ∷ empty b ∷ room_tests

  pub plan_first : (r : Refusal) → number_of r ≡ first (malformed a ∷ unsettled a ∷ empty a ∷ []) → ◌≡◌ {A = Result ℕ Refusal} (Err r) (surveyed_of a b lent)
  unfolding survey_number
  plan_first r e = refused a b r _ (refused_by r (malformed a ∷ unsettled a ∷ empty a ∷ []) second_tests e)

  module _ (ha : Taken a) where
    past_first : survey_number a b lent ≡ first second_tests
    unfolding survey_number first
    past_first = rw (ha.well, ha.is_settled, ne_eqb (nt a) 0 (λ z. omega (arith, z, ha.filled)))

    pub plan_second : (r : Refusal) → number_of r ≡ first (malformed b ∷ unsettled b ∷ empty b ∷ []) → ◌≡◌ {A = Result ℕ Refusal} (Err r) (surveyed_of a b lent)
    plan_second r e = refused a b r _ (refused_by r (malformed b ∷ unsettled b ∷ empty b ∷ []) room_tests e ∙ sym past_first)

    module _ (hb : Taken b) where
      past_both : survey_number a b lent ≡ first room_tests
      unfolding first
      past_both = past_first ∙ rw (hb.well, hb.is_settled, ne_eqb (nt b) 0 (λ z. omega (arith, z, hb.filled)))

      pub plan_short : lent < nk a + nk b → ◌≡◌ {A = Result ℕ Refusal} (Err ScratchShort) (surveyed_of a b lent)
      unfolding first
      plan_short h = refused a b ScratchShort _ (sym (past_both ∙ rw (lt-ltb lent (nk a + nk b) h)))

      pub plan_room : nk a + nk b ≤ lent → ◌≡◌ {A = Result ℕ Refusal} (Ok (length (reports (key_body a) (key_body b)))) (surveyed_of a b lent)
      unfolding first
      plan_room h =
          let e : survey_number a b lent ≡ 0 = past_both ∙ rw (le-ltb lent (nk a + nk b) h) in
          ap (λ (n : ℕ). surveyed_by n a b) (sym e)

-- a survey that is accepted: both inputs are well formed, and there is room
pub record Accepted (a b : List ℕ) (lent : ℕ) : Type 0 where
  pub first_well : well_formed a ≡ true
  pub second_well : well_formed b ≡ true
  pub room : nk a + nk b ≤ lent

-- a test that passes leaves it to those that follow
passed : (n : ℕ) (b : Bool) (ts : List Test) → first (refuse (suc n) b ∷ ts) ≡ 0 → (b ≡ false) × (first ts ≡ 0)
unfolding first
passed n true ts h = absurd (omega arith)
passed n false ts h = (refl, h)

not_no : (b : Bool) → not b ≡ false → b ≡ true
not_no true h = refl
not_no false h = sym h

pub accepted : (a b : List ℕ) (lent : ℕ) → survey_number a b lent ≡ 0 → Accepted a b lent
unfolding survey_number
accepted a b lent e =
    let u : List Test = second_tests a b lent in
    let v : List Test = room_tests a b lent in
    let a5 = passed 4 (not (well_formed a)) (unsettled a ∷ empty a ∷ u) e in
    let a6 = passed 5 (not (settled a)) (empty a ∷ u) a5.1 in
    let a7 = passed 6 (eqb (nt a) 0) u a6.1 in
    let b5 = passed 4 (not (well_formed b)) (unsettled b ∷ empty b ∷ v) a7.1 in
    let b6 = passed 5 (not (settled b)) (empty b ∷ v) b5.1 in
    let b7 = passed 6 (eqb (nt b) 0) v b6.1 in
    let r = passed 11 (ltb lent (nk a + nk b)) [] b7.1 in
    record { first_well = not_no (well_formed a) a5.0; second_well = not_no (well_formed b) b5.0; room = ltb-false lent (nk a + nk b) r.0 }

-- what a survey's answer says: the reports' number, and that it is accepted; or its number
pub record Counted (a b : List ℕ) (lent n : ℕ) : Type 0 where
  pub number : survey_number a b lent ≡ 0
  pub count : n ≡ length (reports (key_body a) (key_body b))

pub counted : (a b : List ℕ) (lent n : ℕ) → Ok n ≡ surveyed_of a b lent → Counted a b lent n
counted a b lent n e = go (survey_number a b lent) refl e
  where
    go : (k : ℕ) → survey_number a b lent ≡ k → Ok n ≡ surveyed_by k a b → Counted a b lent n
    go zero z h = record { number = z; count = cc }
    go (suc k) z h = cc

pub refuses : (a b : List ℕ) (lent : ℕ) (r : Refusal) → Err r ≡ surveyed_of a b lent → 0 < survey_number a b lent
refuses a b lent r e = go (survey_number a b lent) e
  where
    go : (k : ℕ) → Err r ≡ surveyed_by k a b → 0 < k
    go zero h = cc
    go (suc k) h = omega arith

-- the number of the answer is that of the survey
numbered_by : (a b : List ℕ) (n : ℕ) (t : Bool) (ts : List Test) → number_of (refusal_of (suc n)) ≡ suc n
    → answer_number (surveyed_by (first ts) a b) ≡ first ts
    → answer_number (surveyed_by (first (refuse (suc n) t ∷ ts)) a b) ≡ first (refuse (suc n) t ∷ ts)
unfolding first
numbered_by a b n true ts h k = h
numbered_by a b n false ts h k = k

pub numbered : (a b : List ℕ) (lent : ℕ) → answer_number (surveyed_of a b lent) ≡ survey_number a b lent
unfolding survey_number first refusal_of
numbered a b lent =
    let u : List Test = second_tests a b lent in
    let v : List Test = room_tests a b lent in
    numbered_by a b 4 (not (well_formed a)) (unsettled a ∷ empty a ∷ u) refl
    (numbered_by a b 5 (not (settled a)) (empty a ∷ u) refl
    (numbered_by a b 6 (eqb (nt a) 0) u refl
    (numbered_by a b 4 (not (well_formed b)) (unsettled b ∷ empty b ∷ v) refl
    (numbered_by a b 5 (not (settled b)) (empty b ∷ v) refl
    (numbered_by a b 6 (eqb (nt b) 0) v refl
    (numbered_by a b 11 (ltb lent (nk a + nk b)) [] refl refl))))))
