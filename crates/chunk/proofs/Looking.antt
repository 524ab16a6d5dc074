-- Times looked over by ranges, with their diff ends and diffs beside them: what was found so far, and what is left, tell of the whole.
use Prim.Native.Nat.{ℕ, suc, ◌<◌, ◌≤◌, ◌+◌, ◌-◌}
use mathlib.Core.Path.{◌≡◌, refl, sym, ◌∙◌, ap}
use mathlib.Core.Bool.{Bool, true, false, not, ◌&&◌}
use mathlib.Core.List.{List, [], ◌∷◌}
use native.Mathlib.Omega.{arith}
use native.Mathlib.Nat.{add-zero}
use native.Mathlib.Numerals.{add-one}
use borrow.Author.Tests.{le-ltb, eqb-true}
use Rattle.std.specs.declared.slice.Chunks.{Chunks}
use Rattle.std.specs.Slice.Iter.{chunks_rest}
use lib.ListN.{length, take, drop, get_or, length-drop, drop_of_length-le}
use lib.Seq.{drop-cons}
use lib.Dec.{eqb}
use lib.Bits.{bit_or, bit_xor}
use Rattle.chunk.specs.Entry.{every}
use Rattle.chunk.specs.Words.{ends_rise, ends_step, rises, lists}
use Rattle.chunk.specs.Falls.{fall, falls_from, falls_of}
use Rattle.chunk.specs.Beside.{standing, changes_hold}
use Rattle.chunk.proofs.Tests.{and-true, and_joins}
use Rattle.chunk.proofs.Falling.{once}
use Rattle.chunk.proofs.Counting.{marked, steps}
use Rattle.chunk.proofs.Rowing.{stood}
use Rattle.chunk.proofs.Parting.{Tested}
use Rattle.chunk.proofs.Stepping.{near, stepped_more, changed_end}

-- the falls of a range of times so far, the first counted as one
pub record Looked (times : List ℕ) (low high fell last i : ℕ) : Type 0 where
  pub from : low ≤ i
  pub within : i ≤ high
  pub few : fell + low ≤ i
  pub falls : suc (falls_of (take (high - low) (drop low times))) ≡ fell + falls_from last (take (high - i) (drop i times))

-- a range from one time on
next : (times : List ℕ) (i high : ℕ) → i < high → high ≤ length times → take (high - i) (drop i times) ≡ get_or times i 0 ∷ take (high - suc i) (drop (suc i) times)
next times i high h k =
    let q : high - i ≡ suc (high - suc i) = omega arith in
    let m : i < length times = omega arith in
    rw (q, drop-cons times i 0)

module _ {times : List ℕ} {low high : ℕ} (k : high ≤ length times) where
  pub looked_starts : low < high → Looked times low high 0 (get_or times low 0) low
  unfolding falls_of falls_from
  looked_starts h =
      record {
        from = omega arith;
        within = omega arith;
        few = omega arith;
        falls = rw (next times low high h k) (simp (le-ltb (get_or times low 0) (get_or times low 0) (omega arith)) (omega arith));
      }

  module _ {fell last i : ℕ} (l : Looked times low high fell last i) where
    -- one time more
    pub looked_turn : (step : ℕ) → i < high → step ≡ fall last (get_or times i 0) → Looked times low high (fell + step) (get_or times i 0) (i + 1)
    unfolding falls_from
    looked_turn step h e =
        let o : fall last (get_or times i 0) ≤ 1 = once last (get_or times i 0) in
        record {
          from = omega (arith, l.from);
          within = omega arith;
          few = omega (arith, l.few);
          falls =
              let n : falls_from last (take (high - i) (drop i times)) ≡ fall last (get_or times i 0) + falls_from (get_or times i 0) (take (high - (i + 1)) (drop (i + 1) times)) = rw (add-one, next times i high h k) in
              omega (arith, l.falls, n, e);
        }

    -- no time is left
    pub looked_end : high ≤ i → fell ≡ suc (falls_of (take (high - low) (drop low times)))
    unfolding falls_from
    looked_end h = let q : high - i ≡ 0 = omega arith in sym (l.falls ∙ rw q (add-zero fell))

-- the ends that count on from one place, and the diffs, so far
pub record Marked (ends diffs : List ℕ) (low wrong : ℕ) (good : Bool) (i : ℕ) : Type 0 where
  pub marks : ends_rise low (drop low ends) (length ends) ≡ (eqb wrong 0 && ends_rise i (drop i ends) (length ends))
  pub stands : standing (drop low diffs) ≡ (good && standing (drop i diffs))

-- two tests found so far, each with what is left of its own
paired : (a b c d : Bool) → ((a && b) && (c && d)) ≡ ((a && c) && (b && d))
paired false b c d = refl
paired true false true d = refl
paired true false false d = refl
paired true true c d = refl

-- where all times have a diff the ends step as they rise
rising : (ends diffs : List ℕ) → length ends ≡ length diffs → (i : ℕ) → i ≤ length ends → ends_step i (drop i ends) (length diffs) ≡ ends_rise i (drop i ends) (length ends)
rising ends diffs alike i h = rw (sym alike) (steps i (length ends) (drop i ends) (simp length-drop (omega arith)))

module _ {ends diffs : List ℕ} (alike : length ends ≡ length diffs) where
  module _ {low wrong i : ℕ} {good : Bool} (m : Marked ends diffs low wrong good i) where
    -- one end and one diff more
    pub marked_turn : i < length ends → Marked ends diffs low (bit_or wrong (bit_xor (get_or ends i 0) (i + 1))) (good && not (eqb (get_or diffs i 0) 0)) (i + 1)
    marked_turn h =
        record {
          marks = m.marks ∙ marked ends i h wrong;
          stands = m.stands ∙ ap (λ (b : Bool). good && b) (stood diffs i (omega arith)) ∙ and_joins good _ _;
        }

    -- as far as the look goes
    pub marked_end : low ≤ i → i ≤ length ends
        → changes_hold low (drop low ends) (drop low diffs) (length diffs) ≡ ((eqb wrong 0 && good) && changes_hold i (drop i ends) (drop i diffs) (length diffs))
    marked_end g h =
        rw (rising ends diffs alike low (omega arith), rising ends diffs alike i h, m.marks, m.stands) (paired (eqb wrong 0) (ends_rise i (drop i ends) (length ends)) good (standing (drop i diffs)))

-- one end more where no diff is left
pub stepped_beside : (good : Bool) (ends diffs : List ℕ) (low i top : ℕ) → i < length ends → length diffs ≤ i
    → (good && changes_hold low (drop i ends) (drop i diffs) top) ≡ ((good && near low (get_or ends i 0)) && changes_hold (get_or ends i 0) (drop (i + 1) ends) (drop (i + 1) diffs) top)
stepped_beside good ends diffs low i top h k =
    changed_end good ends diffs low i top k
    ∙ stepped_more good ends low i top h
    ∙ sym (changed_end (good && near low (get_or ends i 0)) ends diffs (get_or ends i 0) (i + 1) top (omega arith))

-- a test of what was found and what is left, where what is left is tested further
pub tested_on : (whole good more left rest : Bool) → whole ≡ (good && left) → left ≡ (more && rest) → whole ≡ ((good && more) && rest)
tested_on whole good more left rest h k = h ∙ ap (λ (b : Bool). good && b) k ∙ and_joins good more rest

-- the test of all times, where no list of them is left
pub times_end :
    (time_ends times diff_ends diffs : List ℕ) (good : Bool) (reach : ℕ) (left : Chunks ℕ) (low : ℕ) → length diff_ends ≡ length times → length diffs ≤ length times → length (chunks_rest left) ≡ 0
    → ends_rise 0 time_ends (length times) ≡ true → Tested time_ends times left low
    → changes_hold 0 diff_ends diffs (length diffs) ≡ (good && changes_hold reach (drop low diff_ends) (drop low diffs) (length diffs))
    → (good && eqb reach (length diffs)) ≡ (changes_hold 0 diff_ends diffs (length diffs) && (ends_rise 0 time_ends (length times) && every rises (lists 0 time_ends times)))
unfolding every lists ends_rise ends_step
times_end time_ends times diff_ends diffs good reach left low a f h e t w =
    let k : length (chunks_rest left) ≤ 0 = omega arith in
    let d : chunks_rest left ≡ [] = drop_of_length-le (chunks_rest left) k in
    let q : low ≡ length times = eqb-true _ _ (simp d at t.rise) in
    let m : drop low diff_ends ≡ [] = drop_of_length-le diff_ends {i = low} (omega arith) in
    let n : drop low diffs ≡ [] = drop_of_length-le diffs {i = low} (omega arith) in
    let r : every rises (lists 0 time_ends times) ≡ true = t.whole ∙ simp d in
    let v : changes_hold 0 diff_ends diffs (length diffs) ≡ (good && eqb reach (length diffs)) = w ∙ simp (m, n, and-true) in
    sym (simp (e, r, v, and-true))
