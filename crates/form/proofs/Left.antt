-- What is left of a pass: the whole answer is the answer on the updates that are left, with the pending one in front.
-- Each law unfolds a definition by one update, or ends it.
use Rattle.std.proofs.Common.{◌≡◌, ℕ, ◌+◌, ◌^◌, ◌<◌, ◌≤◌, Bool, true, false, ◌&&◌, ◌||◌, List, [], ◌∷◌, length, get_or, drop, ℤ, sym, refl, ap, ◌∙◌, zero-le, add-one, arith, drop-cons, w64, of_z, le-ltb}
use lib.ListN.{drop_of_length-le}
use mir.ValLaws.{of_z-to_z}
use lib.IntN.{+ℤ_idl}
use Rattle.chunk.specs.declared.Contents.{Contents}
use Rattle.chunk.specs.Entry.{Entry, change, before, same, stands, every}
use Rattle.chunk.specs.Sums.{plus}
use Rattle.chunk.specs.Refusal.{first}
use Rattle.sort.specs.Sort.{entry_of, nth, updates}
use Rattle.laws.proofs.Tests.{by_test, and-false}
use Rattle.laws.proofs.Order.{Same, same_parts}
use Rattle.sort.specs.declared.Update.{Update}
use Rattle.form.specs.declared.Counts.{Counts}
use Rattle.form.specs.Form.{consolidated, formed, falls, in_range}
use Rattle.form.specs.Pass.{no_update, joined, count_from, write_from, pushed, pushed_out, next_counts, next_pending, next_out, survey_number}
use Rattle.form.proofs.Formed.{falls-same}

-- ---- the updates that are left

-- one update more
pub turn : (es : List Entry) (i : ℕ) → i < length es → drop i es ≡ nth es i ∷ drop (i + 1) es
turn es i h = rw (add-one i) (drop-cons es i _ h)

-- no update more
pub done : (es : List Entry) (i : ℕ) → length es ≤ i → drop i es ≡ []
done es i h = drop_of_length-le es {i = i} h

-- ---- the start

abbrev none : Entry
none = entry_of no_update

plus-zero : (d : ℕ) → d < 2 ^ 64 → plus 0 d ≡ d
plus-zero d h = ap (λ (z : ℤ). of_z w64 z) (+ℤ_idl (change d)) ∙ of_z-to_z w64 d (record { fits = h })

-- no change at the least position, added to the first update, is that update
zero-first : (b : Entry) → same none b ≡ true → b.diff < 2 ^ 64 → joined none b ≡ b
zero-first b h l =
    let s : Same none b = same_parts none b h in
    let p : plus 0 b.diff ≡ b.diff = plus-zero b.diff l in
    λ i. record { key = s.key i; val = s.val i; time = s.time i; diff = p i }

pub starts : (es : List Entry) → (nth es 0).diff < 2 ^ 64 → formed es ≡ consolidated none es
unfolding formed consolidated
starts [] h = refl
starts (b ∷ es) h =
    by_test (same none b)
    (λ (s : same none b ≡ true). rw s (ap (λ (e : Entry). consolidated e es) (sym (zero-first b s h))))
    (λ (s : same none b ≡ false). rw s)

-- the first update's diff is a word
pub first_word : (w : List ℕ) → get_or w 3 0 < 2 ^ 64 → (nth (updates w) 0).diff < 2 ^ 64
unfolding updates
first_word [] h = omega arith
first_word (a ∷ []) h = omega arith
first_word (a ∷ b ∷ []) h = omega arith
first_word (a ∷ b ∷ d ∷ []) h = omega arith
first_word (k ∷ v ∷ t ∷ d ∷ w) h = h

pub starts-falls : (es : List Entry) → falls es ≡ falls (none ∷ es)
unfolding falls
starts-falls [] = refl
starts-falls (e ∷ es) = simp (le-ltb e.key 0 zero-le, le-ltb e.val 0 zero-le, le-ltb e.time 0 zero-le, and-false)

-- ---- one update taken

module _ (c : Counts) (a : Entry) where
  pub count_turn : (b : Entry) (es : List Entry)
      → count_from c (consolidated a (b ∷ es)) ≡ count_from (next_counts c a b) (consolidated (next_pending a b) es)
  unfolding count_from consolidated
  count_turn b es =
      by_test (same a b)
      (λ (s : same a b ≡ true). rw s)
      (λ (s : same a b ≡ false). by_test (stands a) (λ (t : stands a ≡ true). rw (s, t)) (λ (t : stands a ≡ false). rw (s, t)))

  pub count_done : count_from c (consolidated a []) ≡ pushed c a
  unfolding count_from consolidated
  count_done = by_test (stands a) (λ (t : stands a ≡ true). rw t) (λ (t : stands a ≡ false). rw t)

  pub write_turn : (p : Contents) (out : List ℕ) (b : Entry) (es : List Entry)
      → write_from p c (consolidated a (b ∷ es)) out ≡ write_from p (next_counts c a b) (consolidated (next_pending a b) es) (next_out p c a b out)
  unfolding write_from consolidated
  write_turn p out b es =
      by_test (same a b)
      (λ (s : same a b ≡ true). rw s)
      (λ (s : same a b ≡ false). by_test (stands a) (λ (t : stands a ≡ true). rw (s, t)) (λ (t : stands a ≡ false). rw (s, t)))

  pub write_done : (p : Contents) (out : List ℕ) → write_from p c (consolidated a []) out ≡ pushed_out p c a out
  unfolding write_from consolidated
  write_done p out = by_test (stands a) (λ (t : stands a ≡ true). rw t) (λ (t : stands a ≡ false). rw t)

pub falls-turn : (a b : Entry) (es : List Entry) → falls (a ∷ b ∷ es) ≡ (before b a || falls (next_pending a b ∷ es))
unfolding falls
falls-turn a b es =
    by_test (same a b)
    (λ (s : same a b ≡ true).
    let n : next_pending a b ≡ joined a b = rw s in
    ap (λ (t : Bool). before b a || t) (sym (falls-same (joined a b) b es s)) ∙ ap (λ (e : Entry). before b a || falls (e ∷ es)) (sym n))
    (λ (s : same a b ≡ false).
    let n : next_pending a b ≡ b = rw s in
    ap (λ (e : Entry). before b a || falls (e ∷ es)) (sym n))

and_assoc : (a b d : Bool) → (a && (b && d)) ≡ ((a && b) && d)
and_assoc true b d = refl
and_assoc false b d = refl

pub range_turn : (t : Bool) (b : Entry) (es : List Entry) → (t && every in_range (b ∷ es)) ≡ ((t && in_range b) && every in_range es)
unfolding every
range_turn t b es = and_assoc t (in_range b) (every in_range es)

-- ---- what the first pass answers

module _ (es : List Entry) where
  pub answers_3 : falls es ≡ true → 3 ≡ survey_number es
  unfolding survey_number first
  answers_3 h = rw h

  pub answers_4 : falls es ≡ false → every in_range es ≡ false → 4 ≡ survey_number es
  unfolding survey_number first
  answers_4 h k = rw (h, k)

  pub answers_0 : falls es ≡ false → every in_range es ≡ true → survey_number es ≡ 0
  unfolding survey_number first
  answers_0 h k = rw (h, k)

-- ---- the range alone

pub range_more : (es : List Entry) (i : ℕ) (t : Bool) (u : Update) → i < length es → entry_of u ≡ nth es i
    → (t && every in_range (drop i es)) ≡ ((t && in_range (entry_of u)) && every in_range (drop (i + 1) es))
range_more es i t u h q =
    ap (λ (l : List Entry). t && every in_range l) (turn es i h ∙ ap (λ (e : Entry). e ∷ drop (i + 1) es) (sym q))
    ∙ range_turn t (entry_of u) (drop (i + 1) es)

pub range_done : (es : List Entry) (i : ℕ) (t : Bool) → length es ≤ i → (t && every in_range (drop i es)) ≡ t
unfolding every
range_done es i t h = ap (λ (l : List Entry). t && every in_range l) (done es i h) ∙ and-true t
  where
    and-true : (b : Bool) → (b && true) ≡ b
    and-true true = refl
    and-true false = refl
