-- The numbers of a merge, by its tests in their order, and what the call leaves with each.
use Rattle.std.proofs.Common.{◌≡◌, ℕ, zero, suc, ◌+◌, ◌-◌, ◌*◌, ◌<◌, ◌≤◌, Bool, true, false, cond, ltb, List, [], ◌∷◌, length, sym, refl, ap, ◌∙◌, subst, arith, ltb-false, ne_eqb, Err}
use lib.ListN.{length-map}
use Rattle.laws.proofs.Tests.{by_test}
use Rattle.chunk.specs.Entry.{Entry, same_list}
use Rattle.chunk.specs.Bodies.{chunk_of, lasts_of, same_key}
use Rattle.chunk.specs.Words.{entries, well_formed, settled, size, nt, limit, over}
use Rattle.chunk.specs.Refusal.{Test, first, refuse, malformed, unsettled, empty, written}
use Rattle.chunk.specs.Answer.{number_of}
use Rattle.chunk.specs.Contents.{Placed}
use Rattle.chunk.specs.declared.Refusal.{Refusal}
use Rattle.chunk.proofs.Refusals.{number_above, refused_by}
use Rattle.chunk.specs.declared.Contents.{Contents}
use Rattle.merge.specs.declared.Survivor.TheVariants.{Nobody}
use Rattle.reports.specs.Merge.{merged, Survives, nobody, survivor, overflows, scratch_room, merge_number, merge_out}
use Rattle.merge.specs.Outcome.{Joined, joined_of, answer_by, merge_answer, MergeAnswers}
use Rattle.reports.specs.Refusals.{Refused, room_of, SmallEach}
use Rattle.reports.specs.Whole.{Whole}
use Rattle.reports.specs.Mergeable.{Mergeable}
use Rattle.merge.specs.Surveyed.{SettledMerge}
use Rattle.reports.proofs.Moving.{reading}
use Rattle.reports.proofs.Refusing.{written_none}
use Rattle.reports.proofs.Bodies.{fewer}
use Rattle.merge.proofs.Gluing.{Counted, counts}
use Rattle.merge.proofs.Lent.{whole_by}

-- ---- the tests by their numbers

-- a number, or where it is 0 the next
abbrev or_else : ℕ → ℕ → ℕ
or_else zero m = m
or_else (suc n) m = suc n

or_else_above : (n m : ℕ) → 0 < n → or_else n m ≡ n
or_else_above zero m h = absurd (omega arith)
or_else_above (suc n) m h = refl

-- 2, 12 or 13, or 0
abbrev room_by : Bool → Bool → Bool → ℕ
room_by many little short = cond many 2 (cond little 12 (cond short 13 0))

room-first : (x y z v : Bool) → first (refuse 2 x ∷ refuse 12 y ∷ refuse 13 z ∷ refuse 14 v ∷ []) ≡ or_else (room_by x y z) (cond v 14 0)
unfolding first
room-first true y z v = refl
room-first false true z v = refl
room-first false false true v = refl
room-first false false false v = refl

-- none of the three fails
record None (x y z : Bool) : Type 0 where
  one : x ≡ false
  two : y ≡ false
  three : z ≡ false

room-none : (x y z : Bool) → room_by x y z ≡ 0 → None x y z
room-none true y z h = absurd (omega arith)
room-none false true z h = absurd (omega arith)
room-none false false true h = absurd (omega arith)
room-none false false false h = record { one = refl; two = refl; three = refl }

-- the tests of a chunk that is taken are passed
passed : (w : List ℕ) (rest : List Test) → well_formed w ≡ true → settled w ≡ true → 0 < nt w → first (malformed w ∷ unsettled w ∷ empty w ∷ rest) ≡ first rest
unfolding first
passed w rest f s n = rw (f, s, ne_eqb (nt w) 0 (λ e. absurd (omega arith))) refl

-- ---- what a number leaves

-- nobody survives a refusal
refused_as : (n : ℕ) (v : Survives) → 0 < n → record { number = n; survivor = Nobody } ≡ answer_by n v
refused_as zero v h = absurd (omega arith)
refused_as (suc n) v h = refl

-- 14 or 0, by whether a sum overflows
written_as : (b : Bool) (es : List Entry) (out : List ℕ) → cond b out (over (chunk_of es) out) ≡ written (cond b 14 0) es out
unfolding written
written_as true es out = refl
written_as false es out = refl

answers_as : (b : Bool) (v : Survives) → cond b (answer_by 14 nobody) (answer_by 0 v) ≡ answer_by (cond b 14 0) v
answers_as true v = refl
answers_as false v = refl

none_refused : (b : Bool) → Refused (cond b 14 0) → ⊥
none_refused true q = q.not_overflow refl
none_refused false q = q.not_accepted refl

-- ---- one chunk

-- a chunk that is taken
pub record Taken (w : List ℕ) (c : Contents) : Type 0 where
  whole : Whole w c
  some : 0 < c.nt
  there : 0 < nt w

-- words that are lent as one, by what the tests say of them
pub taken : (v w : List ℕ) (c : Contents) → Placed c v → v ≡ w → well_formed w ≡ true → settled w ≡ true → 0 < nt w → Taken w c
taken v w c p e f s n = record { whole = whole_by v w c p e f s; some = omega (arith, p.time_count, ap nt e); there = n }

lasts_fewer : (sm : Entry → Entry → Bool) (es : List Entry) → length (lasts_of sm es) ≤ length es
unfolding lasts_of
lasts_fewer sm [] = omega arith
lasts_fewer sm (a ∷ []) = omega arith
lasts_fewer sm (a ∷ b ∷ es) =
    let ih : length (lasts_of sm (b ∷ es)) ≤ length (b ∷ es) = lasts_fewer sm (b ∷ es) in
    by_test (sm a b) (λ h. rw h (omega arith)) (λ h. rw h (omega arith))

-- counts that a settled chunk has
record Small (c : Contents) : Type 0 where
  few-keys : c.nk ≤ limit
  few-vals : c.nv ≤ limit
  few-times : c.nt ≤ limit
  few_words : c.size ≤ 10 * limit
  table : c.keys_at ≤ c.size

small : (w : List ℕ) (c : Contents) → Whole w c → Small c
small w c y =
    let k : Counted w c = counts w c y in
    let t : c.nt ≤ limit = (reading w c y.chunk).small in
    let n : c.nk ≤ c.nt =
    omega (arith, k.shaped.key-count, length-map (lasts_of same_key (entries w)) (λ (e : Entry). e.key), lasts_fewer same_key (entries w), k.counted) in
    let v : c.nv ≤ c.nt =
    omega (arith, k.shaped.val-count, length-map (lasts_of same_list (entries w)) (λ (e : Entry). e.val), fewer (entries w), k.counted) in
    record {
      few-keys = omega arith;
      few-vals = omega arith;
      few-times = t;
      few_words = omega (arith, k.sized);
      table = omega (arith, k.sized, k.table);
    }

-- ---- the number of two

module _ (w0 w1 s out : List ℕ) where
  abbrev others : ℕ
  others = cond (overflows (entries w0) (entries w1)) 14 0

  abbrev rooms : ℕ
  rooms = room_by (ltb limit (nt w0 + nt w1)) (ltb (length s) (scratch_room w0 w1)) (ltb (length out) (size w0 + size w1 - 4))

  -- the tests of two chunks that are taken, and those of the second before them
  abbrev last_tests : List Test
  last_tests =
      refuse 2 (ltb limit (nt w0 + nt w1)) ∷ refuse 12 (ltb (length s) (scratch_room w0 w1)) ∷ refuse 13 (ltb (length out) (size w0 + size w1 - 4))
      ∷ refuse 14 (overflows (entries w0) (entries w1)) ∷ []

  abbrev second_tests : List Test
  second_tests = malformed w1 ∷ unsettled w1 ∷ empty w1 ∷ last_tests

  number_is : merge_number w0 w1 s out ≡ first (malformed w0 ∷ unsettled w0 ∷ empty w0 ∷ second_tests)
  unfolding merge_number
  number_is = refl

  -- ---- what the call leaves

  answer-is : merge_answer w0 w1 s out ≡ answer_by (merge_number w0 w1 s out) (survivor (entries w0) (entries w1))
  unfolding merge_answer
  answer-is = refl

  out_is : merge_out w0 w1 s out ≡ written (merge_number w0 w1 s out) (merged (entries w0) (entries w1)) out
  unfolding merge_out
  out_is = refl

  -- with a refusal nothing is left changed
  refuses : (r : Refusal) → number_of r ≡ merge_number w0 w1 s out → MergeAnswers w0 w1 s out (joined_of (Err r)) out s
  refuses r h =
      record {
        answers = refused_as (number_of r) (survivor (entries w0) (entries w1)) (number_above r) ∙ ap (λ (m : ℕ). answer_by m (survivor (entries w0) (entries w1))) h ∙ sym answer-is;
        written = sym (out_is ∙ written_none (merge_number w0 w1 s out) (merged (entries w0) (entries w1)) out (rw h at (number_above r)));
        untouched = λ q. refl;
      }

  pub first_refuses : (r : Refusal) → number_of r ≡ first (malformed w0 ∷ unsettled w0 ∷ empty w0 ∷ []) → MergeAnswers w0 w1 s out (joined_of (Err r)) out s
  first_refuses r e = refuses r (refused_by r (malformed w0 ∷ unsettled w0 ∷ empty w0 ∷ []) second_tests e ∙ sym number_is)

  module _ (c0 : Contents) (t0 : Taken w0 c0) where
    past_first : merge_number w0 w1 s out ≡ first second_tests
    past_first = number_is ∙ passed w0 second_tests t0.whole.chunk.formed t0.whole.settles t0.there

    pub second_refuses : (r : Refusal) → number_of r ≡ first (malformed w1 ∷ unsettled w1 ∷ empty w1 ∷ []) → MergeAnswers w0 w1 s out (joined_of (Err r)) out s
    second_refuses r e = refuses r (refused_by r (malformed w1 ∷ unsettled w1 ∷ empty w1 ∷ []) last_tests e ∙ sym past_first)

    module _ (c1 : Contents) (t1 : Taken w1 c1) where
      pub small_each : SmallEach c0 c1
      small_each =
          let a : Small c0 = small w0 c0 t0.whole in
          let b : Small c1 = small w1 c1 t1.whole in
          record {
            keys0 = a.few-keys;
            vals0 = a.few-vals;
            times0 = a.few-times;
            size0 = a.few_words;
            keys1 = b.few-keys;
            vals1 = b.few-vals;
            times1 = b.few-times;
            size1 = b.few_words;
            table = b.table;
          }

      its_room : room_of c0 c1 (length s) (length out) ≡ rooms
      unfolding room_of
      its_room =
          let e : size w0 + (size w1 - 4) ≡ size w0 + size w1 - 4 = omega arith in
          rw (t0.whole.chunk.contents, t1.whole.chunk.contents) (ap (λ (n : ℕ). room_by (ltb limit (nt w0 + nt w1)) (ltb (length s) (scratch_room w0 w1)) (ltb (length out) n)) e)

      past_second : merge_number w0 w1 s out ≡ or_else rooms others
      past_second =
          past_first ∙ passed w1 last_tests t1.whole.chunk.formed t1.whole.settles t1.there
          ∙ room-first (ltb limit (nt w0 + nt w1)) (ltb (length s) (scratch_room w0 w1)) (ltb (length out) (size w0 + size w1 - 4)) (overflows (entries w0) (entries w1))

      pub room_refuses : (r : Refusal) → number_of r ≡ room_of c0 c1 (length s) (length out) → MergeAnswers w0 w1 s out (joined_of (Err r)) out s
      room_refuses r h =
          let q : number_of r ≡ rooms = h ∙ its_room in
          refuses r (q ∙ sym (or_else_above rooms others (rw q at (number_above r))) ∙ sym past_second)

      module _ (h2 : 0 ≡ room_of c0 c1 (length s) (length out)) where
        pub both_pass : Mergeable w0 c0 w1 c1 (length s) (length out)
        unfolding room_of
        both_pass =
            let n : None (ltb limit (c0.nt + c1.nt)) (ltb (length s) (3 * (c0.nk + c0.nv + c0.nt + (c1.nk + c1.nv + c1.nt))))
            (ltb (length out) (c0.size + (c1.size - c1.keys_at))) = room-none _ _ _ (sym h2) in
            record {
              first = t0.whole;
              second = t1.whole;
              some0 = t0.some;
              some1 = t1.some;
              few = ltb-false _ _ n.one;
              wide = ltb-false _ _ n.two;
              room = ltb-false _ _ n.three;
            }

        past_all : merge_number w0 w1 s out ≡ others
        past_all = past_second ∙ ap (λ (m : ℕ). or_else m others) (sym its_room ∙ sym h2)

        -- 14, or the merge
        pub merge_done : (r : Joined) (out' s' : List ℕ) → SettledMerge (entries w0) (entries w1) out r out' → MergeAnswers w0 w1 s out r out' s'
        merge_done r out' s' g =
            record {
              answers =
                  g.answers ∙ answers_as (overflows (entries w0) (entries w1)) (survivor (entries w0) (entries w1))
                  ∙ sym (answer-is ∙ ap (λ (m : ℕ). answer_by m (survivor (entries w0) (entries w1))) past_all);
              written =
                  g.written ∙ written_as (overflows (entries w0) (entries w1)) (merged (entries w0) (entries w1)) out
                  ∙ sym (out_is ∙ ap (λ (m : ℕ). written m (merged (entries w0) (entries w1)) out) past_all);
              untouched = λ q. absurd (none_refused (overflows (entries w0) (entries w1)) (subst Refused past_all q));
            }
