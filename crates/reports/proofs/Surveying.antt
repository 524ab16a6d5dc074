-- The survey of a layer, report by report: what one becomes, that the items of the lists bound it, and the loop over all of them.
use Prim.Native.Nat.{ℕ, zero, suc, ◌+◌, ◌-◌, ◌*◌, ◌<◌, ◌≤◌}
use mathlib.Core.Path.{◌≡◌, refl, sym, ◌∙◌, ap}
use mathlib.Core.Bool.{true}
use mathlib.Core.List.{List, [], ◌∷◌, ◌++◌, append_assoc, append-nil}
use native.Mathlib.Omega.{arith}
use lib.Dec.{ltb}
use lib.ListN.{length, get_or, length-append}
use borrow.Author.Tests.{lt-ltb, ltb-true, eqb-true}
use Rattle.laws.proofs.Tests.{and_left, and_right}
use Rattle.chunk.specs.Words.{ends_rise}
use Rattle.chunk.specs.Contents.{start_of, child_range}
use Rattle.chunk.specs.declared.Range.{Range}
use Rattle.reports.specs.Survey.{Report, this, that, both}
use Rattle.reports.specs.Scratch.{placed, report_words, report, report_at, reports_at, pair_of, PairRoom, survey_of, surveyed, Layer, Covers, Named, weight, OneRoom, SurveyRoom}
use Rattle.reports.proofs.Placing.{placed-none, placed_before, length-placed}
use Rattle.reports.proofs.Ranges.{pair_count}
use Rattle.reports.proofs.Words.{length_words, placed-more}

pub child_there : (ends : List ℕ) (i : ℕ) → i < length ends → child_range ends i ≡ record { lower = start_of ends i; upper = get_or ends i 0 }
unfolding child_range
child_there ends i h = rw (lt-ltb i (length ends) h)

pub report-both : (k l h : ℕ) → (k ≡ 0 → ⊥) → (k ≡ 1 → ⊥) → report k l h ≡ both l h
report-both zero l h a b = absurd (a refl)
report-both (suc zero) l h a b = absurd (b refl)
report-both (suc (suc k)) l h a b = refl

module _ (e0 x0 e1 x1 : List ℕ) (k l h : ℕ) (s : List ℕ) (at : ℕ) where
  -- what `survey_one` answers and leaves
  abbrev pub One : ℕ → List ℕ → Type 0
  One r s' = (r ≡ at + 3 * length (survey_of e0 x0 e1 x1 (report k l h))) × (s' ≡ placed at (report_words (survey_of e0 x0 e1 x1 (report k l h))) s)

  pub one_this : (s' : List ℕ) → k ≡ 0 → s' ≡ placed at (0 ∷ start_of e0 l ∷ get_or e0 (h - 1) 0 ∷ []) s → One (at + 3) s'
  unfolding survey_of report_words
  one_this s' z p = (rw z refl, rw z p)

  pub one_that : (s' : List ℕ) → k ≡ 1 → s' ≡ placed at (1 ∷ start_of e1 l ∷ get_or e1 (h - 1) 0 ∷ []) s → One (at + 3) s'
  unfolding survey_of report_words
  one_that s' z p = (rw z refl, rw z p)

  module _ (a : k ≡ 0 → ⊥) (b : k ≡ 1 → ⊥) (o : OneRoom e0 x0 e1 x1 (report k l h) s at) (r0 r1 : Range) (c0 : r0 ≡ child_range e0 l) (c1 : r1 ≡ child_range e1 h) where
    in_both : (l < length e0) × (h < length e1)
    in_both = rw (report-both k l h a b) at o.named

    range0 : r0 ≡ record { lower = start_of e0 l; upper = get_or e0 l 0 }
    range0 = c0 ∙ child_there e0 l in_both.0

    range1 : r1 ≡ record { lower = start_of e1 h; upper = get_or e1 h 0 }
    range1 = c1 ∙ child_there e1 h in_both.1

    pub pair_room : PairRoom x0 r0.lower r0.upper x1 r1.lower r1.upper s at
    pair_room =
        rw (range0, range1)
        (record { rise0 = o.layer0.lists_rise l in_both.0; rise1 = o.layer1.lists_rise h in_both.1; room = rw (report-both k l h a b) at o.room })

    pub one_both : (r : ℕ) (s' : List ℕ) → r ≡ at + 3 * length (pair_of x0 r0.lower r0.upper x1 r1.lower r1.upper)
        → s' ≡ placed at (report_words (pair_of x0 r0.lower r0.upper x1 r1.lower r1.upper)) s → One r s'
    unfolding survey_of
    one_both r s' p q =
        (rw (report-both k l h a b) (rw (range0, range1) at p), rw (report-both k l h a b) (rw (range0, range1) at q))

pub run_written : (ends : List ℕ) (k l h : ℕ) (s s' : List ℕ) (at : ℕ) (front back : Range) → (l < h) × (h ≤ length ends)
    → front ≡ child_range ends l → back ≡ child_range ends (h - 1) → s' ≡ placed at (k ∷ front.lower ∷ back.upper ∷ []) s
    → s' ≡ placed at (k ∷ start_of ends l ∷ get_or ends (h - 1) 0 ∷ []) s
run_written ends k l h s s' at front back n f b p =
    let f' : front ≡ record { lower = start_of ends l; upper = get_or ends l 0 } = f ∙ child_there ends l (omega (arith, n.0, n.1)) in
    let b' : back ≡ record { lower = start_of ends (h - 1); upper = get_or ends (h - 1) 0 } = b ∙ child_there ends (h - 1) (omega (arith, n.0, n.1)) in
    rw (f', b') at p

-- ---- the ends of a layer

-- from one list's start to a later one's is upward, and no further than all items
ends_climb : (low top : ℕ) (ends : List ℕ) (j : ℕ) → ends_rise low ends top ≡ true → j < length ends → (low < get_or ends j 0) × (get_or ends j 0 ≤ top)
unfolding ends_rise
ends_climb low top [] j h k = absurd (omega arith)
ends_climb low top (e ∷ []) zero h k =
    let a : low < e = ltb-true _ _ (and_left (ltb low e) _ h) in
    let b : e ≡ top = eqb-true _ _ (and_right (ltb low e) _ h) in (a, omega arith)
ends_climb low top (e ∷ f ∷ ends) zero h k =
    let a : low < e = ltb-true _ _ (and_left (ltb low e) _ h) in
    let r = ends_climb e top (f ∷ ends) 0 (and_right (ltb low e) _ h) (omega arith) in (a, omega (arith, r.0, r.1))
ends_climb low top (e ∷ ends) (suc j) h k =
    let a : low < e = ltb-true _ _ (and_left (ltb low e) _ h) in
    let r = ends_climb e top ends j (and_right (ltb low e) _ h) (omega arith) in (omega (arith, r.0), r.1)

ends_apart : (low top : ℕ) (ends : List ℕ) (i j : ℕ) → ends_rise low ends top ≡ true → i < j → j < length ends → get_or ends i 0 < get_or ends j 0
unfolding ends_rise
ends_apart low top [] i j h m k = absurd (omega arith)
ends_apart low top (e ∷ ends) i zero h m k = absurd (omega arith)
ends_apart low top (e ∷ ends) zero (suc j) h m k = (ends_climb e top ends j (and_right (ltb low e) _ h) (omega arith)).0
ends_apart low top (e ∷ ends) (suc i) (suc j) h m k = ends_apart e top ends i j (and_right (ltb low e) _ h) (omega arith) (omega arith)

-- a list's own start and end
pub start_up : (ends : List ℕ) (top i : ℕ) → ends_rise 0 ends top ≡ true → i < length ends → (start_of ends i < get_or ends i 0) × (get_or ends i 0 ≤ top)
start_up ends top zero h k = ends_climb 0 top ends 0 h k
start_up ends top (suc i) h k = (ends_apart 0 top ends i (suc i) h (omega arith) k, (ends_climb 0 top ends (suc i) h k).1)

module _ (ends items : List ℕ) (y : Layer ends items) where
  pub starts_apart : (i j : ℕ) → i < j → j ≤ length ends → start_of ends i < start_of ends j
  starts_apart i zero m k = absurd (omega arith)
  starts_apart zero (suc j) m k = (ends_climb 0 (length items) ends j y.ends-rise (omega arith)).0
  starts_apart (suc i) (suc j) m k = ends_apart 0 (length items) ends i j y.ends-rise (omega arith) (omega arith)

  pub start_within : (j : ℕ) → j ≤ length ends → start_of ends j ≤ length items
  start_within zero k = omega arith
  start_within (suc j) k = (ends_climb 0 (length items) ends j y.ends-rise (omega arith)).1

-- ---- all the reports

-- a report taken off: it is of lists that are there, and the items past it are fewer by what it can become
record Taken (e0 x0 e1 x1 : List ℕ) (i j : ℕ) (r : Report) (rs : List Report) : Type 0 where
  named : Named e0 e1 r
  next0 : ℕ
  next1 : ℕ
  covers : Covers (length e0) (length e1) next0 next1 rs
  in0 : next0 ≤ length e0
  in1 : next1 ≤ length e1
  few : length (survey_of e0 x0 e1 x1 r) ≤ weight e0 e1 r
  less : weight e0 e1 r + (length x0 - start_of e0 next0 + (length x1 - start_of e1 next1)) ≤ length x0 - start_of e0 i + (length x1 - start_of e1 j)

module _ (e0 x0 e1 x1 : List ℕ) (y0 : Layer e0 x0) (y1 : Layer e1 x1) where
  take_off : (i j : ℕ) (r : Report) (rs : List Report) → i ≤ length e0 → j ≤ length e1 → Covers (length e0) (length e1) i j (r ∷ rs) → Taken e0 x0 e1 x1 i j r rs
  unfolding survey_of
  take_off i j (this l h) rs a b c =
      let up : start_of e0 l < start_of e0 h = starts_apart e0 x0 y0 l h c.1 c.2 in
      let top : start_of e0 h ≤ length x0 = start_within e0 x0 y0 h c.2 in
      let at : start_of e0 l ≡ start_of e0 i = ap (start_of e0) c.0 in
      record { named = (c.1, c.2); next0 = h; next1 = j; covers = c.3; in0 = c.2; in1 = b; few = omega arith; less = omega arith }
  take_off i j (that l h) rs a b c =
      let up : start_of e1 l < start_of e1 h = starts_apart e1 x1 y1 l h c.1 c.2 in
      let top : start_of e1 h ≤ length x1 = start_within e1 x1 y1 h c.2 in
      let at : start_of e1 l ≡ start_of e1 j = ap (start_of e1) c.0 in
      record { named = (c.1, c.2); next0 = i; next1 = h; covers = c.3; in0 = a; in1 = c.2; few = omega arith; less = omega arith }
  take_off i j (both p q) rs a b c =
      let pi : p < length e0 = omega (arith, c.0, c.2) in
      let qi : q < length e1 = omega (arith, c.1, c.3) in
      let up0 : start_of e0 p < get_or e0 p 0 = starts_apart e0 x0 y0 p (suc p) (omega arith) (omega arith) in
      let up1 : start_of e1 q < get_or e1 q 0 = starts_apart e1 x1 y1 q (suc q) (omega arith) (omega arith) in
      let top0 : get_or e0 p 0 ≤ length x0 = start_within e0 x0 y0 (suc p) (omega arith) in
      let top1 : get_or e1 q 0 ≤ length x1 = start_within e1 x1 y1 (suc q) (omega arith) in
      let at0 : start_of e0 p ≡ start_of e0 i = ap (start_of e0) c.0 in
      let at1 : start_of e1 q ≡ start_of e1 j = ap (start_of e1) c.1 in
      let on0 : get_or e0 p 0 ≡ get_or e0 i 0 = ap (λ (n : ℕ). get_or e0 n 0) c.0 in
      let on1 : get_or e1 q 0 ≡ get_or e1 j 0 = ap (λ (n : ℕ). get_or e1 n 0) c.1 in
      record {
        named = (pi, qi);
        next0 = suc i;
        next1 = suc j;
        covers = c.4;
        in0 = c.2;
        in1 = c.3;
        few = pair_count x0 (start_of e0 p) (get_or e0 p 0) x1 (start_of e1 q) (get_or e1 q 0) top0 top1;
        less = omega arith;
      }

pub record Surveying (e0 x0 e1 x1 s₀ : List ℕ) (from count start : ℕ) (s : List ℕ) (at i n : ℕ) : Type 0 where
  pub done : List Report
  pub split : surveyed e0 x0 e1 x1 (reports_at s₀ from count) ≡ done ++ surveyed e0 x0 e1 x1 (reports_at s₀ i (count - n))
  pub wrote : s ≡ placed start (report_words done) s₀
  pub place : at ≡ start + 3 * length done
  pub reached : n ≤ count
  pub here : i ≡ from + 3 * n
  pub list0 : ℕ
  pub list1 : ℕ
  pub in0 : list0 ≤ length e0
  pub in1 : list1 ≤ length e1
  pub covers : Covers (length e0) (length e1) list0 list1 (reports_at s₀ i (count - n))
  pub room : at + 3 * (length x0 - start_of e0 list0 + (length x1 - start_of e1 list1)) ≤ length s₀

module _ (e0 x0 e1 x1 s₀ : List ℕ) (from count start : ℕ) (y : SurveyRoom e0 x0 e1 x1 s₀ from count start) where
  pub surveying_none : Surveying e0 x0 e1 x1 s₀ from count start s₀ start from 0
  unfolding report_words
  surveying_none =
      let z : count - 0 ≡ count = omega arith in
      record {
        done = [];
        split = rw z;
        wrote = sym (placed-none start s₀);
        place = omega arith;
        reached = omega arith;
        here = omega arith;
        list0 = 0;
        list1 = 0;
        in0 = omega arith;
        in1 = omega arith;
        covers = rw z y.covers;
        room = omega (arith, y.room);
      }

  module _ (s : List ℕ) (at i n : ℕ) (g : Surveying e0 x0 e1 x1 s₀ from count start s at i n) where
    pub surveying_length : length s ≡ length s₀
    surveying_length = ap length g.wrote ∙ length-placed start s₀ (report_words g.done) (omega (arith, length_words g.done, g.place, g.room))

    same_at : (j : ℕ) → j < start → get_or s j 0 ≡ get_or s₀ j 0
    same_at j h = ap (λ (l : List ℕ). get_or l j 0) g.wrote ∙ placed_before start s₀ (report_words g.done) j (omega (arith, y.room)) h

    module _ (m : n < count) where
      abbrev now_read : Report
      now_read = report (get_or s i 0) (get_or s (i + 1) 0) (get_or s (i + 2) 0)

      read_same : now_read ≡ report_at s₀ i
      read_same =
          let a : get_or s i 0 ≡ get_or s₀ i 0 = same_at i (omega (arith, g.here, y.before)) in
          let b : get_or s (i + 1) 0 ≡ get_or s₀ (i + 1) 0 = same_at (i + 1) (omega (arith, g.here, y.before)) in
          let d : get_or s (i + 2) 0 ≡ get_or s₀ (i + 2) 0 = same_at (i + 2) (omega (arith, g.here, y.before)) in
          rw (a, b, d)

      one_more : reports_at s₀ i (count - n) ≡ now_read ∷ reports_at s₀ (i + 3) (count - (n + 1))
      unfolding reports_at
      one_more = let e : count - n ≡ suc (count - (n + 1)) = omega arith in rw (e, read_same)

      off : Taken e0 x0 e1 x1 g.list0 g.list1 now_read (reports_at s₀ (i + 3) (count - (n + 1)))
      off = take_off e0 x0 e1 x1 y.layer0 y.layer1 g.list0 g.list1 now_read (reports_at s₀ (i + 3) (count - (n + 1))) g.in0 g.in1 (rw one_more at g.covers)

      pub one_room : OneRoom e0 x0 e1 x1 now_read s at
      one_room = record { layer0 = y.layer0; layer1 = y.layer1; named = off.named; room = omega (arith, off.less, g.room, surveying_length) }

      pub surveying_more : (r : ℕ) (s' : List ℕ) → r ≡ at + 3 * length (survey_of e0 x0 e1 x1 now_read)
          → s' ≡ placed at (report_words (survey_of e0 x0 e1 x1 now_read)) s → Surveying e0 x0 e1 x1 s₀ from count start s' r (i + 3) (n + 1)
      unfolding surveyed
      surveying_more r s' p q =
          let these : List Report = survey_of e0 x0 e1 x1 now_read in
          record {
            done = g.done ++ these;
            split =
                g.split ∙ ap (λ (l : List Report). g.done ++ surveyed e0 x0 e1 x1 l) one_more
                ∙ sym (append_assoc g.done these (surveyed e0 x0 e1 x1 (reports_at s₀ (i + 3) (count - (n + 1)))));
            wrote = placed-more start g.done these s₀ s s' at g.wrote g.place (omega (arith, g.room)) q;
            place = omega (arith, length-append g.done these, g.place);
            reached = omega arith;
            here = omega (arith, g.here);
            list0 = off.next0;
            list1 = off.next1;
            in0 = off.in0;
            in1 = off.in1;
            covers = off.covers;
            room = omega (arith, off.less, off.few, g.room);
          }

    pub surveying_all : count ≤ n → (at ≡ start + 3 * length (surveyed e0 x0 e1 x1 (reports_at s₀ from count))) × (s ≡ placed start (report_words (surveyed e0 x0 e1 x1 (reports_at s₀ from count))) s₀)
    unfolding surveyed reports_at
    surveying_all h =
        let z : count - n ≡ 0 = omega arith in
        let e : surveyed e0 x0 e1 x1 (reports_at s₀ from count) ≡ g.done = g.split ∙ ap (λ (k : ℕ). g.done ++ surveyed e0 x0 e1 x1 (reports_at s₀ i k)) z ∙ append-nil g.done in
        (rw e g.place, rw e g.wrote)
