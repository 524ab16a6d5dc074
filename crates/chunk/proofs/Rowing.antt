-- Bodies read side by side: each test on its way is what was found so far, and the test of what is left.
use Prim.Native.Nat.{ℕ, ◌<◌, ◌≤◌, ◌+◌}
use mathlib.Core.Path.{◌≡◌, refl, sym, ◌∙◌, ap}
use mathlib.Core.Bool.{Bool, true, not, ◌&&◌}
use mathlib.Core.List.{List, [], ◌∷◌}
use native.Mathlib.Omega.{arith}
use native.Mathlib.Nat.{add-zero}
use native.Mathlib.Numerals.{add-one}
use borrow.Author.Tests.{eq-eqb, ltb-true, eqb-true, le-leb}
use lib.ListN.{length, drop, get_or, drop_of_length-le}
use lib.Seq.{drop-cons}
use lib.Dec.{leb, ltb, eqb}
use lib.Bits.{bit_or, bit_xor}
use Rattle.chunk.specs.declared.Contents.{Contents}
use Rattle.chunk.specs.Entry.{every}
use Rattle.chunk.specs.Words.{well_formed, nk, nv, nt, nd, limit, table_size, size, all_or_none, ends_rise, ends_step, rises, lists, key_body, val_end_body, val_body, time_end_body, time_body, diff_end_body, diff_body}
use Rattle.chunk.specs.Contents.{Placed}
use Rattle.chunk.specs.Falls.{fall, falls_from, falls_of}
use Rattle.chunk.specs.Beside.{standing}
use Rattle.chunk.specs.Rows.{counts_up, Rows, Level, Counted}
use Rattle.chunk.proofs.Tests.{and_left, and_right, and_both, and-true, and_joins, bool_eq}
use Rattle.chunk.proofs.Counting.{marked, alone, stepped}
use Rattle.chunk.proofs.WellFormed.{Parts, parts, whole}
use Rattle.chunk.proofs.Placed.{length_keys, length_val_ends, length_vals, length_time_ends, length_times, length_diff_ends, length_diffs}
use Rattle.chunk.proofs.Falling.{once, turn, unfallen, more}

-- the falls after 0 are that of the first item, if it is one, and those among the items
before_first : (l : List ℕ) → 0 < length l → falls_from 0 l ≡ fall 0 (get_or l 0 0) + falls_of l
unfolding falls_from falls_of
before_first [] h = absurd (omega arith)
before_first (a ∷ l) h = refl

-- one diff more
pub stood : (ds : List ℕ) (i : ℕ) → i < length ds → standing (drop i ds) ≡ (not (eqb (get_or ds i 0) 0) && standing (drop (i + 1) ds))
unfolding every
stood ds i h = rw (add-one, drop-cons ds i 0)

-- ends counted so far, with a bit in `wrong` for each that is wrong
abbrev Marking : List ℕ → ℕ → ℕ → Type 0
Marking ends wrong i = counts_up ends ≡ (eqb wrong 0 && ends_rise i (drop i ends) (length ends))

pub record Reading (keys val_ends time_ends diff_ends diffs : List ℕ) (fell last vals times ends : ℕ) (good : Bool) (i : ℕ) : Type 0 where
  pub within : i ≤ length keys
  pub few : fell ≤ i
  pub falls : falls_from 0 keys ≡ fell + falls_from last (drop i keys)
  pub marks : Marking val_ends vals i
  pub time_marks : Marking time_ends times i
  pub end_marks : Marking diff_ends ends i
  pub stands : standing diffs ≡ (good && standing (drop i diffs))

module _ {keys val_ends time_ends diff_ends diffs : List ℕ} (rows : Rows keys val_ends time_ends diff_ends diffs) where
  -- one row more
  module _ {fell last vals times ends : ℕ} {good : Bool} {i : ℕ} (h : i < length keys) (r : Reading keys val_ends time_ends diff_ends diffs fell last vals times ends good i) where
    pub reading_turn : (f : ℕ) → f ≡ fall last (get_or keys i 0)
        → Reading keys val_ends time_ends diff_ends diffs (fell + f) (get_or keys i 0) (bit_or vals (bit_xor (get_or val_ends i 0) (i + 1)))
        (bit_or times (bit_xor (get_or time_ends i 0) (i + 1))) (bit_or ends (bit_xor (get_or diff_ends i 0) (i + 1))) (good && not (eqb (get_or diffs i 0) 0)) (i + 1)
    reading_turn f q =
        let v = rows.vals in let t = rows.times in let e = rows.ends in let d = rows.changes in
        record {
          within = omega arith;
          few = omega (arith, r.few, once last (get_or keys i 0));
          falls = omega (arith, r.falls, turn keys last i h);
          marks = r.marks ∙ marked val_ends i (omega arith) vals;
          time_marks = r.time_marks ∙ marked time_ends i (omega arith) times;
          end_marks = r.end_marks ∙ marked diff_ends i (omega arith) ends;
          stands = r.stands ∙ ap (λ (b : Bool). good && b) (stood diffs i (omega arith)) ∙ and_joins good _ _;
        }

  -- no row is left
  module _ {fell last vals times ends : ℕ} {good : Bool} {i : ℕ} (h : length keys ≤ i) (r : Reading keys val_ends time_ends diff_ends diffs fell last vals times ends good i) where
    at_end : i ≡ length keys
    at_end = omega (arith, r.within)

    pub keys_end : rises keys ≡ eqb fell (fall 0 (get_or keys 0 0))
    unfolding falls_from
    keys_end =
        let a : falls_from 0 keys ≡ fell = r.falls ∙ simp (drop_of_length-le keys h, add-zero) in
        let b : falls_from 0 keys ≡ fall 0 (get_or keys 0 0) + falls_of keys = before_first keys rows.some in
        unfallen keys ∙ more (fall 0 (get_or keys 0 0)) (falls_of keys) ∙ ap (λ (n : ℕ). eqb n (fall 0 (get_or keys 0 0))) (sym b ∙ a)

    marks_end : (body : List ℕ) (wrong : ℕ) → length body ≡ length keys → Marking body wrong i → counts_up body ≡ eqb wrong 0
    unfolding ends_rise
    marks_end body wrong l m = m ∙ simp (drop_of_length-le body {i = i} (omega arith), eq-eqb i (length body) (omega (arith, at_end)), and-true)

    pub vals_end : counts_up val_ends ≡ eqb vals 0
    vals_end = marks_end val_ends vals rows.vals r.marks

    pub times_end : counts_up time_ends ≡ eqb times 0
    times_end = marks_end time_ends times rows.times r.time_marks

    pub ends_end : counts_up diff_ends ≡ eqb ends 0
    ends_end = marks_end diff_ends ends rows.ends r.end_marks

    pub stands_end : standing diffs ≡ good
    unfolding every
    stands_end = let d = rows.changes in r.stands ∙ simp (drop_of_length-le diffs {i = i} (omega arith), and-true)

-- four tests say that contents are level
pub levelled : (c : Contents) → (ltb 0 c.nk && (eqb c.nk c.nv && (eqb c.nv c.nt && eqb c.nt c.nd))) ≡ true → Level c
levelled c h =
    let k : _ ≡ true = and_right (ltb 0 c.nk) _ h in
    let m : _ ≡ true = and_right (eqb c.nk c.nv) _ k in
    record {
      some = ltb-true _ _ (and_left (ltb 0 c.nk) _ h);
      vals = eqb-true _ _ (and_left (eqb c.nk c.nv) _ k);
      times = eqb-true _ _ (and_left (eqb c.nv c.nt) _ m);
      diffs = eqb-true _ _ (and_right (eqb c.nv c.nt) _ m);
    }

-- the counts of a slice, by its contents
pub alike : (f : Contents) (w : List ℕ) → Placed f w → Counted f → all_or_none (nk w) (nv w) (nt w) ≡ true
alike f w p c = rw (p.key_count, p.val_count, p.time_count) at c.alike

-- a slice whose contents are level is well formed where its rows hold
module _ (f : Contents) (w : List ℕ) (p : Placed f w) (c : Counted f) (e : Level f) where
  one : nk w ≡ nv w
  one = sym p.key_count ∙ e.vals ∙ p.val_count

  two : nv w ≡ nt w
  two = sym p.val_count ∙ e.times ∙ p.time_count

  three : nt w ≡ nd w
  three = sym p.time_count ∙ e.diffs ∙ p.diff_count

  pub level_rows : Rows (key_body w) (val_end_body w) (time_end_body w) (diff_end_body w) (diff_body w)
  level_rows =
      let k = length_keys f w p in let o = one in let t = two in let h = three in let s = e.some in
      record {
        some = omega (arith, p.key_count);
        vals = length_val_ends f w p ∙ sym k;
        times = length_time_ends f w p ∙ sym (k ∙ o);
        ends = length_diff_ends f w p ∙ sym (k ∙ o ∙ t);
        changes = length_diffs f w p ∙ sym (k ∙ o ∙ t ∙ h);
      }

  vals-alone : counts_up (val_end_body w) ≡ (ends_rise 0 (val_end_body w) (length (val_body w)) && every rises (lists 0 (val_end_body w) (val_body w)))
  vals-alone = alone (val_end_body w) (val_body w) (length_val_ends f w p ∙ one ∙ sym (length_vals f w p))

  times-alone : counts_up (time_end_body w) ≡ (ends_rise 0 (time_end_body w) (length (time_body w)) && every rises (lists 0 (time_end_body w) (time_body w)))
  times-alone = alone (time_end_body w) (time_body w) (length_time_ends f w p ∙ two ∙ sym (length_times f w p))

  ends_stepped : counts_up (diff_end_body w) ≡ ends_step 0 (diff_end_body w) (nd w)
  ends_stepped = stepped (nd w) (diff_end_body w) (length_diff_ends f w p ∙ three)

  -- the five tests of the rows
  abbrev rows_hold : Bool
  rows_hold = rises (key_body w) && (counts_up (val_end_body w) && (counts_up (time_end_body w) && (counts_up (diff_end_body w) && standing (diff_body w))))

  rows_well : rows_hold ≡ true → well_formed w ≡ true
  rows_well h =
      let h1 : _ ≡ true = and_right (rises (key_body w)) _ h in
      let h2 : _ ≡ true = and_right (counts_up (val_end_body w)) _ h1 in
      let h3 : _ ≡ true = and_right (counts_up (time_end_body w)) _ h2 in
      let v : _ ≡ true = sym vals-alone ∙ and_left (counts_up (val_end_body w)) _ h1 in
      let t : _ ≡ true = sym times-alone ∙ and_left (counts_up (time_end_body w)) _ h2 in
      whole w
      (record {
        table_fits = and_both (leb table_size (length w)) _ (le-leb _ _ p.table) (le-leb (size w) (length w) p.within);
        few = le-leb (nt w) limit (omega (arith, p.time_count, c.few));
        counts = alike f w p c;
        val_ends_rise = rw (length_vals f w p) at (and_left (ends_rise 0 (val_end_body w) (length (val_body w))) (every rises (lists 0 (val_end_body w) (val_body w))) v);
        time_ends_rise = rw (length_times f w p) at (and_left (ends_rise 0 (time_end_body w) (length (time_body w))) (every rises (lists 0 (time_end_body w) (time_body w))) t);
        keys_rise = and_left (rises (key_body w)) _ h;
        vals_rise = and_right (ends_rise 0 (val_end_body w) (length (val_body w))) _ v;
        times_rise = and_right (ends_rise 0 (time_end_body w) (length (time_body w))) _ t;
        diff_ends_step = sym ends_stepped ∙ and_left (counts_up (diff_end_body w)) _ h3;
        diffs_stand = and_right (counts_up (diff_end_body w)) _ h3;
      })

  well_rows : well_formed w ≡ true → rows_hold ≡ true
  well_rows h =
      let q : Parts w = parts w h in
      let v : counts_up (val_end_body w) ≡ true = vals-alone ∙ and_both (ends_rise 0 (val_end_body w) (length (val_body w))) _ (rw (sym (length_vals f w p)) at q.val_ends_rise) q.vals_rise in
      let t : counts_up (time_end_body w) ≡ true = times-alone ∙ and_both (ends_rise 0 (time_end_body w) (length (time_body w))) _ (rw (sym (length_times f w p)) at q.time_ends_rise) q.times_rise in
      let e : counts_up (diff_end_body w) ≡ true = ends_stepped ∙ q.diff_ends_step in
      simp (q.keys_rise, v, t, e, q.diffs_stand)

  pub level_well : (rises (key_body w) && (counts_up (val_end_body w) && (counts_up (time_end_body w) && (counts_up (diff_end_body w) && standing (diff_body w))))) ≡ well_formed w
  level_well = bool_eq rows_hold (well_formed w) rows_well well_rows
