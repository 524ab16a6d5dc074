-- Two surveyed chunks: what is left of their surveys lies layer under layer, names their merge, and fits where it is written.
use Rattle.std.proofs.Common.{◌≡◌, ℕ, zero, suc, ◌+◌, ◌-◌, ◌*◌, ◌/◌, ◌<◌, ◌≤◌, Bool, true, false, ◌&&◌, ◌||◌, eqb, ltb, List, [], ◌∷◌, ◌++◌, length, take, drop, sym, refl, ap, ◌∙◌, arith, length-append, ltb-true, lt-ltb, eq-eqb, ne_eqb, eqb-true}
use lib.ListN.{length-map}
use lib.Seq.{take-append_seam, drop-append_seam}
use Rattle.laws.proofs.Tests.{by_test, and_left, and_right, and_both, true-not-false}
use Rattle.laws.proofs.Lists.{every_imp}
use Rattle.chunk.specs.Entry.{Entry, every, before, same, same_list, rising}
use Rattle.laws.proofs.OneChunk.{front_is_chunk}
use Rattle.chunk.specs.Words.{entries, table_size, nt, nd, limit}
use Rattle.chunk.specs.declared.Contents.{Contents}
use Rattle.chunk.specs.Bodies.{lasts_of, same_key, keys, vals, times, val_ends, time_ends}
use Rattle.reports.specs.Survey.{Report, this, that, both}
use Rattle.reports.specs.Merge.{merged, survivor}
use Rattle.reports.specs.Scratch.{report_at, reports_at, Layer, Covers}
use Rattle.reports.specs.Write.{widths, entries_by}
use Rattle.merge.specs.declared.Surveys.{Surveys}
use Rattle.reports.specs.Layers.{key_survey, val_survey, time_survey}
use Rattle.merge.specs.Surveyed.{LayersSurveyed}
use Rattle.merge.specs.Weft.{key_reports, val_reports, time_reports, Weft, named}
use Rattle.reports.specs.Whole.{Whole}
use Rattle.reports.specs.Mergeable.{Mergeable, StartsIn, Trailing}
use Rattle.merge.specs.Surveyed.{Surveyed, SurveysStand, trimmed_spans}
use Rattle.reports.specs.Layered.{Layered}
use Rattle.reports.specs.Orders.{key_less, val_less}
use Rattle.reports.specs.Tail.{trimmed, trailing, survivor_by}
use Rattle.reports.specs.Woven.{Woven}
use Rattle.reports.proofs.Trimming.{ending, trimmed-take, trimmed_short, trailing_ends, ending_with_both}
use Rattle.reports.proofs.Moving.{Reading, reading}
use Rattle.merge.proofs.Layering.{Shape, shape, covers_count}
use Rattle.reports.proofs.Covering.{placed_read}
use Rattle.reports.proofs.WriteEnds.{length_reports}
use Rattle.reports.proofs.Joining.{merged_by}
use Rattle.reports.proofs.Surviving.{Stopped, stopped, survivor_by_lem}
use Rattle.reports.proofs.Groupings.{Steps}
use Rattle.reports.proofs.Weaving.{Both, parts, list_steps, key_steps, key_woven, val_woven, time_woven}
use Rattle.reports.proofs.Neighbours.{ordered, woven_covers, level_trimmed, apart-trimmed}
use Rattle.reports.proofs.Lying.{under_trimmed, inside-trimmed, widths-trimmed}
use Rattle.reports.proofs.Bodies.{key-count, val-count, fewer}

-- ---- the orders of keys and of values

module _ (lt : Entry → Entry → Bool) (lt_trans : (a b c : Entry) → lt a b ≡ true → lt b c ≡ true → lt a c ≡ true) where
  -- less than the next is less than all that follow
  steps_all : (a : Entry) (es : List Entry) → Steps lt (a ∷ es) → every (lt a) es ≡ true
  unfolding every
  steps_all a [] s = refl
  steps_all a (b ∷ es) s =
      let h : lt a b ≡ true = s 0 (omega arith) in
      and_both _ _ h (every_imp (lt b) (lt a) (λ y k. lt_trans a b y h k) es (steps_all b es (λ i k. s (suc i) (omega arith))))

  steps_ordered : (es : List Entry) → Steps lt es → ordered lt es ≡ true
  unfolding ordered
  steps_ordered [] s = refl
  steps_ordered (a ∷ es) s = and_both _ _ (steps_all a es s) (steps_ordered es (λ i k. s (suc i) (omega arith)))

key_trans : (a b c : Entry) → key_less a b ≡ true → key_less b c ≡ true → key_less a c ≡ true
key_trans a b c h k = lt-ltb a.key c.key (omega (arith, ltb-true a.key b.key h, ltb-true b.key c.key k))

key_like : (a b c : Entry) → same_key a b ≡ true → key_less a c ≡ key_less b c
key_like a b c h = ap (λ (n : ℕ). ltb n c.key) (eqb-true a.key b.key h)

key_unlike : (a b : Entry) → key_less a b ≡ true → same_key a b ≡ false
key_unlike a b h = ne_eqb a.key b.key (λ e. let l : a.key < b.key = ltb-true _ _ h in omega arith)

-- a lesser list, by its key or by its value
data Less (a b : Entry) : Type 0 where
  by_key : a.key < b.key → Less a b
  by_val : a.key ≡ b.key → a.val < b.val → Less a b

less : (a b : Entry) → val_less a b ≡ true → Less a b
less a b h =
    by_test (ltb a.key b.key)
    (λ k. by_key (ltb-true _ _ k))
    (λ k. let h1 : (eqb a.key b.key && ltb a.val b.val) ≡ true = rw k at h in
    by_val (eqb-true _ _ (and_left _ _ h1)) (ltb-true _ _ (and_right (eqb a.key b.key) _ h1)))

or-true : (a : Bool) → (a || true) ≡ true
or-true true = refl
or-true false = refl

of_less : (a b : Entry) → Less a b → val_less a b ≡ true
of_less a b (by_key k) = rw (lt-ltb _ _ k)
of_less a b (by_val k v) = rw (eq-eqb _ _ k, lt-ltb _ _ v) (or-true (ltb a.key b.key))

less_trans : (a b c : Entry) → Less a b → Less b c → Less a c
less_trans a b c (by_key h) (by_key k) = by_key (omega arith)
less_trans a b c (by_key h) (by_val k v) = by_key (omega arith)
less_trans a b c (by_val h w) (by_key k) = by_key (omega arith)
less_trans a b c (by_val h w) (by_val k v) = by_val (omega arith) (omega arith)

less_unlike : (a b : Entry) → Less a b → Both a b → ⊥
less_unlike a b (by_key k) e = omega (arith, e.key)
less_unlike a b (by_val k v) e = omega (arith, e.val)

val_trans : (a b c : Entry) → val_less a b ≡ true → val_less b c ≡ true → val_less a c ≡ true
val_trans a b c h k = of_less a c (less_trans a b c (less a b h) (less b c k))

val_like : (a b c : Entry) → same_list a b ≡ true → val_less a c ≡ val_less b c
val_like a b c h = let e : Both a b = parts a b h in rw (e.key, e.val)

val_unlike : (a b : Entry) → val_less a b ≡ true → same_list a b ≡ false
val_unlike a b h = by_test (same_list a b) (λ k. absurd (less_unlike a b (less a b h) (parts a b k))) (λ k. k)

-- ---- two lists of entries

module _ (es fs : List Entry) where
  pub keys_cover : Covers (length (keys es)) (length (keys fs)) 0 0 (key_survey es fs)
  keys_cover =
      rw (length-map (lasts_of same_key es) (λ (e : Entry). e.key), length-map (lasts_of same_key fs) (λ (e : Entry). e.key))
      (woven_covers key_less same_key (lasts_of same_key es) (lasts_of same_key fs) 0 0 (key_survey es fs) (key_woven es fs))

  key_lists_cover : Covers (length (val_ends es)) (length (val_ends fs)) 0 0 (key_survey es fs)
  key_lists_cover = rw (key-count es, key-count fs) at keys_cover

  module _ (h : rising es ≡ true) (k : rising fs ≡ true) where
    pub vals_cover : Covers (length (vals es)) (length (vals fs)) 0 0 (val_survey es fs)
    vals_cover =
        rw (length-map (lasts_of same_list es) (λ (e : Entry). e.val), length-map (lasts_of same_list fs) (λ (e : Entry). e.val))
        (woven_covers val_less same_list (lasts_of same_list es) (lasts_of same_list fs) 0 0 (val_survey es fs) (val_woven es fs h k))

    val_lists_cover : Covers (length (time_ends es)) (length (time_ends fs)) 0 0 (val_survey es fs)
    val_lists_cover = rw (val-count es, val-count fs) at vals_cover

    pub times_cover : Covers (length es) (length fs) 0 0 (time_survey es fs)
    times_cover = woven_covers before same es fs 0 0 (time_survey es fs) (time_woven es fs h k)

    few-vals : length (vals es) + length (vals fs) ≤ length es + length fs
    few-vals =
        omega (
          arith,
          length-map (lasts_of same_list es) (λ (e : Entry). e.val),
          length-map (lasts_of same_list fs) (λ (e : Entry). e.val),
          fewer es,
          fewer fs,
        )

    pub layered-trimmed : Layer (val_ends es) (vals es) → Layer (time_ends es) (times es) → Layer (val_ends fs) (vals fs) → Layer (time_ends fs) (times fs)
        → length es + length fs ≤ limit → Layered es fs (trimmed (key_survey es fs)) (trimmed (val_survey es fs)) (trimmed (time_survey es fs))
    unfolding val_survey time_survey
    layered-trimmed v0 t0 v1 t1 l =
        record {
          vals_under =
              under_trimmed (val_ends es) (vals es) (val_ends fs) (vals fs) v0 v1 0 0 (key_survey es fs) key_lists_cover;
          times_under =
              under_trimmed (time_ends es) (times es) (time_ends fs) (times fs) t0 t1 0 0 (val_survey es fs) val_lists_cover;
          keys_inside = inside-trimmed (length (keys es)) (length (keys fs)) 0 0 (key_survey es fs) keys_cover;
          vals_inside = inside-trimmed (length (vals es)) (length (vals fs)) 0 0 (val_survey es fs) vals_cover;
          keys_level = level_trimmed key_less same_key (lasts_of same_key es) (lasts_of same_key fs) 0 0 (key_survey es fs) (key_woven es fs);
          vals_level = level_trimmed val_less same_list (lasts_of same_list es) (lasts_of same_list fs) 0 0 (val_survey es fs) (val_woven es fs h k);
          keys-apart =
              apart-trimmed key_less same_key (lasts_of same_key es) (lasts_of same_key fs) key_trans key_like key_unlike (key_survey es fs) (key_woven es fs)
              (steps_ordered key_less key_trans (lasts_of same_key es) (key_steps es h)) (steps_ordered key_less key_trans (lasts_of same_key fs) (key_steps fs k));
          vals-apart =
              apart-trimmed val_less same_list (lasts_of same_list es) (lasts_of same_list fs) val_trans val_like val_unlike (val_survey es fs) (val_woven es fs h k)
              (steps_ordered val_less val_trans (lasts_of same_list es) (list_steps es h)) (steps_ordered val_less val_trans (lasts_of same_list fs) (list_steps fs k));
          few-vals = omega (arith, widths-trimmed (length (vals es)) (length (vals fs)) 0 0 (val_survey es fs) vals_cover, few-vals);
          few-times = omega (arith, widths-trimmed (length es) (length fs) 0 0 (time_survey es fs) times_cover);
          few0 = omega arith;
          few1 = omega arith;
        }

-- ---- reports at the front of others, and those that follow

reports_take : (s : List ℕ) (at m n : ℕ) → m ≤ n → reports_at s at m ≡ take m (reports_at s at n)
unfolding reports_at
reports_take s at zero n h = refl
reports_take s at (suc m) zero h = absurd (omega arith)
reports_take s at (suc m) (suc n) h = ap (λ (l : List Report). report_at s at ∷ l) (reports_take s (at + 3) m n (omega arith))

reports_drop : (s : List ℕ) (at m n : ℕ) → reports_at s (at + 3 * m) n ≡ drop m (reports_at s at (m + n))
unfolding reports_at
reports_drop s at zero n =
    let p : at + 3 * 0 ≡ at = omega arith in
    let q : n ≡ 0 + n = omega arith in
    λ i. reports_at s (p i) (q i)
reports_drop s at (suc m) n =
    let p : at + 3 * suc m ≡ at + 3 + 3 * m = omega arith in
    let q : suc (m + n) ≡ suc m + n = omega arith in
    ap (λ (x : ℕ). reports_at s x n) p ∙ reports_drop s (at + 3) m n ∙ ap (λ (k : ℕ). drop (suc m) (reports_at s at k)) q

-- fewer are left than there are
left_count : (s : List ℕ) (at n : ℕ) → length (trimmed (reports_at s at n)) ≤ n
left_count s at n = omega (arith, trimmed_short (reports_at s at n), length_reports s at n)

-- what is left stands where the reports do
reports_left : (s : List ℕ) (at n : ℕ) → reports_at s at (length (trimmed (reports_at s at n))) ≡ trimmed (reports_at s at n)
reports_left s at n =
    reports_take s at (length (trimmed (reports_at s at n))) n (left_count s at n) ∙ sym (trimmed-take (reports_at s at n))

-- and what trails follows it
reports_trail : (s : List ℕ) (at n k : ℕ) → length (trimmed (reports_at s at n)) + k ≡ n
    → reports_at s (at + 3 * length (trimmed (reports_at s at n))) k ≡ trailing (reports_at s at n)
unfolding trailing
reports_trail s at n k e =
    reports_drop s at (length (trimmed (reports_at s at n))) k
    ∙ ap (λ (m : ℕ). drop (length (trimmed (reports_at s at n))) (reports_at s at m)) e

-- reports in two parts
record InParts (s : List ℕ) (at : ℕ) (a b : List Report) : Type 0 where
  front : reports_at s at (length a) ≡ a
  back : reports_at s (at + 3 * length a) (length b) ≡ b

in_parts : (s : List ℕ) (at : ℕ) (a b : List Report) → reports_at s at (length (a ++ b)) ≡ a ++ b → InParts s at a b
in_parts s at a b h =
    let n : length (a ++ b) ≡ length a + length b = length-append a b in
    let k : reports_at s at (length a + length b) ≡ a ++ b = ap (reports_at s at) (sym n) ∙ h in
    record {
      front = reports_take s at (length a) (length a + length b) (omega arith) ∙ ap (take (length a)) k ∙ take-append_seam a b;
      back = reports_drop s at (length a) (length b) ∙ ap (drop (length a)) k ∙ drop-append_seam a b;
    }

-- ---- a settled chunk

-- what its contents say of its entries
pub record Counted (w : List ℕ) (c : Contents) : Type 0 where
  pub rise : rising (entries w) ≡ true
  pub counted : length (entries w) ≡ c.nt
  pub shaped : Shape w c
  pub sized : c.size ≡ table_size + 2 * c.nk + 2 * c.nv + 3 * c.nt
  pub table : c.keys_at ≡ table_size

pub counts : (w : List ℕ) (c : Contents) → Whole w c → Counted w c
counts w c y =
    let r : Reading w c = reading w c y.chunk in
    let d : nd w ≡ nt w = eqb-true (nd w) (nt w) y.settles in
    record {
      rise = (front_is_chunk w y.chunk.formed).rise;
      counted = r.counted;
      shaped = shape w c y.chunk;
      sized =
          omega (
            arith,
            r.key_placed,
            r.val_end_place,
            r.val_placed,
            r.time_end_place,
            r.time_placed,
            r.diff_end_place,
            r.diff_place,
            r.end_place,
            r.its_times,
            r.its_diffs,
          );
      table = r.key_placed;
    }

-- ---- two surveyed chunks

-- trailing runs start at an entry
trailing-starts : (es fs : List Entry) (rs : List Report) → Stopped es fs rs → ending rs ≡ true → StartsIn es fs rs
trailing-starts es fs [] p e = record {}
trailing-starts es fs (this l h ∷ rs) p e = let w : Woven before same es fs p.i p.j (this l h ∷ rs) = p.woven in omega (arith, w.1, w.2)
trailing-starts es fs (that l h ∷ rs) p e = let w : Woven before same es fs p.i p.j (that l h ∷ rs) = p.woven in omega (arith, w.1, w.2)
trailing-starts es fs (both i j ∷ rs) p e = absurd (true-not-false (sym e ∙ ending_with_both i j rs))

module _ (w0 : List ℕ) (c0 : Contents) (w1 : List ℕ) (c1 : Contents) (s : List ℕ) (r : Surveys) (y : Surveyed w0 c0 w1 c1 s r) where
  abbrev es : List Entry
  es = entries w0

  abbrev fs : List Entry
  fs = entries w1

  k0 : Counted w0 c0
  k0 = counts w0 c0 y.first

  k1 : Counted w1 c1
  k1 = counts w1 c1 y.second

  key_left : key_reports s (trimmed_spans s r) ≡ trimmed (key_survey es fs)
  key_left = reports_left s 0 (r.keys / 3) ∙ ap trimmed y.keys_surveyed

  val_left : val_reports s (trimmed_spans s r) ≡ trimmed (val_survey es fs)
  val_left = reports_left s r.keys ((r.vals - r.keys) / 3) ∙ ap trimmed y.vals_surveyed

  time_left : time_reports s (trimmed_spans s r) ≡ trimmed (time_survey es fs)
  time_left = reports_left s r.vals ((r.times - r.vals) / 3) ∙ ap trimmed y.times_surveyed

  times-woven : Woven before same es fs 0 0 (time_survey es fs)
  times-woven = time_woven es fs k0.rise k1.rise

  some_first : 0 < length es
  some_first = omega (arith, k0.counted, y.some0)

  some-second : 0 < length fs
  some-second = omega (arith, k1.counted, y.some1)

  its_layers : Layered es fs (trimmed (key_survey es fs)) (trimmed (val_survey es fs)) (trimmed (time_survey es fs))
  its_layers =
      layered-trimmed es fs k0.rise k1.rise k0.shaped.val_layer k0.shaped.time_layer k1.shaped.val_layer k1.shaped.time_layer
      (omega (arith, k0.counted, k1.counted, y.few))

  key_width : widths (trimmed (key_survey es fs)) ≤ c0.nk + c1.nk
  key_width =
      omega (
        arith,
        widths-trimmed (length (keys es)) (length (keys fs)) 0 0 (key_survey es fs) (keys_cover es fs),
        k0.shaped.key-count,
        k1.shaped.key-count,
      )

  val_width : widths (trimmed (val_survey es fs)) ≤ c0.nv + c1.nv
  val_width =
      omega (
        arith,
        widths-trimmed (length (vals es)) (length (vals fs)) 0 0 (val_survey es fs) (vals_cover es fs k0.rise k1.rise),
        k0.shaped.val-count,
        k1.shaped.val-count,
      )

  time_width : widths (trimmed (time_survey es fs)) ≤ c0.nt + c1.nt
  time_width =
      omega (
        arith,
        widths-trimmed (length es) (length fs) 0 0 (time_survey es fs) (times_cover es fs k0.rise k1.rise),
        k0.counted,
        k1.counted,
      )

  -- the surveys stand one past the other
  pub surveyed_stand : SurveysStand s r
  surveyed_stand = record { keys-vals = omega (arith, y.past_vals); vals-times = omega (arith, y.past_times); stand = y.stand }

  -- what is left of them is what a chunk is written from
  pub surveyed_weft : (room : ℕ) → c0.size + (c1.size - c1.keys_at) ≤ room → Weft w0 c0 w1 c1 s (trimmed_spans s r) room
  surveyed_weft room h =
      record {
        first = y.first;
        second = y.second;
        keys_stand = omega (arith, left_count s 0 (r.keys / 3), y.stand, surveyed_stand.keys-vals, surveyed_stand.vals-times);
        vals_stand = omega (arith, left_count s r.keys ((r.vals - r.keys) / 3), y.stand, surveyed_stand.keys-vals, surveyed_stand.vals-times);
        times_stand = omega (arith, left_count s r.vals ((r.times - r.vals) / 3), y.stand, surveyed_stand.vals-times);
        layered = rw (key_left, val_left, time_left) its_layers;
        fits = rw (key_left, val_left, time_left) (omega (arith, key_width, val_width, time_width, k0.sized, k1.sized, k1.table));
      }

  -- it names the merge
  pub surveyed_merged : named w0 w1 s (trimmed_spans s r) ≡ merged es fs
  unfolding named
  surveyed_merged =
      ap (entries_by es fs) time_left ∙ merged_by es fs (time_survey es fs) times-woven k0.rise k1.rise some_first some-second

  -- and the reports after it are the runs that the times end with
  pub surveyed_trailing : Trailing w0 c0 w1 c1 (trailing (time_survey es fs))
  surveyed_trailing =
      record {
        first = y.first.chunk;
        second = y.second.chunk;
        starts = trailing-starts es fs (trailing (time_survey es fs)) (stopped es fs 0 0 (time_survey es fs) times-woven) (trailing_ends (time_survey es fs));
      }

  pub surveyed_survivor : survivor_by es fs (trailing (time_survey es fs)) ≡ survivor es fs
  surveyed_survivor = sym (survivor_by_lem es fs (time_survey es fs) times-woven k0.rise k1.rise some_first some-second)

-- ---- the scratch after the surveys

module _ (w0 : List ℕ) (c0 : Contents) (w1 : List ℕ) (c1 : Contents) (s s' : List ℕ) (room : ℕ) (r : Surveys)
    (y : Mergeable w0 c0 w1 c1 (length s) room) (g : LayersSurveyed (entries w0) (entries w1) s s' r) where
  abbrev KS : List Report
  KS = key_survey (entries w0) (entries w1)

  abbrev VS : List Report
  VS = val_survey (entries w0) (entries w1)

  abbrev TS : List Report
  TS = time_survey (entries w0) (entries w1)

  m0 : Counted w0 c0
  m0 = counts w0 c0 y.first

  m1 : Counted w1 c1
  m1 = counts w1 c1 y.second

  few-keys : length KS ≤ c0.nk + c1.nk
  few-keys =
      omega (
        arith,
        covers_count (length (keys (entries w0))) (length (keys (entries w1))) 0 0 KS (omega arith) (omega arith) (keys_cover (entries w0) (entries w1)),
        m0.shaped.key-count,
        m1.shaped.key-count,
      )

  few_values : length VS ≤ c0.nv + c1.nv
  few_values =
      omega (
        arith,
        covers_count (length (vals (entries w0))) (length (vals (entries w1))) 0 0 VS (omega arith) (omega arith)
            (vals_cover (entries w0) (entries w1) m0.rise m1.rise),
        m0.shaped.val-count,
        m1.shaped.val-count,
      )

  few-times : length TS ≤ c0.nt + c1.nt
  few-times =
      omega (
        arith,
        covers_count (length (entries w0)) (length (entries w1)) 0 0 TS (omega arith) (omega arith)
            (times_cover (entries w0) (entries w1) m0.rise m1.rise),
        m0.counted,
        m1.counted,
      )

  all_read : reports_at s' 0 (length ((KS ++ VS) ++ TS)) ≡ (KS ++ VS) ++ TS
  all_read = ap (λ (l : List ℕ). reports_at l 0 (length ((KS ++ VS) ++ TS))) g.holds ∙ placed_read 0 ((KS ++ VS) ++ TS) s (omega arith)

  lower : InParts s' 0 (KS ++ VS) TS
  lower = in_parts s' 0 (KS ++ VS) TS all_read

  upper : InParts s' 0 KS VS
  upper = in_parts s' 0 KS VS lower.front

  -- what survey_layers leaves is two surveyed chunks
  pub layers_surveyed : length s' ≡ length s → Surveyed w0 c0 w1 c1 s' r
  layers_surveyed e =
      let n : r.keys / 3 ≡ length KS = omega (arith, g.past_keys) in
      let v : (r.vals - r.keys) / 3 ≡ length VS = omega (arith, g.past_vals) in
      let t : (r.times - r.vals) / 3 ≡ length TS = omega (arith, g.past_times) in
      let p : r.keys ≡ 0 + 3 * length KS = omega (arith, g.past_keys) in
      let q : r.vals ≡ 0 + 3 * length (KS ++ VS) = omega (arith, g.past_keys, g.past_vals, length-append KS VS) in
      record {
        first = y.first;
        second = y.second;
        some0 = y.some0;
        some1 = y.some1;
        few = y.few;
        past_keys = g.past_keys;
        past_vals = g.past_vals;
        past_times = g.past_times;
        stand = omega (arith, g.past_keys, g.past_vals, g.past_times, few-keys, few_values, few-times, y.wide);
        keys_surveyed = ap (reports_at s' 0) n ∙ upper.front;
        vals_surveyed = (λ i. reports_at s' (p i) (v i)) ∙ upper.back;
        times_surveyed = (λ i. reports_at s' (q i) (t i)) ∙ lower.back;
      }
