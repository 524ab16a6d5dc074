-- The surveys of three layers fit the scratch that is asked for, and each is read as it was written.
use Rattle.std.proofs.Common.{◌≡◌, ℕ, suc, ◌+◌, ◌-◌, ◌*◌, ◌/◌, ◌≤◌, List, [], ◌∷◌, ◌++◌, length, sym, ap, ◌∙◌, arith}
use lib.Seq.{take-length}
use Rattle.chunk.specs.Entry.{Entry}
use Rattle.chunk.specs.Words.{entries, rises}
use Rattle.chunk.specs.Bodies.{keys, vals, times, val_ends, time_ends}
use Rattle.chunk.specs.declared.Contents.{Contents}
use Rattle.chunk.proofs.WellFormed.{Parts, parts}
use Rattle.laws.proofs.Layers.{Seven, of_entries}
use Rattle.laws.proofs.Frame.{in_words}
use Rattle.laws.proofs.OneChunk.{bodies_in}
use Rattle.reports.specs.Survey.{Report, this, that, both}
use Rattle.reports.specs.Gallop.{between, Rises}
use Rattle.reports.specs.Scratch.{placed, report_words, reports_at, pair_of, PairRoom, surveyed, Layer, Covers, SurveyRoom}
use Rattle.reports.specs.Read.{Read}
use Rattle.reports.specs.Layers.{key_survey, val_survey, time_survey, LayersRoom}
use Rattle.merge.specs.Surveyed.{LayersSurveyed}
use Rattle.reports.proofs.Galloping.{length-between}
use Rattle.reports.proofs.Placing.{length-placed}
use Rattle.reports.proofs.Words.{length_words, placed-more}
use Rattle.reports.proofs.Moving.{Reading, reading}
use Rattle.reports.proofs.Covering.{pair_covers, survey_covers, layer_of, placed_read}

-- reports are no more than the items that they name
pub covers_count : (n m i j : ℕ) (rs : List Report) → i ≤ n → j ≤ m → Covers n m i j rs → length rs ≤ n - i + (m - j)
covers_count n m i j [] a b c = omega arith
covers_count n m i j (this l h ∷ rs) a b c = omega (arith, covers_count n m h j rs c.2 b c.3, c.0, c.1, c.2)
covers_count n m i j (that l h ∷ rs) a b c = omega (arith, covers_count n m i h rs a c.2 c.3, c.0, c.1, c.2)
covers_count n m i j (both x y ∷ rs) a b c = omega (arith, covers_count n m (suc i) (suc j) rs c.2 c.3 c.4, c.2, c.3)

-- the layers of one chunk
pub record Shape (w : List ℕ) (c : Contents) : Type 0 where
  pub key-count : length (keys (entries w)) ≡ c.nk
  pub val_end_count : length (val_ends (entries w)) ≡ c.nk
  pub val-count : length (vals (entries w)) ≡ c.nv
  pub time_end_count : length (time_ends (entries w)) ≡ c.nv
  pub time-count : length (times (entries w)) ≡ c.nt
  pub keys-rise : Rises (keys (entries w)) 0 c.nk
  pub val_layer : Layer (val_ends (entries w)) (vals (entries w))
  pub time_layer : Layer (time_ends (entries w)) (times (entries w))

pub shape : (w : List ℕ) (c : Contents) → Read w c → Shape w c
shape w c d =
    let r : Reading w c = reading w c d in
    let p : Parts w = parts w d.formed in
    let b : of_entries (entries w) ≡ in_words w = bodies_in w d.formed in
    let k : length (keys (entries w)) ≡ c.nk = ap length (sym r.key_words) ∙ length-between c.keys_at c.val_ends_at w (omega (arith, r.val_placed, r.time_end_place, r.time_placed, r.diff_end_place, r.diff_place, r.end_place, r.whole)) ∙ omega (arith, r.val_end_place) in
    let v : length (vals (entries w)) ≡ c.nv = ap length (sym r.val_words) ∙ length-between c.vals_at c.time_ends_at w (omega (arith, r.time_placed, r.diff_end_place, r.diff_place, r.end_place, r.whole)) ∙ omega (arith, r.time_end_place) in
    let t : length (times (entries w)) ≡ c.nt = ap length (sym r.time_words) ∙ length-between c.times_at c.diff_ends_at w (omega (arith, r.diff_place, r.end_place, r.whole)) ∙ omega (arith, r.diff_end_place) in
    record {
      key-count = k;
      val_end_count = ap length (sym r.val_end_words) ∙ length-between c.val_ends_at c.vals_at w (omega (arith, r.time_end_place, r.time_placed, r.diff_end_place, r.diff_place, r.end_place, r.whole)) ∙ omega (arith, r.val_placed);
      val-count = v;
      time_end_count = ap length (sym r.time_end_words) ∙ length-between c.time_ends_at c.times_at w (omega (arith, r.diff_end_place, r.diff_place, r.end_place, r.whole)) ∙ omega (arith, r.time_placed);
      time-count = t;
      keys-rise = record { ordered = omega arith; within = omega arith; rise = ap rises (all_of (keys (entries w)) c.nk k ∙ ap (λ (s : Seven). s.key_list) b) ∙ p.keys_rise };
      val_layer = layer_of (val_ends (entries w)) (vals (entries w)) c.nv (rw (r.its_vals, ap (λ (s : Seven). s.val_end_list) b) p.val_ends_rise) (rw (ap (λ (s : Seven). s.val_end_list) b, ap (λ (s : Seven). s.val_list) b) p.vals_rise) v;
      time_layer = layer_of (time_ends (entries w)) (times (entries w)) c.nt (rw (r.its_times, ap (λ (s : Seven). s.time_end_list) b) p.time_ends_rise) (rw (ap (λ (s : Seven). s.time_end_list) b, ap (λ (s : Seven). s.time_list) b) p.times_rise) t;
    }
  where
    all_of : (l : List ℕ) (n : ℕ) → length l ≡ n → between 0 n l ≡ l
    all_of l n e = let z : n - 0 ≡ length l = omega arith in rw z (take-length l)

module _ (w0 : List ℕ) (c0 : Contents) (w1 : List ℕ) (c1 : Contents) (s : List ℕ) (y : LayersRoom w0 c0 w1 c1 s) where
  abbrev es : List Entry
  es = entries w0

  abbrev fs : List Entry
  fs = entries w1

  h0 : Shape w0 c0
  h0 = shape w0 c0 y.first

  h1 : Shape w1 c1
  h1 = shape w1 c1 y.second

  pub keys-room : (x0 x1 : List ℕ) → x0 ≡ keys es → x1 ≡ keys fs → PairRoom x0 0 (length x0) x1 0 (length x1) s 0
  keys-room x0 x1 a b =
      rw (a, b)
      (record {
        rise0 = rw h0.key-count h0.keys-rise;
        rise1 = rw h1.key-count h1.keys-rise;
        room = omega (arith, y.room, h0.key-count, h1.key-count);
      })

  pub record KeysDone (s1 : List ℕ) (a : ℕ) : Type 0 where
    pub place : a ≡ 3 * length (key_survey es fs)
    pub holds : s1 ≡ placed 0 (report_words (key_survey es fs)) s

  pub keys_done : (x0 x1 s1 : List ℕ) (a : ℕ) → x0 ≡ keys es → x1 ≡ keys fs → a ≡ 0 + 3 * length (pair_of x0 0 (length x0) x1 0 (length x1))
      → s1 ≡ placed 0 (report_words (pair_of x0 0 (length x0) x1 0 (length x1))) s → KeysDone s1 a
  unfolding key_survey
  keys_done x0 x1 s1 a e f p q = record { place = omega (arith, rw (e, f) at p); holds = rw (e, f) at q }

  key_covers : Covers (length (val_ends es)) (length (val_ends fs)) 0 0 (key_survey es fs)
  unfolding key_survey
  key_covers =
      rw (h0.val_end_count ∙ sym h0.key-count, h1.val_end_count ∙ sym h1.key-count)
      (pair_covers (keys es) 0 (length (keys es)) (keys fs) 0 (length (keys fs)) (omega arith) (omega arith) (omega arith) (omega arith))

  few-keys : length (key_survey es fs) ≤ c0.nk + c1.nk
  few-keys = omega (arith, covers_count (length (val_ends es)) (length (val_ends fs)) 0 0 (key_survey es fs) (omega arith) (omega arith) key_covers, h0.val_end_count, h1.val_end_count)

  val_covers : Covers (length (vals es)) (length (vals fs)) 0 0 (val_survey es fs)
  unfolding val_survey
  val_covers = survey_covers (val_ends es) (vals es) (val_ends fs) (vals fs) h0.val_layer h1.val_layer 0 0 (key_survey es fs) (omega arith) (omega arith) key_covers

  few-vals : length (val_survey es fs) ≤ c0.nv + c1.nv
  few-vals = omega (arith, covers_count (length (vals es)) (length (vals fs)) 0 0 (val_survey es fs) (omega arith) (omega arith) val_covers, h0.val-count, h1.val-count)

  module _ (s1 : List ℕ) (a : ℕ) (d : KeysDone s1 a) where
    long1 : length s1 ≡ length s
    long1 = ap length d.holds ∙ length-placed 0 s (report_words (key_survey es fs)) (omega (arith, length_words (key_survey es fs), few-keys, y.room))

    read_keys : reports_at s1 0 (a / 3) ≡ key_survey es fs
    read_keys =
        let n : a / 3 ≡ length (key_survey es fs) = omega (arith, d.place) in
        ap (reports_at s1 0) n ∙ ap (λ (l : List ℕ). reports_at l 0 (length (key_survey es fs))) d.holds ∙ placed_read 0 (key_survey es fs) s (omega arith)

    pub vals-room : (e0 x0 e1 x1 : List ℕ) → e0 ≡ val_ends es → x0 ≡ vals es → e1 ≡ val_ends fs → x1 ≡ vals fs → SurveyRoom e0 x0 e1 x1 s1 0 (a / 3) a
    vals-room e0 x0 e1 x1 p q r t =
        rw (p, q, r, t)
        (record {
          layer0 = h0.val_layer;
          layer1 = h1.val_layer;
          covers = rw read_keys key_covers;
          before = omega arith;
          room = omega (arith, d.place, few-keys, y.room, long1, h0.val-count, h1.val-count);
        })

    pub record ValsDone (s2 : List ℕ) (b : ℕ) : Type 0 where
      pub place : b ≡ a + 3 * length (val_survey es fs)
      pub holds : s2 ≡ placed a (report_words (val_survey es fs)) s1

    pub vals_done : (e0 x0 e1 x1 s2 : List ℕ) (b : ℕ) → e0 ≡ val_ends es → x0 ≡ vals es → e1 ≡ val_ends fs → x1 ≡ vals fs
        → b ≡ a + 3 * length (surveyed e0 x0 e1 x1 (reports_at s1 0 (a / 3))) → s2 ≡ placed a (report_words (surveyed e0 x0 e1 x1 (reports_at s1 0 (a / 3)))) s1 → ValsDone s2 b
    unfolding val_survey
    vals_done e0 x0 e1 x1 s2 b p q r t u v = record { place = rw (p, q, r, t, read_keys) at u; holds = rw (p, q, r, t, read_keys) at v }

    module _ (s2 : List ℕ) (b : ℕ) (g : ValsDone s2 b) where
      long2 : length s2 ≡ length s
      long2 = ap length g.holds ∙ length-placed a s1 (report_words (val_survey es fs)) (omega (arith, length_words (val_survey es fs), few-vals, few-keys, d.place, y.room, long1)) ∙ long1

      read_vals : reports_at s2 a ((b - a) / 3) ≡ val_survey es fs
      read_vals =
          let n : (b - a) / 3 ≡ length (val_survey es fs) = omega (arith, g.place) in
          ap (reports_at s2 a) n ∙ ap (λ (l : List ℕ). reports_at l a (length (val_survey es fs))) g.holds
          ∙ placed_read a (val_survey es fs) s1 (omega (arith, d.place, few-keys, y.room, long1))

      time_covers : Covers (length (time_ends es)) (length (time_ends fs)) 0 0 (val_survey es fs)
      time_covers = rw (h0.time_end_count ∙ sym h0.val-count, h1.time_end_count ∙ sym h1.val-count) val_covers

      pub times-room : (e0 x0 e1 x1 : List ℕ) → e0 ≡ time_ends es → x0 ≡ times es → e1 ≡ time_ends fs → x1 ≡ times fs → SurveyRoom e0 x0 e1 x1 s2 a ((b - a) / 3) b
      times-room e0 x0 e1 x1 p q r t =
          rw (p, q, r, t)
          (record {
            layer0 = h0.time_layer;
            layer1 = h1.time_layer;
            covers = rw read_vals time_covers;
            before = omega (arith, g.place);
            room = omega (arith, g.place, d.place, few-keys, few-vals, y.room, long2, h0.time-count, h1.time-count);
          })

      pub times_done : (e0 x0 e1 x1 s3 : List ℕ) (k : ℕ) → e0 ≡ time_ends es → x0 ≡ times es → e1 ≡ time_ends fs → x1 ≡ times fs
          → k ≡ b + 3 * length (surveyed e0 x0 e1 x1 (reports_at s2 a ((b - a) / 3))) → s3 ≡ placed b (report_words (surveyed e0 x0 e1 x1 (reports_at s2 a ((b - a) / 3)))) s2
          → LayersSurveyed es fs s s3 (record { keys = a; vals = b; times = k })
      unfolding time_survey
      times_done e0 x0 e1 x1 s3 k p q r t u v =
          let both : s2 ≡ placed 0 (report_words (key_survey es fs ++ val_survey es fs)) s =
          placed-more 0 (key_survey es fs) (val_survey es fs) s s1 s2 a d.holds (omega (arith, d.place)) (omega (arith, d.place, few-keys, y.room)) g.holds in
          let at : b ≡ 0 + 3 * length (key_survey es fs ++ val_survey es fs) = omega (arith, lib.ListN.length-append (key_survey es fs) (val_survey es fs), d.place, g.place) in
          record {
            past_keys = d.place;
            past_vals = g.place;
            past_times = rw (p, q, r, t, read_vals) at u;
            holds = placed-more 0 (key_survey es fs ++ val_survey es fs) (time_survey es fs) s s2 s3 b both at (omega (arith, d.place, g.place, few-keys, few-vals, y.room)) (rw (p, q, r, t, read_vals) at v);
          }
