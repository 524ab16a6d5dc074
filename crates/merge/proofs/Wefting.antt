-- The chunk of the entries that reports of times name, written layer by layer: each writer has what it asks for, and what they leave is the chunk.
use Rattle.std.proofs.Common.{◌≡◌, ℕ, ◌+◌, ◌*◌, ◌≤◌, Bool, true, List, [], ◌∷◌, ◌++◌, length, take, drop, sym, refl, ap, ◌∙◌, append_assoc, zero-add, arith, length-append, length-take-le, drop_at, le-leb}
use lib.ListN.{length-map}
use Rattle.laws.proofs.Groups.{alike-key, alike_list}
use Rattle.laws.proofs.OneChunk.{settled_stands}
use Rattle.chunk.specs.Entry.{Entry, stands, every, same_list}
use Rattle.chunk.specs.Bodies.{chunk_of, lasts_of, ends_of, same_key, keys, vals, times, diffs, val_ends, time_ends, diff_ends}
use Rattle.chunk.specs.Words.{entries, over, limit, table_size, ends_rise}
use Rattle.chunk.specs.Contents.{layout_of, with_table, table_of}
use Rattle.chunk.specs.declared.Contents.{Contents}
use Rattle.meld.proofs.Append.{raised}
use Rattle.meld.proofs.Counts.{val_ends_count, time_ends_count, diff_ends_count, times-count, keys_fewer, diffs_fewer}
use Rattle.merge.specs.declared.Spans.{Spans}
use Rattle.reports.specs.Survey.{Report}
use Rattle.reports.specs.Scratch.{placed}
use Rattle.reports.specs.Write.{items_by, entries_by, widths, AllServe, Found, Counting, RunsRoom, EndsRoom, DiffsRoom, diffs_by, diff_ends_by, layer_by}
use Rattle.reports.specs.Layered.{BodiesBy}
use Rattle.merge.specs.Weft.{Weft, Laid, key_reports, val_reports, time_reports}
use Rattle.reports.specs.Whole.{places_for, upper_of, middle_of, lower_of}
use Rattle.reports.proofs.Placing.{placed_twice, length-placed}
use Rattle.reports.proofs.Moving.{Reading, reading}
use Rattle.reports.proofs.WriteRuns.{length-named}
use Rattle.reports.proofs.WriteUnder.{found, under_serves, under_some, serves_upward, inside_serves}
use Rattle.reports.proofs.WriteEntries.{times_by, diffs_by_lem, diffs_all}
use Rattle.reports.proofs.WriteDiffEnds.{settled_rise, diff_ends_by_lem}
use Rattle.reports.proofs.Rows.{rows_of, rows_rise}
use Rattle.reports.proofs.Bodies.{bodies_by, key-count, val-count, key-itself, list_itself}

-- as many items as the reports' ranges are wide
pub length-items : {A : Type 0} (a b : List A) (rs : List Report) → AllServe (length a) (length b) rs → length (items_by a b rs) ≡ widths rs
unfolding items_by widths
length-items a b [] v = refl
length-items a b (r ∷ rs) v = length-append (Rattle.reports.specs.Write.named a b r) (items_by a b rs) ∙ (λ i. length-named a b r v.0 i + length-items a b rs v.1 i)

-- words right past others that were placed
next_placed : (at : ℕ) (ws vs out : List ℕ) {w w' : List ℕ} (at' : ℕ) → w ≡ placed at ws out → at' ≡ at + length ws → at + length ws ≤ length out → w' ≡ placed at' vs w
    → w' ≡ placed at (ws ++ vs) out
next_placed at ws vs out at' e q h f = f ∙ (λ i. placed (q i) vs (e i)) ∙ placed_twice at out ws vs h

-- the table over the front, where the bodies stand past it
table_last : (k v t d : ℕ) (b out : List ℕ) → table_size + length b ≤ length out → with_table k v t d (placed table_size b out) ≡ over (table_of k v t d ++ b) out
unfolding with_table placed
table_last k v t d b out h =
    let n : length (table_of k v t d ++ b) ≡ table_size + length b = length-append (table_of k v t d) b in
    rw (le-leb table_size (length (placed table_size b out)) (omega (arith, length-placed table_size out b h)))
    (ap (λ (l : List ℕ). table_of k v t d ++ l) (drop_at (take table_size out) (b ++ drop (table_size + length b) out) table_size (length-take-le table_size out (omega arith)))
    ∙ ap (λ (m : ℕ). table_of k v t d ++ (b ++ drop m out)) (sym n))

-- ends rise to the count of their items
pub ends-rise : (same : Entry → Entry → Bool) → Rattle.laws.proofs.Groups.Alike same → ((a : Entry) → same a a ≡ true) → (es : List Entry) → ends_rise 0 (ends_of same 0 es) (length es) ≡ true
ends-rise same alike itself es = rw (← (zero-add (length es))) (rows_rise same {n = 0} {z = es} {reps = lasts_of same es} {ends = ends_of same 0 es} (rows_of same alike itself 0 es))

all_seven : (k ve v te t x : List ℕ) → ((k ++ (ve ++ v)) ++ (te ++ t)) ++ x ≡ k ++ (ve ++ (v ++ (te ++ (t ++ x))))
all_seven k ve v te t x = simp append_assoc

raised-none : (l : List ℕ) → raised 0 l ≡ l
unfolding raised
raised-none [] = refl
raised-none (a ∷ l) = let z : a + 0 ≡ a = omega arith in rw (z, raised-none l)

-- the room is a number
pub in_room : {w0 : List ℕ} {c0 : Contents} {w1 : List ℕ} {c1 : Contents} {ks vs ts : List Report} (m n : ℕ) → m ≡ n → Laid w0 c0 w1 c1 ks vs ts n → Laid w0 c0 w1 c1 ks vs ts m
in_room m n e y = rw e y

-- what is asked, by the reports themselves
pub laid : {w0 : List ℕ} {c0 : Contents} {w1 : List ℕ} {c1 : Contents} {s : List ℕ} {p : Spans} {room : ℕ} → Weft w0 c0 w1 c1 s p room
    → Laid w0 c0 w1 c1 (key_reports s p) (val_reports s p) (time_reports s p) room
laid y = record { first = y.first; second = y.second; layered = y.layered; fits = y.fits }

-- two settled chunks, and reports that lie under each other
module _ (w0 : List ℕ) (c0 : Contents) (w1 : List ℕ) (c1 : Contents) (ks vs ts : List Report) (room : ℕ) (y : Laid w0 c0 w1 c1 ks vs ts room) where
  abbrev es : List Entry
  es = entries w0

  abbrev fs : List Entry
  fs = entries w1

  abbrev pub all : List Entry
  all = entries_by es fs ts

  r0 : Reading w0 c0
  r0 = reading w0 c0 y.first.chunk

  r1 : Reading w1 c1
  r1 = reading w1 c1 y.second.chunk

  stand0 : every stands es ≡ true
  stand0 = sym (settled_stands w0 y.first.chunk.formed) ∙ y.first.settles

  stand1 : every stands fs ≡ true
  stand1 = sym (settled_stands w1 y.second.chunk.formed) ∙ y.second.settles

  bodies : BodiesBy es fs ks vs ts
  bodies = bodies_by es fs ks vs ts y.layered

  serve_keys : AllServe (length (keys es)) (length (keys fs)) ks
  serve_keys = inside_serves 0 (length (keys es)) 0 (length (keys fs)) (length (keys es)) (length (keys fs)) ks y.layered.keys_inside (omega arith) (omega arith)

  serve_vals : AllServe (length (vals es)) (length (vals fs)) vs
  serve_vals = inside_serves 0 (length (vals es)) 0 (length (vals fs)) (length (vals es)) (length (vals fs)) vs y.layered.vals_inside (omega arith) (omega arith)

  serve_times : AllServe (length es) (length fs) ts
  serve_times = under_serves (time_ends es) (time_ends fs) (length es) (length fs) (ends-rise same_list alike_list list_itself es) (ends-rise same_list alike_list list_itself fs) vs ts y.layered.times_under

  count-keys : length (keys all) ≡ widths ks
  count-keys = ap length bodies.keys_by ∙ length-items (keys es) (keys fs) ks serve_keys

  count-vals : length (vals all) ≡ widths vs
  count-vals = ap length bodies.vals_by ∙ length-items (vals es) (vals fs) vs serve_vals

  count-times : length (times all) ≡ widths ts
  count-times = ap length (times_by es fs ts) ∙ length-items (times es) (times fs) ts (rw (times-count es, times-count fs) serve_times)

  few-keys : widths ks ≤ limit
  few-keys = omega (arith, count-keys, count-times, keys_fewer all, times-count all, y.layered.few-times)

  -- ---- the places

  pub keys-counting : Counting ks 0
  keys-counting = record { upward = serves_upward (length (keys es)) (length (keys fs)) ks serve_keys; small = omega (arith, few-keys) }

  pub vals-counting : Counting vs 0
  vals-counting = record { upward = serves_upward (length (vals es)) (length (vals fs)) vs serve_vals; small = omega (arith, y.layered.few-vals) }

  pub times-counting : Counting ts 0
  times-counting = record { upward = serves_upward (length es) (length fs) ts serve_times; small = omega (arith, y.layered.few-times) }

  pub places_are : (to : Contents) → to ≡ layout_of (widths ks) (widths vs) (widths ts) (widths ts) → to ≡ places_for all
  places_are to e = e ∙ rw (count-keys, count-vals, count-times)

  -- ---- what the writers ask for

  module _ (to : Contents) (e : to ≡ places_for all) where
    pub keys-room : (out : ℕ) → out ≡ room → RunsRoom (length (keys es)) (length (keys fs)) ks to.keys_at out
    keys-room out o = rw e (record { serves = serve_keys; fits = omega (arith, y.fits) })

    vals-found : Found (val_ends es) (val_ends fs) ks vs
    vals-found =
        found (val_ends es) (val_ends fs) (length (lasts_of same_list es)) (length (lasts_of same_list fs))
        (ends-rise same_key alike-key key-itself (lasts_of same_list es)) (ends-rise same_key alike-key key-itself (lasts_of same_list fs))
        0 0 ks vs (rw (key-count es, key-count fs) at y.layered.keys_inside) y.layered.vals_under

    times-found : Found (time_ends es) (time_ends fs) vs ts
    times-found =
        found (time_ends es) (time_ends fs) (length es) (length fs) (ends-rise same_list alike_list list_itself es) (ends-rise same_list alike_list list_itself fs)
        0 0 vs ts (rw (val-count es, val-count fs) at y.layered.vals_inside) y.layered.times_under

    -- a layer
    pub record LayerRoom (ends0 items0 ends1 items1 : List ℕ) (ls is : List Report) (edge body out : ℕ) : Type 0 where
      pub ends : EndsRoom ends0 ends1 ls is 0 edge out
      pub runs : RunsRoom (length items0) (length items1) is body out

    pub vals-room : (out : ℕ) → out ≡ room → LayerRoom (val_ends es) (vals es) (val_ends fs) (vals fs) ks vs to.val_ends_at to.vals_at out
    vals-room out o =
        record {
          ends = rw e (record { rise0 = rw r0.val_end_words at r0.val_ends-rise.rise; rise1 = rw r1.val_end_words at r1.val_ends-rise.rise; found = vals-found; counting = vals-counting; fits = omega (arith, y.fits, count-keys) });
          runs = rw e (record { serves = serve_vals; fits = omega (arith, y.fits, count-keys) });
        }

    pub times-room : (out : ℕ) → out ≡ room → LayerRoom (time_ends es) (times es) (time_ends fs) (times fs) vs ts to.time_ends_at to.times_at out
    times-room out o =
        record {
          ends = rw e (record { rise0 = rw r0.time_end_words at r0.time_ends-rise.rise; rise1 = rw r1.time_end_words at r1.time_ends-rise.rise; found = times-found; counting = times-counting; fits = omega (arith, y.fits, count-keys, count-vals) });
          runs = rw e (record { serves = rw (times-count es, times-count fs) serve_times; fits = omega (arith, y.fits, count-keys, count-vals) });
        }

    -- what they leave
    pub upper_laid_lem : (out out1 out2 : List ℕ) → length out ≡ room
        → out1 ≡ placed to.keys_at (items_by (keys es) (keys fs) ks) out
        → out2 ≡ layer_by (val_ends es) (vals es) (val_ends fs) (vals fs) ks vs to.val_ends_at to.vals_at out1
        → out2 ≡ placed table_size (upper_of all) out
    unfolding upper_of
    upper_laid_lem out out1 out2 o a b =
        let k = keys all in
        let ve = val_ends all in
        let v = vals all in
        let nve : length ve ≡ length k = val_ends_count all in
        let big : table_size + 2 * length k + length v ≤ length out = omega (arith, y.fits, count-keys, count-vals) in
        let n1 : length (k ++ ve) ≡ 2 * length k = omega (arith, length-append k ve) in
        let l1 : out1 ≡ placed table_size k out = a ∙ rw e (ap (λ (l : List ℕ). placed table_size l out) (sym bodies.keys_by)) in
        let l2 : out2 ≡ placed table_size ((k ++ ve) ++ v) out =
        next_placed table_size (k ++ ve) v out (table_size + 2 * length k) (next_placed table_size k ve out (table_size + length k) l1 refl (omega arith) refl) (omega arith) (omega arith)
        (b ∙ rw e
        (λ i. placed (table_size + 2 * length k) (sym bodies.vals_by i) (placed (table_size + length k) (sym bodies.val_ends_by i) out1))) in
        l2 ∙ ap (λ (l : List ℕ). placed table_size l out) (append_assoc k ve v)

    pub middle_laid : (out out1 : List ℕ) → length out ≡ room
        → out1 ≡ layer_by (time_ends es) (times es) (time_ends fs) (times fs) vs ts to.time_ends_at to.times_at out
        → out1 ≡ placed to.time_ends_at (middle_of all) out
    unfolding middle_of
    middle_laid out out1 o d =
        let k = keys all in
        let v = vals all in
        let nte : length (time_ends all) ≡ length v = time_ends_count all in
        let big : table_size + 2 * length k + 2 * length v ≤ length out = omega (arith, y.fits, count-keys, count-vals) in
        next_placed to.time_ends_at (time_ends all) (times all) out to.times_at refl (rw e (omega arith)) (rw e (omega arith))
        (d ∙
        (λ i. placed to.times_at (sym (times_by es fs ts) i) (placed to.time_ends_at (sym bodies.time_ends_by i) out)))

    many0 : length (diffs es) ≡ length es
    many0 = ap length (diffs_all es stand0) ∙ length-map es (λ (f : Entry). f.diff)

    many1 : length (diffs fs) ≡ length fs
    many1 = ap length (diffs_all fs stand1) ∙ length-map fs (λ (f : Entry). f.diff)

    serve_diffs : AllServe (length (diffs es)) (length (diffs fs)) ts
    serve_diffs = rw (many0, many1) serve_times

    -- the layer of the diffs
    pub diff_ends-room : (out : ℕ) → out ≡ room
        → DiffsRoom (diff_ends es) (diff_ends fs) (diffs es) (diffs fs) ts 0 to.diff_ends_at out
    diff_ends-room out o =
        rw e
        (record {
          runs = record { serves = serve_diffs; fits = omega (arith, y.fits, count-keys, count-vals, count-times) };
          some = under_some (time_ends es) (time_ends fs) (length es) (length fs) (ends-rise same_list alike_list list_itself es) (ends-rise same_list alike_list list_itself fs) vs ts y.layered.times_under;
          long0 = diff_ends_count es ∙ times-count es ∙ sym many0;
          long1 = diff_ends_count fs ∙ times-count fs ∙ sym many1;
          rise0 = settled_rise es stand0;
          rise1 = settled_rise fs stand1;
          small = omega (arith, y.layered.few-times);
        })

    pub diffs-room : (out : ℕ) → out ≡ room → RunsRoom (length (diffs es)) (length (diffs fs)) ts to.diffs_at out
    diffs-room out o =
        rw e (record { serves = serve_diffs; fits = omega (arith, y.fits, count-keys, count-vals, count-times) })

    diffs_are : diffs all ≡ diffs_by (diffs es) (diffs fs) ts
    diffs_are = diffs_by_lem es fs stand0 stand1 ts serve_times

    diff_ends_are : diff_ends all ≡ diff_ends_by (diff_ends es) (diff_ends fs) (diffs es) (diffs fs) 0 ts
    diff_ends_are =
        sym (raised-none (diff_ends (entries_by es fs ts)))
        ∙ diff_ends_by_lem es fs stand0 stand1 y.layered.few0 y.layered.few1 0 ts serve_times
        (under_some (time_ends es) (time_ends fs) (length es) (length fs) (ends-rise same_list alike_list list_itself es) (ends-rise same_list alike_list list_itself fs) vs ts y.layered.times_under)
        (omega (arith, y.layered.few-times))

    -- what they leave
    pub lower_laid_lem : (out out1 out2 : List ℕ) (end : ℕ) → length out ≡ room
        → out1 ≡ placed to.diff_ends_at (diff_ends_by (diff_ends es) (diff_ends fs) (diffs es) (diffs fs) 0 ts) out
        → end ≡ to.diffs_at + length (diffs_by (diffs es) (diffs fs) ts)
        → out2 ≡ placed to.diffs_at (diffs_by (diffs es) (diffs fs) ts) out1
        → (end ≡ to.diffs_at + length (diffs all)) × (out2 ≡ placed to.diff_ends_at (lower_of all) out)
    unfolding lower_of
    lower_laid_lem out out1 out2 end o a b d = (
      b ∙ ap (λ (l : List ℕ). to.diffs_at + length l) (sym diffs_are),
      next_placed to.diff_ends_at (diff_ends all) (diffs all) out to.diffs_at
          (a ∙ ap (λ (l : List ℕ). placed to.diff_ends_at l out) (sym diff_ends_are))
          (rw e (omega (arith, diff_ends_count all)))
          (rw e (omega (arith, diff_ends_count all, y.fits, count-keys, count-vals, count-times)))
          (d ∙ ap (λ (l : List ℕ). placed to.diffs_at l out1) (sym diffs_are)),
    )

    -- the table past all of them, and the chunk stands
    pub whole_laid : (out out1 out2 out3 out4 : List ℕ) (d : ℕ) → length out ≡ room → out1 ≡ placed table_size (upper_of all) out
        → out2 ≡ placed to.time_ends_at (middle_of all) out1 → out3 ≡ placed to.diff_ends_at (lower_of all) out2
        → d ≡ length (diffs all) → out4 ≡ with_table to.nk to.nv to.nt d out3 → out4 ≡ over (chunk_of all) out
    unfolding upper_of middle_of lower_of chunk_of
    whole_laid out out1 out2 out3 out4 d o a b f n g =
        let u = upper_of all in
        let m = middle_of all in
        let l = lower_of all in
        let upper : length u ≡ 2 * length (keys all) + length (vals all) =
        omega (arith, length-append (keys all) (val_ends all ++ vals all), length-append (val_ends all) (vals all), val_ends_count all) in
        let middle : length (u ++ m) ≡ 2 * length (keys all) + 2 * length (vals all) + length (times all) =
        omega (arith, length-append u m, length-append (time_ends all) (times all), time_ends_count all) in
        let lower : length l ≤ 2 * length (times all) = omega (arith, length-append (diff_ends all) (diffs all), diff_ends_count all, times-count all, diffs_fewer all) in
        let two : out2 ≡ placed table_size (u ++ m) out =
        next_placed table_size u m out to.time_ends_at a (rw e (omega arith)) (omega (arith, y.fits, count-keys, count-vals, count-times)) b in
        let three : out3 ≡ placed table_size ((u ++ m) ++ l) out =
        next_placed table_size (u ++ m) l out to.diff_ends_at two (rw e (omega arith)) (omega (arith, y.fits, count-keys, count-vals, count-times)) f in
        g ∙ (λ i. with_table (e i).nk (e i).nv (e i).nt (n i) (three i))
        ∙ table_last (length (keys all)) (length (vals all)) (length (times all)) (length (diffs all)) ((u ++ m) ++ l) out (omega (arith, length-append (u ++ m) l, y.fits, count-keys, count-vals, count-times))
        ∙ ap (λ (x : List ℕ). over (table_of (length (keys all)) (length (vals all)) (length (times all)) (length (diffs all)) ++ x) out) (all_seven (keys all) (val_ends all) (vals all) (time_ends all) (times all) l)
