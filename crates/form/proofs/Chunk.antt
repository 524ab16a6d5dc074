-- All entries stored after the table are their chunk over the output, the words past it unchanged.
use Rattle.std.proofs.Common.{◌≡◌, ℕ, suc, ◌+◌, ◌-◌, ◌*◌, ◌≤◌, Bool, true, false, cond, List, [], ◌∷◌, ◌++◌, length, take, drop, sym, refl, ap, ◌∙◌, append_assoc, arith, length-append, length-drop, take-append-drop, length-take-le, drop-drop}
use Rattle.chunk.specs.Contents.{layout_of, table_of}
use Rattle.chunk.specs.Words.{over}
use Rattle.chunk.specs.Entry.{Entry, stands, every}
use Rattle.chunk.specs.Bodies.{keys, val_ends, vals, time_ends, times, diff_ends, diffs, chunk_of}
use Rattle.form.specs.declared.Counts.{Counts}
use Rattle.form.specs.Pass.{no_counts, counted, opens_key, opens_val, count_from, write_from, Counting, Some}
use Rattle.form.proofs.Runs.{run, runs, run_length, segment-runs, some_first, some_all}
use Rattle.form.proofs.Bodies.{always, key_word, val_word, time_word, diff_word, val_count, time_count, runs-keys, runs-val_ends, runs-vals, runs-time_ends, runs-times, runs-diff_ends, runs-diffs}
use Rattle.form.proofs.Parts.{Seven, Sized, join, puts, key_place, val_place, time_place, write_parts}

-- ---- how the places move

one_less : (m : Bool) (n : ℕ) → 1 ≤ n → cond m (n + 1) n - 1 ≡ cond m (suc (n - 1)) (n - 1)
one_less true n h = omega arith
one_less false n h = omega arith

key_law : (c : Counts) (e : Entry) → Some c → key_place (counted c e) ≡ cond (opens_key c e) (suc (key_place c)) (key_place c)
key_law c e h = one_less (opens_key c e) c.nk h.key

val_law : (c : Counts) (e : Entry) → Some c → val_place (counted c e) ≡ cond (opens_val c e) (suc (val_place c)) (val_place c)
val_law c e h = one_less (opens_val c e) c.nv h.val

time_law : (c : Counts) (e : Entry) → Some c → time_place (counted c e) ≡ cond (always c e) (suc (time_place c)) (time_place c)
time_law c e h = one_less true c.nt h.time

-- ---- a body is as long as its count

module _ (moves : Counts → Entry → Bool) (place word count : Counts → ℕ)
    (law : (c : Counts) (e : Entry) → Some c → place (counted c e) ≡ cond (moves c e) (suc (place c)) (place c))
    (zero-place : (e : Entry) → place (counted no_counts e) ≡ 0)
    (last-place : (c : Counts) → Some c → suc (place c) ≡ count c)
    (none : count no_counts ≡ 0) where
  runs-count : (es : List Entry) → length (runs moves word es) ≡ count (count_from no_counts es)
  unfolding count_from
  runs-count [] = sym none
  runs-count (e ∷ es) =
      let c : Counts = counted no_counts e in
      let r : place (counted no_counts e) + length (run moves word (counted no_counts e) es) ≡ suc (place (count_from (counted no_counts e) es)) = run_length moves place word law (counted no_counts e) es (some_first e) in
      let z : place (counted no_counts e) ≡ 0 = zero-place e in
      let q : suc (place (count_from (counted no_counts e) es)) ≡ count (count_from (counted no_counts e) es) = last-place _ (some_all (counted no_counts e) es (some_first e)) in
      omega arith

key-count : (word : Counts → ℕ) (es : List Entry) → length (runs opens_key word es) ≡ (count_from no_counts es).nk
key-count word = runs-count opens_key key_place word (λ (c : Counts). c.nk) key_law (λ (e : Entry). refl) (λ c (h : Some c). omega (arith, h.key)) refl

val-count : (word : Counts → ℕ) (es : List Entry) → length (runs opens_val word es) ≡ (count_from no_counts es).nv
val-count word = runs-count opens_val val_place word (λ (c : Counts). c.nv) val_law (λ (e : Entry). refl) (λ c (h : Some c). omega (arith, h.val)) refl

time-count : (word : Counts → ℕ) (es : List Entry) → length (runs always word es) ≡ (count_from no_counts es).nt
time-count word = runs-count always time_place word (λ (c : Counts). c.nt) time_law (λ (e : Entry). refl) (λ c (h : Some c). omega (arith, h.time)) refl

-- the counts of entries are the lengths of their bodies
pub count-keys : (es : List Entry) → (count_from no_counts es).nk ≡ length (keys es)
count-keys es = sym (key-count key_word es) ∙ ap (λ (l : List ℕ). length l) (runs-keys es)

pub count-vals : (es : List Entry) → (count_from no_counts es).nv ≡ length (vals es)
count-vals es = sym (val-count val_word es) ∙ ap (λ (l : List ℕ). length l) (runs-vals es)

pub count-times : (es : List Entry) → (count_from no_counts es).nt ≡ length (times es)
count-times es = sym (time-count time_word es) ∙ ap (λ (l : List ℕ). length l) (runs-times es)

-- ---- the output cut into the bodies' places

module _ (k v t : ℕ) (l : List ℕ) where
  abbrev cut : Seven
  cut =
      record {
        keys = take k l;
        val_ends = take k (drop k l);
        vals = take v (drop k (drop k l));
        time_ends = take v (drop v (drop k (drop k l)));
        times = take t (drop v (drop v (drop k (drop k l))));
        diff_ends = take t (drop t (drop v (drop v (drop k (drop k l)))));
        diffs = take t (drop t (drop t (drop v (drop v (drop k (drop k l))))));
      }

  abbrev past : List ℕ
  past = drop t (drop t (drop t (drop v (drop v (drop k (drop k l))))))

  uncut : (table : List ℕ) → join table cut past ≡ table ++ l
  uncut table = simp take-append-drop

  cut_sized : 2 * k + 2 * v + 3 * t ≤ length l → Sized k v t cut
  cut_sized h =
      let l1 : List ℕ = drop k l in
      let l2 : List ℕ = drop k (drop k l) in
      let l3 : List ℕ = drop v (drop k (drop k l)) in
      let l4 : List ℕ = drop v (drop v (drop k (drop k l))) in
      let l5 : List ℕ = drop t (drop v (drop v (drop k (drop k l)))) in
      let l6 : List ℕ = drop t (drop t (drop v (drop v (drop k (drop k l))))) in
      let h1 : length l1 ≡ length l - k = length-drop k l in
      let h2 : length l2 ≡ length l1 - k = length-drop k l1 in
      let h3 : length l3 ≡ length l2 - v = length-drop v l2 in
      let h4 : length l4 ≡ length l3 - v = length-drop v l3 in
      let h5 : length l5 ≡ length l4 - t = length-drop t l4 in
      let h6 : length l6 ≡ length l5 - t = length-drop t l5 in
      let g1 : length l1 + k ≡ length l = omega arith in
      let g2 : length l2 + 2 * k ≡ length l = omega arith in
      let g3 : length l3 + 2 * k + v ≡ length l = omega arith in
      let g4 : length l4 + 2 * k + 2 * v ≡ length l = omega arith in
      let g5 : length l5 + 2 * k + 2 * v + t ≡ length l = omega arith in
      let g6 : length l6 + 2 * k + 2 * v + 2 * t ≡ length l = omega arith in
      record {
        keys = length-take-le k l (omega arith);
        val_ends = length-take-le k l1 (omega arith);
        vals = length-take-le v l2 (omega arith);
        time_ends = length-take-le v l3 (omega arith);
        times = length-take-le t l4 (omega arith);
        diff_ends = length-take-le t l5 (omega arith);
        diffs = length-take-le t l6 (omega arith);
      }

-- ---- the chunk

-- the bodies of these entries
abbrev bodies : List Entry → Seven
bodies es =
    record { keys = keys es; val_ends = val_ends es; vals = vals es; time_ends = time_ends es; times = times es; diff_ends = diff_ends es; diffs = diffs es }

module _ (es : List Entry) (out : List ℕ) (st : every stands es ≡ true) where
  abbrev nk : ℕ
  nk = (count_from no_counts es).nk

  abbrev nv : ℕ
  nv = (count_from no_counts es).nv

  abbrev nt : ℕ
  nt = (count_from no_counts es).nt

  count-diffs : nt ≡ length (diffs es)
  count-diffs = sym (time-count diff_word es) ∙ ap (λ (l : List ℕ). length l) (runs-diffs es st)

  -- the segments that are stored are the bodies
  puts-bodies : (s : Seven) → Sized nk nv nt s → puts no_counts es s ≡ bodies es
  puts-bodies s z = λ i.
      record {
        keys = (segment-runs opens_key key_place key_word key_law (λ (e : Entry). refl) es s.keys (z.keys ∙ sym (key-count key_word es)) ∙ runs-keys es) i;
        val_ends = (segment-runs opens_key key_place val_count key_law (λ (e : Entry). refl) es s.val_ends (z.val_ends ∙ sym (key-count val_count es)) ∙ runs-val_ends es) i;
        vals = (segment-runs opens_val val_place val_word val_law (λ (e : Entry). refl) es s.vals (z.vals ∙ sym (val-count val_word es)) ∙ runs-vals es) i;
        time_ends = (segment-runs opens_val val_place time_count val_law (λ (e : Entry). refl) es s.time_ends (z.time_ends ∙ sym (val-count time_count es)) ∙ runs-time_ends es) i;
        times = (segment-runs always time_place time_word time_law (λ (e : Entry). refl) es s.times (z.times ∙ sym (time-count time_word es)) ∙ runs-times es) i;
        diff_ends = (segment-runs always time_place time_count time_law (λ (e : Entry). refl) es s.diff_ends (z.diff_ends ∙ sym (time-count time_count es)) ∙ runs-diff_ends es st) i;
        diffs = (segment-runs always time_place diff_word time_law (λ (e : Entry). refl) es s.diffs (z.diffs ∙ sym (time-count diff_word es)) ∙ runs-diffs es st) i;
      }

  -- and the table has their lengths
  table_is : table_of nk nv nt nt ≡ table_of (length (keys es)) (length (vals es)) (length (times es)) (length (diffs es))
  table_is = λ i. table_of (count-keys es i) (count-vals es i) (count-times es i) (count-diffs i)

  pub chunk_length : length (chunk_of es) ≡ 4 + 2 * nk + 2 * nv + 2 * nt + nt
  unfolding chunk_of
  chunk_length =
      let a : nk ≡ length (keys es) = count-keys es in
      let b : length (val_ends es) ≡ nk = sym (ap (λ (l : List ℕ). length l) (runs-val_ends es)) ∙ key-count val_count es in
      let c : nv ≡ length (vals es) = count-vals es in
      let d : length (time_ends es) ≡ nv = sym (ap (λ (l : List ℕ). length l) (runs-time_ends es)) ∙ val-count time_count es in
      let e : nt ≡ length (times es) = count-times es in
      let f : length (diff_ends es) ≡ nt = sym (ap (λ (l : List ℕ). length l) (runs-diff_ends es st)) ∙ time-count time_count es in
      let g : nt ≡ length (diffs es) = count-diffs in
      simp length-append (omega arith)

  past_is : past nk nv nt (drop 4 out) ≡ drop (length (chunk_of es)) out
  past_is =
      let q : 4 + nk + nk + nv + nv + nt + nt + nt ≡ length (chunk_of es) = omega (arith, chunk_length) in
      simp drop-drop (ap (λ (n : ℕ). drop n out) q)

  together : join (table_of nk nv nt nt) (bodies es) (past nk nv nt (drop 4 out)) ≡ over (chunk_of es) out
  unfolding chunk_of
  together =
      ap (λ (t : List ℕ). join t (bodies es) (past nk nv nt (drop 4 out))) table_is
      ∙ ap (λ (r : List ℕ). join (table_of (length (keys es)) (length (vals es)) (length (times es)) (length (diffs es))) (bodies es) r) past_is
      ∙ sym (simp append_assoc)

  no_counting : Counting 0 no_counts
  no_counting = record { keys = omega arith; vals = omega arith; times = omega arith; keyed = omega arith; valued = omega arith }

  -- all entries stored after their table are their chunk, over what was there
  pub chunk_written : (layout_of nk nv nt nt).size ≤ length out
      → write_from (layout_of nk nv nt nt) no_counts es (over (table_of nk nv nt nt) out) ≡ over (chunk_of es) out
  chunk_written h =
      let z : Sized nk nv nt (cut nk nv nt (drop 4 out)) = cut_sized nk nv nt (drop 4 out) (simp length-drop (omega arith)) in
      ap (λ (o : List ℕ). write_from (layout_of nk nv nt nt) no_counts es o) (sym (uncut nk nv nt (drop 4 out) (table_of nk nv nt nt)))
      ∙ write_parts nk nv nt (table_of nk nv nt nt) (past nk nv nt (drop 4 out)) refl 0 no_counts es (cut nk nv nt (drop 4 out)) no_counting z (omega arith) (omega arith) (omega arith)
      ∙ ap (λ (s : Seven). join (table_of nk nv nt nt) s (past nk nv nt (drop 4 out))) (puts-bodies (cut nk nv nt (drop 4 out)) z)
      ∙ together
