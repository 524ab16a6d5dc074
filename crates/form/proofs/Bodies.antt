-- The seven bodies of a chunk are the runs that the stores leave: keys and the ends of their lists go by key, values and the ends of
-- theirs by key and value, times and diffs by entry.
use Rattle.std.proofs.Common.{◌≡◌, ℕ, suc, ◌+◌, Bool, true, false, cond, not, ◌&&◌, ◌||◌, eqb, List, [], ◌∷◌, map, sym, refl, ap, ◌∙◌, arith, ne_eqb, eqb-true}
use Rattle.chunk.specs.Entry.{Entry, same_list, stands, keep, every}
use Rattle.chunk.specs.Bodies.{lasts_of, same_key, keys, vals, times, diffs, ends_of, val_ends, time_ends, diff_ends_from, diff_ends}
use Rattle.laws.proofs.Tests.{by_test, and_left, and_right}
use Rattle.sort.specs.Sort.{entry_of}
use Rattle.form.specs.declared.Counts.{Counts}
use Rattle.form.specs.Pass.{no_counts, counted, opens_key, opens_val, Some}
use Rattle.form.proofs.Runs.{run, runs, some_more, some_first}

-- an entry moves on from every entry before it
abbrev pub always : Counts → Entry → Bool
always c e = true

-- the words of a state
abbrev pub key_word : Counts → ℕ
key_word c = c.last.key

abbrev pub val_word : Counts → ℕ
val_word c = c.last.val

abbrev pub time_word : Counts → ℕ
time_word c = c.last.time

abbrev pub diff_word : Counts → ℕ
diff_word c = c.last.diff

abbrev pub val_count : Counts → ℕ
val_count c = c.nv

abbrev pub time_count : Counts → ℕ
time_count c = c.nt

-- ---- past the first entry a list is opened by a change alone

not-and : (a b : Bool) → (not a || not b) ≡ not (a && b)
not-and true b = refl
not-and false b = refl

module _ (c : Counts) (e : Entry) (h : Some c) where
  by_key : opens_key c e ≡ not (same_key (entry_of c.last) e)
  by_key = simp (ne_eqb c.nt 0 (λ (z : c.nt ≡ 0). omega (arith, h.time)))

  by_val_lem : opens_val c e ≡ not (same_list (entry_of c.last) e)
  by_val_lem = simp (ne_eqb c.nt 0 (λ (z : c.nt ≡ 0). omega (arith, h.time))) (not-and (eqb c.last.key e.key) (eqb c.last.val e.val))

-- ---- keys, values: the last of each list

module _ (moves : Counts → Entry → Bool) (alike : Entry → Entry → Bool) (word : Counts → ℕ) (f : Entry → ℕ)
    (law : (c : Counts) (e : Entry) → Some c → moves c e ≡ not (alike (entry_of c.last) e))
    (says : (c : Counts) → word c ≡ f (entry_of c.last)) where
  run_lasts : (c : Counts) (es : List Entry) → Some c → run moves word c es ≡ map f (lasts_of alike (entry_of c.last ∷ es))
  unfolding lasts_of
  run_lasts c [] h = ap (λ (n : ℕ). n ∷ []) (says c)
  run_lasts c (e ∷ es) h =
      let r : run moves word (counted c e) es ≡ map f (lasts_of alike (e ∷ es)) = run_lasts (counted c e) es (some_more c e h) in
      let q : moves c e ≡ not (alike (entry_of c.last) e) = law c e h in
      by_test (alike (entry_of c.last) e)
      (λ (s : alike (entry_of c.last) e ≡ true). rw (q, s) r)
      (λ (s : alike (entry_of c.last) e ≡ false). rw (q, s) (λ i. says c i ∷ r i))

  pub runs_lasts : (es : List Entry) → runs moves word es ≡ map f (lasts_of alike es)
  unfolding lasts_of
  runs_lasts [] = refl
  runs_lasts (e ∷ es) = run_lasts (counted no_counts e) es (some_first e)

pub runs-keys : (es : List Entry) → runs opens_key key_word es ≡ keys es
runs-keys = runs_lasts opens_key same_key key_word (λ (e : Entry). e.key) by_key (λ (c : Counts). refl)

pub runs-vals : (es : List Entry) → runs opens_val val_word es ≡ vals es
runs-vals = runs_lasts opens_val same_list val_word (λ (e : Entry). e.val) by_val_lem (λ (c : Counts). refl)

-- ---- the ends of the lists of times

-- an end is closed exactly where the next entry moves on
closes : (m t : Bool) (a b : ℕ) (x y : List ℕ) → m ≡ not t → a ≡ b → x ≡ y → cond m (a ∷ x) x ≡ cond t y (b ∷ y)
closes m true a b x y q k r = rw q r
closes m false a b x y q k r = rw q (λ i. k i ∷ r i)

run-time_ends : (c : Counts) (es : List Entry) (n : ℕ) → Some c → c.nt ≡ suc n → run opens_val time_count c es ≡ ends_of same_list n (entry_of c.last ∷ es)
unfolding ends_of
run-time_ends c [] n h k = ap (λ (m : ℕ). m ∷ []) k
run-time_ends c (e ∷ es) n h k =
    closes (opens_val c e) (same_list (entry_of c.last) e) c.nt (suc n) (run opens_val time_count (counted c e) es) (ends_of same_list (suc n) (e ∷ es))
    (by_val_lem c e h) k (run-time_ends (counted c e) es (suc n) (some_more c e h) (omega arith))

pub runs-time_ends : (es : List Entry) → runs opens_val time_count es ≡ time_ends es
unfolding ends_of
runs-time_ends [] = refl
runs-time_ends (e ∷ es) = run-time_ends (counted no_counts e) es 0 (some_first e) refl

-- ---- the ends of the lists of values: one for each key, of the values' last entries

-- the first of the lasts has the key that the entries start with
ends_lasts : (a b : Entry) (es : List Entry) (n : ℕ)
    → ends_of same_key n (a ∷ lasts_of same_list (b ∷ es))
    ≡ cond (same_key a b) (ends_of same_key (suc n) (lasts_of same_list (b ∷ es))) (suc n ∷ ends_of same_key (suc n) (lasts_of same_list (b ∷ es)))
unfolding ends_of lasts_of
ends_lasts a b [] n = refl
ends_lasts a b (d ∷ es) n =
    by_test (same_list b d)
    (λ (s : same_list b d ≡ true).
    let k : b.key ≡ d.key = eqb-true b.key d.key (and_left _ _ s) in
    rw s (ends_lasts a d es n ∙ ap (λ (x : ℕ). cond (eqb a.key x) (ends_of same_key (suc n) (lasts_of same_list (d ∷ es))) (suc n ∷ ends_of same_key (suc n) (lasts_of same_list (d ∷ es)))) (sym k)))
    (λ (s : same_list b d ≡ false). rw s)

kept_nv : (m t : Bool) (v n : ℕ) → m ≡ not t → t ≡ true → v ≡ n → cond m (v + 1) v ≡ n
kept_nv m t v n q s k = rw (q, s) k

more_nv : (m t : Bool) (v n : ℕ) → m ≡ not t → t ≡ false → v ≡ n → cond m (v + 1) v ≡ suc n
more_nv m t v n q s k = rw (q, s) (omega arith)

goes_on : (m t : Bool) (x y z : List ℕ) → m ≡ not t → t ≡ true → x ≡ y → cond m z x ≡ y
goes_on m t x y z q s r = rw (q, s) r

run-val_ends : (c : Counts) (es : List Entry) (n : ℕ) → Some c → c.nv ≡ suc n → run opens_key val_count c es ≡ ends_of same_key n (lasts_of same_list (entry_of c.last ∷ es))
unfolding ends_of lasts_of
run-val_ends c [] n h k = ap (λ (m : ℕ). m ∷ []) k
run-val_ends c (e ∷ es) n h k =
    let a : Entry = entry_of c.last in
    by_test (same_list a e)
    (λ (s : same_list a e ≡ true).
    goes_on (opens_key c e) (same_key a e) (run opens_key val_count (counted c e) es) (ends_of same_key n (lasts_of same_list (e ∷ es))) (c.nv ∷ run opens_key val_count (counted c e) es)
    (by_key c e h) (and_left _ _ s)
    (run-val_ends (counted c e) es n (some_more c e h) (kept_nv (opens_val c e) (same_list a e) c.nv (suc n) (by_val_lem c e h) s k))
    ∙ sym (ap (λ (t : Bool). ends_of same_key n (cond t (lasts_of same_list (e ∷ es)) (a ∷ lasts_of same_list (e ∷ es)))) s))
    (λ (s : same_list a e ≡ false).
    closes (opens_key c e) (same_key a e) c.nv (suc n) (run opens_key val_count (counted c e) es) (ends_of same_key (suc n) (lasts_of same_list (e ∷ es))) (by_key c e h) k
    (run-val_ends (counted c e) es (suc n) (some_more c e h) (more_nv (opens_val c e) (same_list a e) c.nv (suc n) (by_val_lem c e h) s k))
    ∙ sym (ap (λ (t : Bool). ends_of same_key n (cond t (lasts_of same_list (e ∷ es)) (a ∷ lasts_of same_list (e ∷ es)))) s ∙ ends_lasts a e es n))

pub runs-val_ends : (es : List Entry) → runs opens_key val_count es ≡ val_ends es
unfolding ends_of lasts_of
runs-val_ends [] = refl
runs-val_ends (e ∷ es) = run-val_ends (counted no_counts e) es 0 (some_first e) refl

-- ---- times and diffs: one for each entry, of entries that stand

run-each : (word : Counts → ℕ) (f : Entry → ℕ) → ((c : Counts) → word c ≡ f (entry_of c.last)) → (c : Counts) (es : List Entry)
    → run always word c es ≡ map f (entry_of c.last ∷ es)
run-each word f says c [] = ap (λ (n : ℕ). n ∷ []) (says c)
run-each word f says c (e ∷ es) = λ i. says c i ∷ run-each word f says (counted c e) es i

pub runs-times : (es : List Entry) → runs always time_word es ≡ times es
runs-times [] = refl
runs-times (e ∷ es) = run-each time_word (λ (x : Entry). x.time) (λ (c : Counts). refl) (counted no_counts e) es

keep_all : (es : List Entry) → every stands es ≡ true → keep stands es ≡ es
unfolding keep every
keep_all [] h = refl
keep_all (e ∷ es) h = rw (and_left (stands e) (every stands es) h) (ap (λ (l : List Entry). e ∷ l) (keep_all es (and_right (stands e) _ h)))

pub runs-diffs : (es : List Entry) → every stands es ≡ true → runs always diff_word es ≡ diffs es
runs-diffs es h = each es ∙ ap (λ (l : List Entry). map (λ (x : Entry). x.diff) l) (sym (keep_all es h))
  where
    each : (l : List Entry) → runs always diff_word l ≡ map (λ (x : Entry). x.diff) l
    each [] = refl
    each (e ∷ l) = run-each diff_word (λ (x : Entry). x.diff) (λ (c : Counts). refl) (counted no_counts e) l

run-diff_ends : (c : Counts) (es : List Entry) (n : ℕ) → c.nt ≡ suc n → every stands (entry_of c.last ∷ es) ≡ true
    → run always time_count c es ≡ diff_ends_from n (entry_of c.last ∷ es)
unfolding diff_ends_from every
run-diff_ends c [] n k h = rw (and_left (stands (entry_of c.last)) _ h) (ap (λ (m : ℕ). m ∷ []) k)
run-diff_ends c (e ∷ es) n k h =
    let r : run always time_count (counted c e) es ≡ diff_ends_from (suc n) (e ∷ es) = run-diff_ends (counted c e) es (suc n) (omega arith) (and_right (stands (entry_of c.last)) _ h) in
    rw (and_left (stands (entry_of c.last)) (every stands (e ∷ es)) h) (λ i. k i ∷ r i)

pub runs-diff_ends : (es : List Entry) → every stands es ≡ true → runs always time_count es ≡ diff_ends es
unfolding diff_ends_from
runs-diff_ends [] h = refl
runs-diff_ends (e ∷ es) h = run-diff_ends (counted no_counts e) es 0 refl h
