-- A whole walk gives the records, then done: from each entry on, the steps give the entries that are left and stand.
use Prim.Native.Nat.{ℕ, zero, suc, ◌-◌, ◌≤◌, ◌<◌}
use mathlib.Core.Path.{◌≡◌, refl, sym, ◌∙◌, ap}
use mathlib.Core.Bool.{true}
use mathlib.Core.List.{List, [], ◌∷◌, ◌++◌, map}
use native.Mathlib.Omega.{arith}
use native.Mathlib.Nat.{zero-sub, suc-sub-suc, sub-zero}
use lib.Dec.{ltb}
use lib.Seq.{take-nil}
use lib.ListN.{length, take, replicate}
use borrow.Author.Tests.{lt-ltb, le-ltb, ltb-true, ltb-false}
use Rattle.laws.proofs.Tests.{by_test}
use Rattle.chunk.specs.Entry.{Entry, stands, keep}
use Rattle.chunk.specs.Bodies.{diff_ends_from}
use Rattle.chunk.specs.Words.{nk, nv, nt, nd, table_fits, entries, key_body, val_end_body, val_body, time_end_body, time_body, diff_end_body, diff_body}
use Rattle.chunk.proofs.WellFormed.{parts}
use Rattle.laws.proofs.Layers.{Seven, of_entries}
use Rattle.laws.proofs.Frame.{in_words, length_keys, length_vals, length_times, length_diffs}
use Rattle.laws.proofs.OneChunk.{bodies_in}
use Rattle.walk.specs.Walk.{Place, gave, done, moved, read, in_bodies, diff_on, next_time, to_time, step, start}
use Rattle.walk.specs.Whole.{Said, given, finished, walk, records, WalkGivesRecords}
use Rattle.walk.proofs.Turns.{Loop, stays, turned}
use Rattle.walk.proofs.Counts.{time_loop}
use Rattle.walk.proofs.Ways.{step_reads, step-done}
use Rattle.walk.proofs.Left.{At, Next, next, used, head, none, diffs-on, diff_ends_cons, Item, key-item, val-item, time-item, diff-item, whatever_d}

-- walking from this place gives these records, and then done
data Walks (w : List ℕ) : Place → List Entry → Type 0 where
  ends : {p : Place} → step w p ≡ done → Walks w p []
  gives : {p q : Place} {e : Entry} {es : List Entry} → step w p ≡ gave e q → Walks w q es → Walks w p (e ∷ es)

-- two places with the same step walk alike
alike : (w : List ℕ) (p q : Place) (es : List Entry) → step w p ≡ step w q → Walks w q es → Walks w p es
alike w p q [] h (ends e) = ends (h ∙ e)
alike w p q (e ∷ es) h (gives g r) = gives (h ∙ g) r

module _ (w : List ℕ) (fits : table_fits w ≡ true) where
  abbrev times_on : Loop
  times_on = time_loop (val_end_body w) (time_end_body w) (diff_end_body w)

  -- no diff is left
  nothing : (p : Place) → nd w ≤ p.d → Walks w p (keep stands [])
  unfolding keep
  nothing p h = ends (step-done w p fits h)

  -- a step at an entry that stands gives it
  gives_it : (p : Place) (d : ℕ) (e : Entry) (es : List Entry) → At w p d e es → p.d ≡ d → stands e ≡ true → step w p ≡ gave e (diff_on p)
  unfolding to_time
  gives_it p d e es here o s =
      let k : Item (key_body w) p.k e.key = key-item w p d e es here in
      let v : Item (val_body w) p.v e.val = val-item w p d e es here in
      let t : Item (time_body w) p.t e.time = time-item w p d e es here in
      let f : Item (diff_body w) p.d e.diff = rw o (diff-item w p d e es here s) in
      let lk = length_keys w fits in
      let lv = length_vals w fits in
      let lt = length_times w fits in
      let ld = length_diffs w fits in
      let u : p.diff_end ≡ suc d = here.diff_end_is ∙ rw s in
      let b : in_bodies w p ≡ true = rw (lt-ltb p.k (nk w) (omega arith), lt-ltb p.v (nv w) (omega arith), lt-ltb p.t (nt w) (omega arith), lt-ltb p.d (nd w) (omega arith)) in
      step_reads w p fits (omega arith)
      ∙ ap (read w) (stays times_on p (lt-ltb p.d p.diff_end (omega arith)))
      ∙ rw (b, k.is, v.is, t.is, f.is)

  -- a turn to the next time changes no step
  same_step : (p q : Place) → q.d ≡ p.d → p.diff_end ≤ p.d → next_time (val_end_body w) (time_end_body w) (diff_end_body w) p ≡ moved q → step w p ≡ step w q
  unfolding to_time
  same_step p q o h n =
      by_test (ltb p.d (nd w))
      (λ b.
      let l : p.d < nd w = ltb-true _ _ b in
      step_reads w p fits l ∙ ap (read w) (turned times_on p q (le-ltb p.d p.diff_end h) n) ∙ sym (step_reads w q fits (omega arith)))
      (λ b.
      let l : nd w ≤ p.d = ltb-false _ _ b in
      step-done w p fits l ∙ sym (step-done w q fits (omega arith)))

  -- from an entry on, if the walk goes on where its diffs are used up
  from : (q : Place) (d : ℕ) (f : Entry) (fs : List Entry) → At w q d f fs → q.d ≡ d
      → ((r : Place) → At w r d f fs → r.d ≡ used f d → Walks w r (keep stands fs)) → Walks w q (keep stands (f ∷ fs))
  unfolding keep
  from q d f fs here o on =
      by_test (stands f)
      (λ s. rw s (gives (gives_it q d f fs here o s) (on (diff_on q) (whatever_d w q d f fs here) (rw (s, o)))))
      (λ s. rw s (on q here (rw (s, o))))

  -- the entries after one whose diffs are used up
  left : (es : List Entry) (e : Entry) (p : Place) (d : ℕ) → At w p d e es → p.d ≡ used e d → Walks w p (keep stands es)
  unfolding keep
  left [] e p d here u =
      let n : length (diff_body w) ≤ used e d = none (diff_body w) (used e d) (diffs-on (diff_body w) d e [] here.diffs_left) in
      nothing p (omega (arith, length_diffs w fits))
  left (f ∷ fs) e p d here u =
      let n : Next w p (used e d) f fs = next w p d e f fs here in
      alike w p n.to (keep stands (f ∷ fs))
      (same_step p n.to n.same_d (omega (arith, here.diff_end_is)) n.turns)
      (from n.to (used e d) f fs n.there (n.same_d ∙ u) (λ r a b. left fs f r (used e d) a b))

  -- from the start
  begins : (es : List Entry) → of_entries es ≡ in_words w → Walks w (start w) (keep stands es)
  unfolding keep
  begins [] b =
      let z : diff_body w ≡ [] = sym (ap (λ (s : Seven). s.diff_list) b) in
      nothing (start w) (omega (arith, length_diffs w fits, ap length z))
  begins (e ∷ es) b =
      let de : diff_end_body w ≡ diff_ends_from 0 (e ∷ es) = sym (ap (λ (s : Seven). s.diff_end_list) b) in
      let ve = sym (ap (λ (s : Seven). s.val_end_list) b) in
      let te = sym (ap (λ (s : Seven). s.time_end_list) b) in
      from (start w) 0 e es
      (record {
        keys_left = sym (ap (λ (s : Seven). s.key_list) b);
        val_ends_left = ve;
        vals_left = sym (ap (λ (s : Seven). s.val_list) b);
        time_ends_left = te;
        times_left = sym (ap (λ (s : Seven). s.time_list) b);
        diff_ends_left = de;
        diffs_left = sym (ap (λ (s : Seven). s.diff_list) b);
        val_end_is = ap head ve;
        time_end_is = ap head te;
        diff_end_is = ap head (de ∙ diff_ends_cons 0 e es);
      })
      refl
      (λ r a u. left es e r 0 a u)

-- what the steps say, however many they are
says : (w : List ℕ) (n : ℕ) (p : Place) (es : List Entry) → Walks w p es → walk n w p ≡ take n (map given es) ++ replicate (n - length es) finished
unfolding walk
says w zero p es r = rw (zero-sub (length es))
says w (suc n) p [] (ends e) = rw (e, says w n p [] (ends e), take-nil {A = Said} n, sub-zero n, sub-zero (suc n))
says w (suc n) p (e ∷ es) (gives {q = q} g r) = rw (g, says w n q es r, suc-sub-suc)

pub walk-gives-records : WalkGivesRecords
walk-gives-records w h n = says w n (start w) (records w) (begins w (parts w h).table_fits (entries w) (bodies_in w h))
