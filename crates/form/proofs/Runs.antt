-- One body of a chunk as the stores leave it. A body has a place for each list that is open or closed: an entry either stores over the
-- last place, which is its list's still, or moves on to the next one. So what is left at the end is one word for each list: a run.
use Rattle.std.proofs.Common.{◌≡◌, ℕ, suc, ◌+◌, ◌≤◌, Bool, true, false, cond, List, [], ◌∷◌, ◌++◌, length, drop, set, sym, refl, ap, ◌∙◌, arith, length-append, length-drop}
use lib.Seq.{set_at, append_snoc}
use Rattle.chunk.specs.Entry.{Entry}
use Rattle.laws.proofs.Tests.{by_test}
use Rattle.form.specs.declared.Counts.{Counts}
use Rattle.form.specs.Pass.{no_counts, counted, opens_key, opens_val, count_from, Some}
use Rattle.form.proofs.Underway.{kept_or-more}

pub some_more : (c : Counts) (e : Entry) → Some c → Some (counted c e)
some_more c e h =
    record {
      key = omega (arith, h.key, kept_or-more (opens_key c e) c.nk);
      val = omega (arith, h.val, kept_or-more (opens_val c e) c.nv);
      time = omega arith;
    }

pub some_all : (c : Counts) (es : List Entry) → Some c → Some (count_from c es)
unfolding count_from
some_all c [] h = h
some_all c (e ∷ es) h = some_all (counted c e) es (some_more c e h)

pub some_first : (e : Entry) → Some (counted no_counts e)
some_first e = record { key = omega arith; val = omega arith; time = omega arith }

-- the words stored at the last places, by the place and the word of each state
abbrev pub segment : (Counts → ℕ) → (Counts → ℕ) → Counts → List Entry → List ℕ → List ℕ
segment place word c [] l = l
segment place word c (e ∷ es) l = segment place word (counted c e) es (set l (place (counted c e)) (word (counted c e)))

-- what is left of them: a word where the next entry moves on, and the last one
abbrev pub run : (Counts → Entry → Bool) → (Counts → ℕ) → Counts → List Entry → List ℕ
run moves word c [] = word c ∷ []
run moves word c (e ∷ es) = cond (moves c e) (word c ∷ run moves word (counted c e) es) (run moves word (counted c e) es)

-- of all entries
abbrev pub runs : (Counts → Entry → Bool) → (Counts → ℕ) → List Entry → List ℕ
runs moves word [] = []
runs moves word (e ∷ es) = run moves word (counted no_counts e) es

-- a store past the last word of a prefix
next_place : (p : List ℕ) (x y : ℕ) (q : List ℕ) (n : ℕ) → n ≡ suc (length p) → 1 ≤ length q → set (p ++ x ∷ q) n y ≡ (p ++ x ∷ []) ++ y ∷ drop 1 q
next_place p x y [] n h l = absurd (omega arith)
next_place p x y (z ∷ q) n h l =
    ap (λ (s : List ℕ). set s n y) (sym (append_snoc p x (z ∷ q)))
    ∙ set_at (p ++ x ∷ []) z q y n (length-append p (x ∷ []) ∙ (omega arith))

-- by how the place moves
module _ (moves : Counts → Entry → Bool) (place word : Counts → ℕ) (law : (c : Counts) (e : Entry) → Some c → place (counted c e) ≡ cond (moves c e) (suc (place c)) (place c)) where
  run-some : (c : Counts) (es : List Entry) → 1 ≤ length (run moves word c es)
  run-some c [] = omega arith
  run-some c (e ∷ es) =
      by_test (moves c e)
      (λ (m : moves c e ≡ true). rw m (omega arith))
      (λ (m : moves c e ≡ false). rw m (run-some (counted c e) es))

  pub run_length : (c : Counts) (es : List Entry) → Some c → place c + length (run moves word c es) ≡ suc (place (count_from c es))
  unfolding count_from
  run_length c [] h = omega arith
  run_length c (e ∷ es) h =
      let q : place (counted c e) ≡ cond (moves c e) (suc (place c)) (place c) = law c e h in
      let r : place (counted c e) + length (run moves word (counted c e) es) ≡ suc (place (count_from (counted c e) es)) = run_length (counted c e) es (some_more c e h) in
      by_test (moves c e)
      (λ (m : moves c e ≡ true). let k : place (counted c e) ≡ suc (place c) = rw m at q in rw m (omega arith))
      (λ (m : moves c e ≡ false). let k : place (counted c e) ≡ place c = rw m at q in rw m (omega arith))

  pub segment-run : (c : Counts) (es : List Entry) (p q : List ℕ) → Some c → length p ≡ place c → suc (length q) ≡ length (run moves word c es)
      → segment place word c es (p ++ word c ∷ q) ≡ p ++ run moves word c es
  segment-run c [] p [] h l m = refl
  segment-run c [] p (x ∷ q) h l m = absurd (omega arith)
  segment-run c (e ∷ es) p q h l m =
      let k : place (counted c e) ≡ cond (moves c e) (suc (place c)) (place c) = law c e h in
      by_test (moves c e)
      (λ (t : moves c e ≡ true).
      let k' : place (counted c e) ≡ suc (place c) = rw t at k in
      let m' : suc (length q) ≡ suc (length (run moves word (counted c e) es)) = rw t at m in
      let s : 1 ≤ length q = omega (arith, run-some (counted c e) es) in
      rw t
      (ap (λ (x : List ℕ). segment place word (counted c e) es x) (next_place p (word c) (word (counted c e)) q (place (counted c e)) (omega arith) s)
      ∙ segment-run (counted c e) es (p ++ word c ∷ []) (drop 1 q) (some_more c e h) (length-append p (word c ∷ []) ∙ (omega arith)) (omega (arith, length-drop 1 q))
      ∙ append_snoc p (word c) (run moves word (counted c e) es)))
      (λ (t : moves c e ≡ false).
      let k' : place (counted c e) ≡ place c = rw t at k in
      rw t
      (ap (λ (x : List ℕ). segment place word (counted c e) es x) (set_at p (word c) q (word (counted c e)) (place (counted c e)) (omega arith))
      ∙ segment-run (counted c e) es p q (some_more c e h) (omega arith) (rw t at m)))

  -- from the first entry on, in as many places as there are lists
  pub segment-runs : ((e : Entry) → place (counted no_counts e) ≡ 0) → (es : List Entry) (l : List ℕ) → length l ≡ length (runs moves word es)
      → segment place word no_counts es l ≡ runs moves word es
  segment-runs z [] [] m = refl
  segment-runs z [] (x ∷ l) m = absurd (omega arith)
  segment-runs z (e ∷ es) [] m = absurd (omega (arith, run-some (counted no_counts e) es))
  segment-runs z (e ∷ es) (x ∷ l) m =
      ap (λ (n : ℕ). segment place word (counted no_counts e) es (set (x ∷ l) n (word (counted no_counts e)))) (z e)
      ∙ segment-run (counted no_counts e) es [] l (some_first e) (sym (z e)) m
