-- The diff ends that are written are those of the entries that the reports of times name, where both inputs are settled.
use Prim.Native.Nat.{ℕ, zero, suc, ◌+◌, ◌-◌, ◌^◌, ◌<◌, ◌≤◌}
use mathlib.Core.Path.{◌≡◌, refl, sym, ◌∙◌, ap}
use mathlib.Core.Bool.{true}
use mathlib.Core.List.{List, [], ◌∷◌, ◌++◌, map-append}
use native.Mathlib.Omega.{arith}
use lib.Dec.{ltb}
use lib.ListN.{length, get_or, take, drop, length-drop, length-map}
use lib.Seq.{length-take-le, drop-cons}
use borrow.Author.Tests.{lt-ltb}
use Rattle.laws.specs.Picked.{count_up}
use Rattle.laws.proofs.Picked.{diff_ends_up}
use Rattle.laws.proofs.Tests.{and_both}
use Rattle.laws.proofs.Tries.{rises_tail}
use Rattle.chunk.specs.Entry.{Entry, stands, keep, every}
use Rattle.chunk.specs.Bodies.{diffs, diff_ends, diff_ends_from}
use Rattle.chunk.specs.Words.{limit, rises, rises_from}
use Rattle.meld.specs.Copy.{shifted, shifted_all}
use Rattle.meld.proofs.Append.{raised, diff_ends-append}
use Rattle.reports.specs.Survey.{Report, this, that, both}
use Rattle.reports.specs.Write.{width, widths, entries_of, entries_by, Serves, AllServe, AllSome, wrapped, low_of, list_ends, diff_of, diff_ends_by}
use Rattle.reports.proofs.WriteDiffs.{short_diffs}
use Rattle.reports.proofs.WriteEntries.{every_take, every_drop, diffs_all, diffs_of}
use Rattle.reports.proofs.WriteRuns.{length_range}
use Rattle.reports.specs.Theorems.{summed}

abbrev no_entry : Entry
no_entry = record { key = 0; val = 0; time = 0; diff = 0 }

-- a settled input has a diff for each entry
diffs-long : (es : List Entry) → every stands es ≡ true → length (diffs es) ≡ length es
diffs-long es h = ap length (diffs_all es h) ∙ length-map es (λ (e : Entry). e.diff)

-- numbers that follow one another rise
counted_rise : (n m : ℕ) → rises_from n (count_up n m) ≡ true
unfolding count_up rises_from
counted_rise n zero = refl
counted_rise n (suc m) = and_both (ltb n (suc n)) _ (lt-ltb n (suc n) (omega arith)) (counted_rise (suc n) m)

-- the diff ends of a settled input rise
pub settled_rise : (es : List Entry) → every stands es ≡ true → rises (diff_ends es) ≡ true
unfolding rises
settled_rise es h = rw (diff_ends_up 0 es h) (rises_tail 0 (count_up 0 (length es)) (counted_rise 0 (length es)))

drop_counted : (l n m : ℕ) → drop l (count_up n m) ≡ count_up (n + l) (m - l)
unfolding count_up
drop_counted zero n m = let e : n + 0 ≡ n = omega arith in let f : m - 0 ≡ m = omega arith in rw (e, f)
drop_counted (suc l) n zero = let f : 0 - suc l ≡ 0 = omega arith in rw f
drop_counted (suc l) n (suc m) =
    let e : n + suc l ≡ suc n + l = omega arith in
    let f : suc m - suc l ≡ m - l = omega arith in
    rw (e, f) (drop_counted l (suc n) m)

take_counted : (k n m : ℕ) → k ≤ m → take k (count_up n m) ≡ count_up n k
unfolding count_up
take_counted zero n m h = refl
take_counted (suc k) n zero h = absurd (omega arith)
take_counted (suc k) n (suc m) h = ap (λ (l : List ℕ). suc n ∷ l) (take_counted k (suc n) m (omega arith))

shift_counted : (base x k off : ℕ) → x + off + k < 2 ^ 64 → base + off + k < 2 ^ 64
    → shifted_all (wrapped base x) (count_up (x + off) k) ≡ count_up (base + off) k
unfolding count_up
shift_counted base x zero off h j = refl
shift_counted base x (suc k) off h j =
    let e : shifted (wrapped base x) (suc (x + off)) ≡ suc (base + off) = omega arith in
    let p : suc (x + off) ≡ x + suc off = omega arith in
    let q : suc (base + off) ≡ base + suc off = omega arith in
    (λ i. e i ∷ shifted_all (wrapped base x) (count_up (p i) k))
    ∙ ap (λ (l : List ℕ). suc (base + off) ∷ l) (shift_counted base x k (suc off) (omega arith) (omega arith))
    ∙ (λ i. suc (base + off) ∷ count_up (sym q i) k)

raise_counted : (base n k : ℕ) → raised base (count_up n k) ≡ count_up (n + base) k
unfolding count_up raised
raise_counted base n zero = refl
raise_counted base n (suc k) = ap (λ (l : List ℕ). (suc n + base) ∷ l) (raise_counted base (suc n) k) ∙ more
  where
    e : suc n + base ≡ suc (n + base)
    e = omega arith

    more : ◌≡◌ {A = List ℕ} ((suc n + base) ∷ count_up (suc n + base) k) (suc (n + base) ∷ count_up (suc (n + base)) k)
    more = λ i. e i ∷ count_up (e i) k

counted_more : (n k : ℕ) → count_up n k ++ ((n + suc k) ∷ []) ≡ count_up n (suc k)
unfolding count_up
counted_more n zero = let e : n + 1 ≡ suc n = omega arith in rw e
counted_more n (suc k) =
    let e : n + suc (suc k) ≡ suc n + suc k = omega arith in
    rw e (ap (λ (l : List ℕ). suc n ∷ l) (counted_more (suc n) k))

raised-append : (base : ℕ) (xs ys : List ℕ) → raised base (xs ++ ys) ≡ raised base xs ++ raised base ys
unfolding raised
raised-append base xs ys = map-append (λ (e : ℕ). e + base) xs ys

raised_twice : (base k : ℕ) (l : List ℕ) → raised base (raised k l) ≡ raised (base + k) l
unfolding raised
raised_twice base k [] = refl
raised_twice base k (e ∷ l) = let q : e + k + base ≡ e + (base + k) = omega arith in rw (q, raised_twice base k l)

-- the ends of a run of a settled input
run_ends : (base l h : ℕ) (es : List Entry) → every stands es ≡ true → l < h → h ≤ length es → h < 2 ^ 64 → base + (h - l) < 2 ^ 64
    → shifted_all (wrapped base l) (take (h - 1 - l) (drop l (diff_ends es))) ++ ((base + (h - l)) ∷ []) ≡ raised base (diff_ends (take (h - l) (drop l es)))
run_ends base l h es s o w m j =
    let k : ℕ = h - 1 - l in
    let n : h - l ≡ suc k = omega arith in
    let z : l ≡ l + 0 = omega arith in
    let y : base + 0 ≡ base = omega arith in
    let part : List Entry = take (h - l) (drop l es) in
    let long : length part ≡ suc k = length-take-le (h - l) (drop l es) (simp length-drop (omega arith)) ∙ n in
    let t : take k (drop l (diff_ends es)) ≡ count_up (l + 0) k =
    ap (λ (d : List ℕ). take k (drop l d)) (diff_ends_up 0 es s) ∙ ap (take k) (drop_counted l 0 (length es))
    ∙ take_counted k (0 + l) (length es - l) (omega arith) ∙ (λ i. count_up (q i) k) in
    ap (λ (d : List ℕ). shifted_all (wrapped base l) d ++ ((base + (h - l)) ∷ [])) t
    ∙ (λ i. shift_counted base l k 0 (omega arith) (omega arith) i ++ ((base + n i) ∷ []))
    ∙ (λ i. count_up (y i) k ++ ((base + suc k) ∷ []))
    ∙ counted_more base k
    ∙ (λ i. count_up (sym r i) (sym long i))
    ∙ sym (raise_counted base 0 (length part))
    ∙ ap (raised base) (sym (diff_ends_up 0 part (every_take stands (h - l) (drop l es) (every_drop stands l es s))))
  where
    q : 0 + l ≡ l + 0
    q = omega arith

    r : 0 + base ≡ base
    r = omega arith

-- the end of one entry
one_end : (e : Entry) (base : ℕ) → raised base (diff_ends (e ∷ [])) ≡ (base + length (diffs (e ∷ []))) ∷ []
unfolding diff_ends_from keep raised
one_end e base = Rattle.laws.proofs.Tests.by_test (stands e)
    (λ h. let q : 1 + base ≡ base + 1 = omega arith in rw (h, q))
    (λ h. let q : 0 + base ≡ base + 0 = omega arith in rw (h, q))

module _ (a b : List Entry) (sa : every stands a ≡ true) (sb : every stands b ≡ true)
    (few0 : length a ≤ limit) (few1 : length b ≤ limit) where
  diffs_are : (r : Report) → Serves (length a) (length b) r → diffs (entries_of a b r) ≡ diff_of (diffs a) (diffs b) r
  diffs_are r v = diffs_of a b sa sb r v

  single : (i j : ℕ) → i < length a → j < length b → entries_of a b (both i j) ≡ summed (get_or a i no_entry) (get_or b j no_entry) ∷ []
  single i j h k = rw (drop-cons a i no_entry h, drop-cons b j no_entry k)

  -- one report's ends
  ends_of : (base : ℕ) (r : Report) → Serves (length a) (length b) r → 1 ≤ width r → base + width r ≤ limit
      → raised base (diff_ends (entries_of a b r)) ≡ list_ends (diff_ends a) (diff_ends b) r (low_of r) base (base + length (diff_of (diffs a) (diffs b) r))
  unfolding list_ends
  ends_of base (this l h) v o m =
      let n : length (diff_of (diffs a) (diffs b) (this l h)) ≡ h - l = length_range l h (diffs a) v.0 (omega (arith, v.1, diffs-long a sa)) in
      sym (run_ends base l h a sa (omega arith) v.1 (omega (arith, v.1)) (omega arith))
      ∙ ap (λ (k : ℕ). shifted_all (wrapped base l) (take (h - 1 - l) (drop l (diff_ends a))) ++ ((base + k) ∷ [])) (sym n)
  ends_of base (that l h) v o m =
      let n : length (diff_of (diffs a) (diffs b) (that l h)) ≡ h - l = length_range l h (diffs b) v.0 (omega (arith, v.1, diffs-long b sb)) in
      sym (run_ends base l h b sb (omega arith) v.1 (omega (arith, v.1)) (omega arith))
      ∙ ap (λ (k : ℕ). shifted_all (wrapped base l) (take (h - 1 - l) (drop l (diff_ends b))) ++ ((base + k) ∷ [])) (sym n)
  ends_of base (both i j) v o m =
      ap (λ (es : List Entry). raised base (diff_ends es)) (single i j v.0 v.1)
      ∙ one_end (summed (get_or a i no_entry) (get_or b j no_entry)) base
      ∙ ap (λ (es : List Entry). (base + length (diffs es)) ∷ []) (sym (single i j v.0 v.1))
      ∙ ap (λ (d : List ℕ). (base + length d) ∷ []) (diffs_are (both i j) v)

  -- the diff ends that are written are those of the entries
  pub diff_ends_by_lem : (base : ℕ) (ts : List Report) → AllServe (length a) (length b) ts → AllSome ts → base + widths ts ≤ limit
      → raised base (diff_ends (entries_by a b ts)) ≡ diff_ends_by (diff_ends a) (diff_ends b) (diffs a) (diffs b) base ts
  unfolding entries_by diff_ends_by widths diff_ends_from raised
  diff_ends_by_lem base [] v o m = refl
  diff_ends_by_lem base (r ∷ ts) v o m =
      let d : length (diffs (entries_of a b r)) ≡ length (diff_of (diffs a) (diffs b) r) = ap length (diffs_are r v.0) in
      let k : length (diff_of (diffs a) (diffs b) r) ≤ width r = short_diffs (diffs a) (diffs b) r (rw (diffs-long a sa, diffs-long b sb) v.0) in
      ap (raised base) (diff_ends-append (entries_of a b r) (entries_by a b ts))
      ∙ raised-append base (diff_ends (entries_of a b r)) (raised (length (diffs (entries_of a b r))) (diff_ends (entries_by a b ts)))
      ∙ (λ i. ends_of base r v.0 o.0 (omega arith) i ++ raised_twice base (length (diffs (entries_of a b r))) (diff_ends (entries_by a b ts)) i)
      ∙ ap (λ (n : ℕ). list_ends (diff_ends a) (diff_ends b) r (low_of r) base (base + length (diff_of (diffs a) (diffs b) r)) ++ raised (base + n) (diff_ends (entries_by a b ts))) d
      ∙ ap (λ (l : List ℕ). list_ends (diff_ends a) (diff_ends b) r (low_of r) base (base + length (diff_of (diffs a) (diffs b) r)) ++ l)
      (diff_ends_by_lem (base + length (diff_of (diffs a) (diffs b) r)) ts v.1 o.1 (omega arith))
