-- Ends written list by list: how many items reports name, which reports lie under one of lists, and one turn of the loop over lists.
use Prim.Native.Nat.{ℕ, zero, suc, ◌+◌, ◌-◌, ◌<◌, ◌≤◌}
use mathlib.Core.Path.{◌≡◌, refl, sym, ◌∙◌, ap}
use mathlib.Core.Bool.{Bool, true, false}
use mathlib.Core.List.{List, [], ◌∷◌, ◌++◌}
use native.Mathlib.Omega.{arith}
use native.Mathlib.Numerals.{add-one}
use lib.ListN.{length, take, drop, set, length-append, length-map}
use lib.Seq.{set_split}
use Rattle.chunk.specs.Words.{limit}
use Rattle.meld.specs.Copy.{shifted, shifted_all}
use Rattle.reports.specs.Survey.{Report, this, that, both}
use Rattle.reports.specs.Scratch.{placed, reports_at}
use Rattle.reports.specs.Write.{width, widths, Serves, Upward, Counting, starts_in, inside_from, group_size, first_low, wrapped, list_ends, ends_by, ListRoom, EndsRoom}
use Rattle.reports.proofs.Placing.{placed-none, placed_twice, length-placed}
use Rattle.reports.proofs.WriteRuns.{length_range}

-- ---- widths

-- the items so far, and with those that are left the whole count
pub record Tallying (goal : ℕ) (rs : List Report) (total : ℕ) : Type 0 where
  pub counting : Counting rs total
  pub whole : total + widths rs ≡ goal

module _ (goal : ℕ) (r : Report) (rs : List Report) (total : ℕ) (w : Tallying goal (r ∷ rs) total) where
  pub next_small : total + width r ≤ limit
  unfolding widths
  next_small = omega (arith, w.counting.small)

  pub next_tally : {n : ℕ} → n ≡ width r → Tallying goal rs (total + n)
  unfolding widths
  next_tally e =
      rw e
      (record {
        counting = record { upward = w.counting.upward.1; small = omega (arith, w.counting.small) };
        whole = omega (arith, w.whole);
      })

pub no_more_tally : (goal total : ℕ) → Tallying goal [] total → total ≡ goal
unfolding widths
no_more_tally goal total w = omega (arith, w.whole)

-- ---- reports in two lists

pub record Finding (e f goal count : ℕ) (rs : List Report) (size : ℕ) : Type 0 where
  pub passed : size + length rs ≤ count
  pub whole : size + length (inside_from e f rs) ≡ goal

module _ (e f goal count : ℕ) (r : Report) (rs : List Report) (size : ℕ) {b : Bool} (w : Finding e f goal count (r ∷ rs) size) (q : b ≡ starts_in e f r) where
  pub found_last : b ≡ false → size ≡ goal
  unfolding inside_from
  found_last n =
      let m : starts_in e f r ≡ false = sym q ∙ n in
      let v = rw m at w.whole in
      omega arith

  pub found_more : b ≡ true → Finding e f goal count rs (size + 1)
  unfolding inside_from
  found_more n =
      let m : starts_in e f r ≡ true = sym q ∙ n in
      let v = rw m at w.whole in
      record { passed = omega (arith, w.passed); whole = omega arith }

pub found_all : (e f goal count size : ℕ) → Finding e f goal count [] size → size ≡ goal
unfolding inside_from
found_all e f goal count size w = omega (arith, w.whole)

-- ---- the ends of one report's lists

pub set-placed : (i v : ℕ) (l : List ℕ) → i < length l → set l i v ≡ placed i (v ∷ []) l
unfolding placed
set-placed i v l h = set_split l i v h ∙ ap (λ (n : ℕ). take i l ++ (v ∷ drop n l)) (sym (add-one i))

-- ends and one more past them
pub one_more : (at n v : ℕ) (new out out' : List ℕ) → length new ≡ n → at + n < length out → out' ≡ placed at new out
    → set out' (at + n) v ≡ placed at (new ++ (v ∷ [])) out
one_more at n v new out out' e h q =
    let m : length (placed at new out) ≡ length out = length-placed at out new (omega arith) in
    rw q
    (set-placed (at + n) v (placed at new out) (omega arith)
    ∙ ap (λ (k : ℕ). placed (at + k) (v ∷ []) (placed at new out)) (sym e)
    ∙ placed_twice at out new (v ∷ []) (omega arith))

pub lists_long : (by low high : ℕ) (ends : List ℕ) → low ≤ high - 1 → high - 1 ≤ length ends → length (shifted_all by (take (high - 1 - low) (drop low ends))) ≡ high - 1 - low
lists_long by low high ends h k = length-map (take (high - 1 - low) (drop low ends)) (shifted by) ∙ length_range low (high - 1) ends h k

-- ---- one turn over the lists

pub length_reports : (s : List ℕ) (p n : ℕ) → length (reports_at s p n) ≡ n
unfolding reports_at
length_reports s p zero = refl
length_reports s p (suc n) = ap suc (length_reports s (p + 3) n)

widths_cut : (k : ℕ) (rs : List Report) → widths rs ≡ widths (take k rs) + widths (drop k rs)
unfolding widths
widths_cut zero rs = omega arith
widths_cut (suc k) [] = refl
widths_cut (suc k) (r ∷ rs) = omega (arith, widths_cut k rs)

upward-take : (k : ℕ) (rs : List Report) → Upward rs → Upward (take k rs)
upward-take zero rs u = record {}
upward-take (suc k) [] u = record {}
upward-take (suc k) (r ∷ rs) u = (u.0, upward-take k rs u.1)

upward-drop : (k : ℕ) (rs : List Report) → Upward rs → Upward (drop k rs)
upward-drop zero rs u = u
upward-drop (suc k) [] u = u
upward-drop (suc k) (r ∷ rs) u = upward-drop k rs u.1

-- as many ends as lists
pub length-ends : (a b : List ℕ) (r : Report) (x base next : ℕ) → Serves (length a) (length b) r → 1 ≤ width r → length (list_ends a b r x base next) ≡ width r
unfolding list_ends
length-ends a b (this l h) x base next v o =
    length-append (shifted_all (wrapped base x) (take (h - 1 - l) (drop l a))) (next ∷ [])
    ∙ ap (λ (n : ℕ). n + 1) (lists_long (wrapped base x) l h a (omega arith) (omega (arith, v.1))) ∙ (omega arith)
length-ends a b (that l h) x base next v o =
    length-append (shifted_all (wrapped base x) (take (h - 1 - l) (drop l b))) (next ∷ [])
    ∙ ap (λ (n : ℕ). n + 1) (lists_long (wrapped base x) l h b (omega arith) (omega (arith, v.1))) ∙ (omega arith)
length-ends a b (both i j) x base next v o = refl

-- the definition, by what its parts are
ends_parts : (a b : List ℕ) (r : Report) (rs is d : List Report) (k low base next : ℕ) → group_size a b r is ≡ k → first_low is ≡ low → base + widths (take k is) ≡ next → drop k is ≡ d
    → ends_by a b base (r ∷ rs) is ≡ list_ends a b r low base next ++ ends_by a b next rs d
unfolding ends_by
ends_parts a b r rs is d k low base next e f g h =
    ap (λ (n : ℕ). list_ends a b r (first_low is) base (base + widths (take n is)) ++ ends_by a b (base + widths (take n is)) rs (drop n is)) e
    ∙ (λ i. list_ends a b r (f i) base (g i) ++ ends_by a b (g i) rs (h i))

pub record Ending (a b goal out₀ out : List ℕ) (ls is : List Report) (base at : ℕ) : Type 0 where
  pub room : EndsRoom a b ls is base at (length out₀)
  pub same : length out ≡ length out₀
  pub whole : placed at (ends_by a b base ls is) out ≡ goal

module _ (a b goal out₀ out : List ℕ) (r : Report) (ls is : List Report) (base at : ℕ) (w : Ending a b goal out₀ out (r ∷ ls) is base at) where
  module _ (size : ℕ) (e : size ≡ group_size a b r is) where
    pub size-some : (1 ≤ size) × (size ≤ length is)
    size-some = (omega (arith, w.room.found.2), omega (arith, w.room.found.3))

    pub count_room : Counting (take size is) base
    count_room =
        record {
          upward = upward-take size is w.room.counting.upward;
          small = omega (arith, w.room.counting.small, widths_cut size is);
        }

    module _ (next : ℕ) (f : next ≡ base + widths (take size is)) where
      pub list_room : ListRoom a b r base next at (length out)
      unfolding widths
      list_room =
          record {
            serves = w.room.found.0;
            rise0 = w.room.rise0;
            rise1 = w.room.rise1;
            some = w.room.found.1;
            fits = omega (arith, w.room.fits, w.same);
            small = omega (arith, count_room.small);
            grows = omega arith;
          }

      pub next_ending : {at' : ℕ} {out' : List ℕ} → at' ≡ at + width r → out' ≡ placed at (list_ends a b r (first_low is) base next) out
          → Ending a b goal out₀ out' ls (drop size is) next at'
      unfolding widths
      next_ending i j =
          let ends : List ℕ = list_ends a b r (first_low is) base next in
          let long : length ends ≡ width r = length-ends a b r (first_low is) base next w.room.found.0 w.room.found.1 in
          let fit : at + length ends ≤ length out = omega (arith, w.room.fits, w.same) in
          let parts : ends_by a b base (r ∷ ls) is ≡ ends ++ ends_by a b next ls (drop size is) =
          ends_parts a b r ls is (drop size is) size (first_low is) base next (sym e) refl (sym f) refl in
          rw (i, j)
          (record {
            room =
                record {
                  rise0 = w.room.rise0;
                  rise1 = w.room.rise1;
                  found = rw (← e) at w.room.found.4;
                  counting =
                      record {
                        upward = upward-drop size is w.room.counting.upward;
                        small = omega (arith, w.room.counting.small, widths_cut size is);
                      };
                  fits = omega (arith, w.room.fits);
                };
            same = length-placed at out ends fit ∙ w.same;
            whole =
                ap (λ (k : ℕ). placed (at + k) (ends_by a b next ls (drop size is)) (placed at ends out)) (sym long)
                ∙ placed_twice at out ends (ends_by a b next ls (drop size is)) fit
                ∙ ap (λ (l : List ℕ). placed at l out) (sym parts)
                ∙ w.whole;
          })

pub no_more_ends : (a b goal out₀ out : List ℕ) (is : List Report) (base at : ℕ) → Ending a b goal out₀ out [] is base at → out ≡ goal
unfolding ends_by
no_more_ends a b goal out₀ out is base at w = sym (placed-none at out) ∙ w.whole
