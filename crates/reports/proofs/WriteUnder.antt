-- Reports that lie under each other are found: the reports of items that start short of two lists' ends are those of the two lists.
use Prim.Native.Nat.{ℕ, zero, suc, ◌-◌, ◌<◌, ◌≤◌}
use mathlib.Core.Path.{◌≡◌, refl, ◌∙◌, ap}
use mathlib.Core.Bool.{true}
use mathlib.Core.List.{List, [], ◌∷◌, ◌++◌}
use native.Mathlib.Omega.{arith}
use lib.Dec.{ltb}
use lib.ListN.{length, get_or, drop, length-append}
use lib.Seq.{drop-append_seam}
use borrow.Author.Tests.{ltb-true, lt-ltb, le-ltb, eqb-true}
use Rattle.laws.proofs.Tests.{and_left, and_right}
use Rattle.chunk.specs.Words.{ends_rise}
use Rattle.chunk.specs.Contents.{start_of}
use Rattle.laws.proofs.Ends.{ends_up, rise_rises}
use Rattle.reports.specs.Survey.{Report, this, that, both}
use Rattle.reports.specs.Write.{Inside, Shared, Under, ended, first, second, shared, inside_from, group_size, Found, AllServe, AllSome, Upward}

-- ---- ends that rise

low_below : (low : ℕ) (ends : List ℕ) (top i : ℕ) → ends_rise low ends top ≡ true → i < length ends → low < get_or ends i 0
unfolding ends_rise
low_below low [] top i h k = absurd (omega arith)
low_below low (e ∷ ends) top zero h k = ltb-true low e (and_left _ _ h)
low_below low (e ∷ ends) top (suc i) h k =
    omega (arith, ltb-true low e (and_left _ _ h), low_below e ends top i (and_right (ltb low e) _ h) (omega arith))

-- a later list starts at or past an earlier one's end
pub starts_past : (ends : List ℕ) (top i l : ℕ) → ends_rise 0 ends top ≡ true → i < l → l ≤ length ends → get_or ends i 0 ≤ start_of ends l
starts_past ends top i zero h o k = absurd (omega arith)
starts_past ends top i (suc l) h o k = ends_up ends i l (rise_rises 0 ends top h) (omega arith) (omega arith)

-- ---- the reports of two lists, and where they stop

inside_all : (low0 high0 low1 high1 : ℕ) (g rest : List Report) → Inside low0 high0 low1 high1 g → inside_from high0 high1 rest ≡ []
    → inside_from high0 high1 (g ++ rest) ≡ g
unfolding inside_from
inside_all low0 high0 low1 high1 [] rest n e = e
inside_all low0 high0 low1 high1 (this x y ∷ g) rest n e =
    rw (lt-ltb x high0 (omega (arith, n.1, n.2))) (ap (λ (l : List Report). this x y ∷ l) (inside_all y high0 low1 high1 g rest n.3 e))
inside_all low0 high0 low1 high1 (that x y ∷ g) rest n e =
    rw (lt-ltb x high1 (omega (arith, n.1, n.2))) (ap (λ (l : List Report). that x y ∷ l) (inside_all low0 high0 y high1 g rest n.3 e))
inside_all low0 high0 low1 high1 (both i j ∷ g) rest n e =
    rw (lt-ltb i high0 n.1) (ap (λ (l : List Report). both i j ∷ l) (inside_all (suc i) high0 (suc j) high1 g rest n.4 e))

-- some reports of later lists start past the ends
stops_at : (low0 high0 low1 high1 end0 end1 : ℕ) (g rest : List Report) → 0 < length g → Inside low0 high0 low1 high1 g → end0 ≤ low0 → end1 ≤ low1
    → inside_from end0 end1 (g ++ rest) ≡ []
unfolding inside_from
stops_at low0 high0 low1 high1 end0 end1 [] rest f n h k = absurd (omega arith)
stops_at low0 high0 low1 high1 end0 end1 (this x y ∷ g) rest f n h k = rw (le-ltb x end0 (omega (arith, n.0)))
stops_at low0 high0 low1 high1 end0 end1 (that x y ∷ g) rest f n h k = rw (le-ltb x end1 (omega (arith, n.0)))
stops_at low0 high0 low1 high1 end0 end1 (both i j ∷ g) rest f n h k = rw (le-ltb i end0 (omega (arith, n.0)))

module _ (a b : List ℕ) (top0 top1 : ℕ) (rise0 : ends_rise 0 a top0 ≡ true) (rise1 : ends_rise 0 b top1 ≡ true) where
  stops : (i j : ℕ) (ls is : List Report) → Inside (suc i) (length a) (suc j) (length b) ls → Under a b ls is
      → inside_from (get_or a i 0) (get_or b j 0) is ≡ []
  unfolding inside_from
  stops i j [] is n ended = refl
  stops i j (this l h ∷ ls) is n (first {x = p} r u) =
      rw (le-ltb p (get_or a i 0) (omega (arith, starts_past a top0 i l rise0 (omega (arith, n.0)) (omega (arith, n.1, n.2)), r.from)))
  stops i j (that l h ∷ ls) is n (second {x = p} r u) =
      rw (le-ltb p (get_or b j 0) (omega (arith, starts_past b top1 j l rise1 (omega (arith, n.0)) (omega (arith, n.1, n.2)), r.from)))
  stops i j (both k m ∷ ls) is n (shared {is = rest} g s e u) =
      ap (inside_from (get_or a i 0) (get_or b j 0)) e
      ∙ stops_at (start_of a k) (get_or a k 0) (start_of b m) (get_or b m 0) (get_or a i 0) (get_or b j 0) g rest s.some s.inside
      (starts_past a top0 i k rise0 (omega (arith, n.0)) (omega (arith, n.1)))
      (starts_past b top1 j m rise1 (omega (arith, n.2)) (omega (arith, n.3)))

  -- what lies under a shared list is what is found for it
  pub group_found : (i j : ℕ) (ls rest js g : List Report) → Inside (suc i) (length a) (suc j) (length b) ls → Shared a b i j g → js ≡ g ++ rest → Under a b ls rest
      → group_size a b (both i j) js ≡ length g
  unfolding group_size
  group_found i j ls rest js g n s e u =
      ap (λ (l : List Report). length (inside_from (get_or a i 0) (get_or b j 0) l)) e
      ∙ ap length (inside_all (start_of a i) (get_or a i 0) (start_of b j) (get_or b j 0) g rest s.inside (stops i j ls rest n u))

  -- reports of lists in order, with reports of items under them, are found
  pub found : (low0 low1 : ℕ) (ls is : List Report) → Inside low0 (length a) low1 (length b) ls → Under a b ls is → Found a b ls is
  unfolding group_size
  found low0 low1 [] is n ended = record {}
  found low0 low1 (this l h ∷ ls) is n (first r u) =
      ((omega (arith, r.some), r.there), omega (arith, r.some), omega arith, omega arith, found h low1 ls _ n.3 u)
  found low0 low1 (that l h ∷ ls) is n (second r u) =
      ((omega (arith, r.some), r.there), omega (arith, r.some), omega arith, omega arith, found low0 h ls _ n.3 u)
  found low0 low1 (both i j ∷ ls) is n (shared {is = rest} g s e u) =
      let z : length (inside_from (get_or a i 0) (get_or b j 0) is) ≡ length g = group_found i j ls rest is g n.4 s e u in
      let d : drop (length (inside_from (get_or a i 0) (get_or b j 0) is)) is ≡ rest =
      (λ k. drop (z k) (e k)) ∙ drop-append_seam g rest in (
        (s.there0, s.there1),
        omega arith,
        omega (arith, s.some),
        omega (arith, ap length e, length-append g rest),
        rw d (found (suc i) (suc j) ls rest n.4 u),
      )

-- ---- what the writers ask of the reports of items

last_reach : (low : ℕ) (ends : List ℕ) (top i : ℕ) → ends_rise low ends top ≡ true → i < length ends → get_or ends i 0 ≤ top
unfolding ends_rise
last_reach low [] top i h k = absurd (omega arith)
last_reach low (e ∷ []) top zero h k = let q : e ≡ top = eqb-true e top (and_right (ltb low e) _ h) in omega arith
last_reach low (e ∷ []) top (suc i) h k = absurd (omega arith)
last_reach low (e ∷ f ∷ ends) top zero h k =
    omega (arith, low_below e (f ∷ ends) top 0 (and_right (ltb low e) _ h) (omega arith), last_reach e (f ∷ ends) top 0 (and_right (ltb low e) _ h) (omega arith))
last_reach low (e ∷ f ∷ ends) top (suc i) h k = last_reach e (f ∷ ends) top i (and_right (ltb low e) _ h) (omega arith)

serves_append : (n m : ℕ) (g rest : List Report) → AllServe n m g → AllServe n m rest → AllServe n m (g ++ rest)
serves_append n m [] rest v w = w
serves_append n m (r ∷ g) rest v w = (v.0, serves_append n m g rest v.1 w)

some-append : (g rest : List Report) → AllSome g → AllSome rest → AllSome (g ++ rest)
some-append [] rest v w = w
some-append (r ∷ g) rest v w = (v.0, some-append g rest v.1 w)

pub inside_serves : (low0 high0 low1 high1 n m : ℕ) (g : List Report) → Inside low0 high0 low1 high1 g → high0 ≤ n → high1 ≤ m → AllServe n m g
inside_serves low0 high0 low1 high1 n m [] v h k = record {}
inside_serves low0 high0 low1 high1 n m (this x y ∷ g) v h k =
    ((omega (arith, v.1), omega (arith, v.2)), inside_serves y high0 low1 high1 n m g v.3 h k)
inside_serves low0 high0 low1 high1 n m (that x y ∷ g) v h k =
    ((omega (arith, v.1), omega (arith, v.2)), inside_serves low0 high0 y high1 n m g v.3 h k)
inside_serves low0 high0 low1 high1 n m (both i j ∷ g) v h k =
    ((omega (arith, v.1), omega (arith, v.3)), inside_serves (suc i) high0 (suc j) high1 n m g v.4 h k)

pub inside-some : (low0 high0 low1 high1 : ℕ) (g : List Report) → Inside low0 high0 low1 high1 g → AllSome g
inside-some low0 high0 low1 high1 [] v = record {}
inside-some low0 high0 low1 high1 (this x y ∷ g) v = (omega (arith, v.1), inside-some y high0 low1 high1 g v.3)
inside-some low0 high0 low1 high1 (that x y ∷ g) v = (omega (arith, v.1), inside-some low0 high0 y high1 g v.3)
inside-some low0 high0 low1 high1 (both i j ∷ g) v = (omega arith, inside-some (suc i) high0 (suc j) high1 g v.4)

module _ (a b : List ℕ) (top0 top1 : ℕ) (rise0 : ends_rise 0 a top0 ≡ true) (rise1 : ends_rise 0 b top1 ≡ true) where
  -- their ranges are there
  pub under_serves : (ls is : List Report) → Under a b ls is → AllServe top0 top1 is
  under_serves [] is ended = record {}
  under_serves (this l h ∷ ls) is (first {is = rest} r u) =
      ((omega (arith, r.full), omega (arith, r.to, last_reach 0 a top0 (h - 1) rise0 (omega (arith, r.some, r.there)))), under_serves ls rest u)
  under_serves (that l h ∷ ls) is (second {is = rest} r u) =
      ((omega (arith, r.full), omega (arith, r.to, last_reach 0 b top1 (h - 1) rise1 (omega (arith, r.some, r.there)))), under_serves ls rest u)
  under_serves (both i j ∷ ls) is (shared {is = rest} g s e u) =
      rw e (serves_append top0 top1 g rest
      (inside_serves (start_of a i) (get_or a i 0) (start_of b j) (get_or b j 0) top0 top1 g s.inside (last_reach 0 a top0 i rise0 s.there0) (last_reach 0 b top1 j rise1 s.there1))
      (under_serves ls rest u))

  -- and none is empty
  pub under_some : (ls is : List Report) → Under a b ls is → AllSome is
  under_some [] is ended = record {}
  under_some (this l h ∷ ls) is (first {is = rest} r u) = (omega (arith, r.full), under_some ls rest u)
  under_some (that l h ∷ ls) is (second {is = rest} r u) = (omega (arith, r.full), under_some ls rest u)
  under_some (both i j ∷ ls) is (shared {is = rest} g s e u) =
      rw e (some-append g rest (inside-some (start_of a i) (get_or a i 0) (start_of b j) (get_or b j 0) g s.inside) (under_some ls rest u))

-- ranges that are there go up
pub serves_upward : (n m : ℕ) (rs : List Report) → AllServe n m rs → Upward rs
serves_upward n m [] v = record {}
serves_upward n m (this l h ∷ rs) v = (v.0.0, serves_upward n m rs v.1)
serves_upward n m (that l h ∷ rs) v = (v.0.0, serves_upward n m rs v.1)
serves_upward n m (both i j ∷ rs) v = (record {}, serves_upward n m rs v.1)
