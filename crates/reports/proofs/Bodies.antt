-- The items that reports name are rows by the lists and the ends that the reports of their lists name: one layer's law, and the bodies of the
-- entries that reports of times name.
use Prim.Native.Nat.{ℕ, suc, ◌+◌, ◌-◌, ◌<◌, ◌≤◌}
use mathlib.Core.Path.{◌≡◌, refl, sym, ◌∙◌, ap, subst}
use mathlib.Core.Bool.{Bool, true, cond, ◌&&◌}
use mathlib.Core.List.{List, [], ◌∷◌, ◌++◌, map, map-append, map-map, append_assoc, append-nil}
use native.Mathlib.Omega.{arith}
use lib.Dec.{eqb}
use lib.ListN.{length, get_or, take, drop, length-append, length-drop, length-map}
use lib.Seq.{length-take-le, take-take, take-append_seam, drop-append_seam, drop-cons}
use borrow.Author.Tests.{eqb-true, eq-eqb}
use Rattle.chunk.specs.Entry.{Entry, same_list, every}
use Rattle.chunk.specs.Bodies.{lasts_of, ends_of, same_key, keys, vals, val_ends, time_ends}
use Rattle.chunk.specs.Words.{limit}
use Rattle.chunk.specs.Contents.{start_of}
use Rattle.laws.proofs.Tests.{by_test, and_left, and_right, and_both}
use Rattle.laws.proofs.Lists.{map-take, map-drop, every_append, every_imp}
use Rattle.laws.proofs.Groups.{Alike, alike-key, alike_list}
use Rattle.reports.specs.Survey.{Report, this, that, both}
use Rattle.reports.specs.Write.{named, items_by, entries_of, entries_by, added_to, Run, Inside, Under, ended, first, second, shared, width, widths, group_size, list_ends, ends_by}
use Rattle.reports.proofs.WriteUnder.{group_found}
use Rattle.reports.specs.Woven.{Level, apart, no_entry}
use Rattle.reports.specs.Layered.{Layered, BodiesBy}
use Rattle.reports.proofs.Rows.{Rows, none, more, head_last, rows_ends, rows_lasts, rows_of, rows_append, rows_run, rows_rise, reach}

-- ---- several reports

widths-append : (g is : List Report) → widths (g ++ is) ≡ widths g + widths is
unfolding widths
widths-append [] is = omega arith
widths-append (r ∷ g) is = omega (arith, widths-append g is)

items_append {ℓ} : {A : Type ℓ} (a b : List A) (g is : List Report) → items_by a b (g ++ is) ≡ items_by a b g ++ items_by a b is
unfolding items_by
items_append a b [] is = refl
items_append a b (r ∷ g) is = ap (λ l. named a b r ++ l) (items_append a b g is) ∙ sym (append_assoc (named a b r) (items_by a b g) (items_by a b is))

map-named {ℓ κ} : {A : Type ℓ} {B : Type κ} (f : A → B) (a b : List A) (r : Report) → map f (named a b r) ≡ named (map f a) (map f b) r
map-named f a b (this l h) = map-take f (h - l) (drop l a) ∙ ap (take (h - l)) (map-drop f l a)
map-named f a b (that l h) = map-take f (h - l) (drop l b) ∙ ap (take (h - l)) (map-drop f l b)
map-named f a b (both i j) = map-take f 1 (drop i a) ∙ ap (take 1) (map-drop f i a)

-- what the items say
pub map_items {ℓ κ} : {A : Type ℓ} {B : Type κ} (f : A → B) (a b : List A) (rs : List Report) → map f (items_by a b rs) ≡ items_by (map f a) (map f b) rs
unfolding items_by
map_items f a b [] = refl
map_items f a b (r ∷ rs) = map-append f (named a b r) (items_by a b rs) ∙ (λ i. map-named f a b r i ++ map_items f a b rs i)

-- ---- the items within one list

module _ (same : Entry → Entry → Bool) where
  all_one : {n : ℕ} {z : List Entry} {ends : List ℕ} (x : Entry) → Rows same n z (x ∷ []) ends → every (same x) z ≡ true
  unfolding every
  all_one x (more y g s ev e p none) = ap (every (same x)) (e ∙ append-nil g) ∙ ev

  pub rows_long : {n : ℕ} {z reps : List Entry} {ends : List ℕ} → Rows same n z reps ends → length reps ≡ length ends
  rows_long none = refl
  rows_long (more x g s ev e p r) = ap suc (rows_long r)

  -- what is within list i is the same as its last
  pub record Within (z reps : List Entry) (i x y : ℕ) : Type 0 where
    pub alike : every (same (get_or reps i no_entry)) (take (y - x) (drop x z)) ≡ true
    pub long : length (take (y - x) (drop x z)) ≡ y - x

  pub within : {z reps : List Entry} {ends : List ℕ} → Rows same 0 z reps ends → length z ≤ limit → (i x y : ℕ) → i < length ends
      → start_of ends i ≤ x → x < y → y ≤ get_or ends i 0 → Within z reps i x y
  within {z} {reps} {ends} r few i x y there from some to =
      let top : get_or ends i 0 ≤ 0 + length z = reach same r i there in
      let q : suc i - 1 ≡ i = omega arith in
      let o : suc i - i ≡ 1 = omega arith in
      let run : Run ends i (suc i) x y =
      record {
        some = omega arith;
        there = omega arith;
        from = from;
        reached = omega arith;
        left = rw q (omega arith);
        to = rw q to;
        full = some;
      } in
      let one : take (suc i - i) (drop i reps) ≡ get_or reps i no_entry ∷ [] = rw (o, drop-cons reps i no_entry (omega (arith, rows_long r))) in
      record {
        alike = all_one (get_or reps i no_entry) (rw one at (rows_run same r 0 i (suc i) x y run (omega arith) (omega arith)));
        long = length-take-le (y - x) (drop x z) (simp length-drop (omega arith));
      }

-- ---- one layer

module _ (same : Entry → Entry → Bool) (alike : Alike same) (itself : (a : Entry) → same a a ≡ true)
    (es fs : List Entry) (few0 : length es ≤ limit) (few1 : length fs ≤ limit) where
  abbrev ends0 : List ℕ
  ends0 = ends_of same 0 es

  abbrev ends1 : List ℕ
  ends1 = ends_of same 0 fs

  abbrev lasts0 : List Entry
  lasts0 = lasts_of same es

  abbrev lasts1 : List Entry
  lasts1 = lasts_of same fs

  r0 : Rows same 0 es lasts0 ends0
  r0 = rows_of same alike itself 0 es

  r1 : Rows same 0 fs lasts1 ends1
  r1 = rows_of same alike itself 0 fs

  module _ (i j : ℕ) (there0 : i < length ends0) (there1 : j < length ends1) (level : same (get_or lasts0 i no_entry) (get_or lasts1 j no_entry) ≡ true) where
    abbrev rep : Entry
    rep = get_or lasts0 i no_entry

    -- what reports of items of a shared list name
    record One (g : List Report) : Type 0 where
      like : every (same rep) (items_by es fs g) ≡ true
      long : length (items_by es fs g) ≡ widths g

    also : (z : List Entry) → every (same (get_or lasts1 j no_entry)) z ≡ true → every (same rep) z ≡ true
    also z h = every_imp (same (get_or lasts1 j no_entry)) (same rep) (λ (a : Entry) (k : same (get_or lasts1 j no_entry) a ≡ true). sym (alike rep (get_or lasts1 j no_entry) a level) ∙ k) z h

    joined : (r : Report) (g : List Report) → every (same rep) (named es fs r) ≡ true → length (named es fs r) ≡ width r → One g → One (r ∷ g)
    unfolding items_by widths
    joined r g h k o =
        record {
          like = every_append (same rep) (named es fs r) (items_by es fs g) ∙ and_both _ _ h o.like;
          long = length-append (named es fs r) (items_by es fs g) ∙ omega (arith, o.long);
        }

    one_list : (low0 low1 : ℕ) (g : List Report) → start_of ends0 i ≤ low0 → start_of ends1 j ≤ low1 → Inside low0 (get_or ends0 i 0) low1 (get_or ends1 j 0) g → One g
    unfolding items_by widths every
    one_list low0 low1 [] f t n = record { like = refl; long = refl }
    one_list low0 low1 (this x y ∷ g) f t n =
        let w : Within same es lasts0 i x y = within same r0 few0 i x y there0 (omega (arith, n.0)) n.1 n.2 in
        joined (this x y) g w.alike w.long (one_list y low1 g (omega (arith, n.0, n.1)) t n.3)
    one_list low0 low1 (that x y ∷ g) f t n =
        let w : Within same fs lasts1 j x y = within same r1 few1 j x y there1 (omega (arith, n.0)) n.1 n.2 in
        joined (that x y) g (also (take (y - x) (drop x fs)) w.alike) w.long (one_list low0 y g f (omega (arith, n.0, n.1)) n.3)
    one_list low0 low1 (both x y ∷ g) f t n =
        let w : Within same es lasts0 i x (suc x) = within same r0 few0 i x (suc x) there0 (omega (arith, n.0)) (omega arith) n.1 in
        let o : suc x - x ≡ 1 = omega arith in
        joined (both x y) g (rw o at w.alike) (rw o at w.long) (one_list (suc x) (suc y) g (omega (arith, n.0)) (omega (arith, n.2)) n.4)

  some-wide : (low0 high0 low1 high1 : ℕ) (g : List Report) → 0 < length g → Inside low0 high0 low1 high1 g → 0 < widths g
  unfolding widths
  some-wide low0 high0 low1 high1 [] h n = absurd (omega arith)
  some-wide low0 high0 low1 high1 (this x y ∷ g) h n = omega (arith, n.1)
  some-wide low0 high0 low1 high1 (that x y ∷ g) h n = omega (arith, n.1)
  some-wide low0 high0 low1 high1 (both x y ∷ g) h n = omega arith

  -- the items that reports name, as rows
  rows_by : (base low0 low1 : ℕ) (ls is : List Report) → Under ends0 ends1 ls is → Inside low0 (length ends0) low1 (length ends1) ls → Level same lasts0 lasts1 ls
      → base + widths is ≤ limit → Rows same base (items_by es fs is) (items_by lasts0 lasts1 ls) (ends_by ends0 ends1 base ls is)
  unfolding items_by ends_by group_size widths list_ends
  rows_by base low0 low1 [] is ended n v m = none
  rows_by base low0 low1 (this l h ∷ ls) is (first {x = x} {y = y} {is = rest} u d) n v m =
      let q : base + (y - x + 0) ≡ base + (y - x) = omega arith in
      let top : get_or ends0 (h - 1) 0 ≤ 0 + length es = reach same r0 (h - 1) (omega (arith, u.some, u.there)) in
      let k : length (take (y - x) (drop x es)) ≡ y - x = length-take-le (y - x) (drop x es) (simp length-drop (omega (arith, u.to))) in
      rw q (rows_append same (rows_run same r0 base l h x y u (omega arith) (omega arith)) (omega arith)
      (rows_by (base + (y - x)) h low1 ls rest d n.3 v (omega arith)))
  rows_by base low0 low1 (that l h ∷ ls) is (second {x = x} {y = y} {is = rest} u d) n v m =
      let q : base + (y - x + 0) ≡ base + (y - x) = omega arith in
      let top : get_or ends1 (h - 1) 0 ≤ 0 + length fs = reach same r1 (h - 1) (omega (arith, u.some, u.there)) in
      let k : length (take (y - x) (drop x fs)) ≡ y - x = length-take-le (y - x) (drop x fs) (simp length-drop (omega (arith, u.to))) in
      rw q (rows_append same (rows_run same r1 base l h x y u (omega arith) (omega arith)) (omega arith)
      (rows_by (base + (y - x)) low0 h ls rest d n.3 v (omega arith)))
  rows_by base low0 low1 (both i j ∷ ls) is (shared {is = rest} g s e d) n v m =
      let size : group_size ends0 ends1 (both i j) is ≡ length g =
      group_found ends0 ends1 (0 + length es) (0 + length fs) (rows_rise same r0) (rows_rise same r1) i j ls rest is g n.4 s e d in
      let o : One i j s.there0 s.there1 v.0 g =
      one_list i j s.there0 s.there1 v.0 (start_of ends0 i) (start_of ends1 j) g (omega arith) (omega arith) s.inside in
      let head : take (group_size ends0 ends1 (both i j) is) is ≡ g = (λ k. take (size k) (e k)) ∙ take-append_seam g rest in
      let tail : drop (group_size ends0 ends1 (both i j) is) is ≡ rest = (λ k. drop (size k) (e k)) ∙ drop-append_seam g rest in
      let its_ends : ends_by ends0 ends1 base (both i j ∷ ls) is ≡ (base + widths g) ∷ ends_by ends0 ends1 (base + widths g) ls rest =
      (λ k. (base + widths (head k)) ∷ ends_by ends0 ends1 (base + widths (head k)) ls (tail k)) in
      let its_items : items_by es fs is ≡ items_by es fs g ++ items_by es fs rest = ap (items_by es fs) e ∙ items_append es fs g rest in
      let its-last : items_by lasts0 lasts1 (both i j ∷ ls) ≡ get_or lasts0 i no_entry ∷ items_by lasts0 lasts1 ls =
      ap (λ (l : List Entry). take 1 l ++ items_by lasts0 lasts1 ls) (drop-cons lasts0 i no_entry (omega (arith, s.there0, rows_long same r0))) in
      let few : base + widths g + widths rest ≤ limit = omega (arith, ap widths e, widths-append g rest) in
      let next : Rows same (base + widths g) (items_by es fs rest) (items_by lasts0 lasts1 ls) (ends_by ends0 ends1 (base + widths g) ls rest) =
      rows_by (base + widths g) (suc i) (suc j) ls rest d n.4 v.1 few in
      let wide : 0 < widths g = some-wide (start_of ends0 i) (get_or ends0 i 0) (start_of ends1 j) (get_or ends1 j 0) g s.some s.inside in
      let here : Rows same base (items_by es fs is) (get_or lasts0 i no_entry ∷ items_by lasts0 lasts1 ls) ((base + widths g) ∷ ends_by ends0 ends1 (base + widths g) ls rest) =
      more {n = base} {m = base + widths g} (get_or lasts0 i no_entry) (items_by es fs g) (omega (arith, o.long)) o.like its_items (omega (arith, o.long)) next in
      subst (λ (l : List Entry). Rows same base (items_by es fs is) l (ends_by ends0 ends1 base (both i j ∷ ls) is)) (sym its-last)
      (subst (λ (l : List ℕ). Rows same base (items_by es fs is) (get_or lasts0 i no_entry ∷ items_by lasts0 lasts1 ls) l) (sym its_ends) here)

  -- one layer: reports of its lists, and of its items under them
  module _ (ls is : List Report) (under : Under ends0 ends1 ls is) (inside : Inside 0 (length ends0) 0 (length ends1) ls) (level : Level same lasts0 lasts1 ls)
      (unlike : apart same (items_by lasts0 lasts1 ls) ≡ true) (few : widths is ≤ limit) where
    its_rows : Rows same 0 (items_by es fs is) (items_by lasts0 lasts1 ls) (ends_by ends0 ends1 0 ls is)
    its_rows = rows_by 0 0 0 ls is under inside level (omega arith)

    -- what the lasts of the items say is what those of the lists say
    pub layer_lasts {ℓ} : {A : Type ℓ} (f : Entry → A) → ((a b : Entry) → same a b ≡ true → f a ≡ f b)
        → map f (lasts_of same (items_by es fs is)) ≡ items_by (map f (lasts_of same es)) (map f (lasts_of same fs)) ls
    layer_lasts f q = rows_lasts same alike itself f q its_rows unlike ∙ map_items f lasts0 lasts1 ls

    -- and the ends of the items are those that are written
    pub layer_ends : ends_of same 0 (items_by es fs is) ≡ ends_by (ends_of same 0 es) (ends_of same 0 fs) 0 ls is
    layer_ends = rows_ends same alike itself its_rows unlike

-- ---- lasts and ends go by what a test looks at

module _ (same : Entry → Entry → Bool) {B : Type 0} (p : Entry → B) (goes : (a b c d : Entry) → p a ≡ p c → p b ≡ p d → same a b ≡ same c d) where
  ends_go : (n : ℕ) (xs ys : List Entry) → map p xs ≡ map p ys → ends_of same n xs ≡ ends_of same n ys
  unfolding ends_of
  ends_go n [] [] h = refl
  ends_go n [] (y ∷ ys) h = absurd (let z : ◌≡◌ {A = ℕ} 0 1 = cc in omega arith)
  ends_go n (x ∷ xs) [] h = absurd (let z : ◌≡◌ {A = ℕ} 0 1 = cc in omega arith)
  ends_go n (x ∷ []) (y ∷ []) h = refl
  ends_go n (x ∷ []) (y ∷ b ∷ ys) h = absurd (let z : ◌≡◌ {A = ℕ} 0 1 = cc in omega arith)
  ends_go n (x ∷ a ∷ xs) (y ∷ []) h = absurd (let z : ◌≡◌ {A = ℕ} 0 1 = cc in omega arith)
  ends_go n (x ∷ a ∷ xs) (y ∷ b ∷ ys) h =
      let t : map p (a ∷ xs) ≡ map p (b ∷ ys) = cc in
      let s : same x a ≡ same y b = goes x a y b (cc) (cc) in
      let ih : ends_of same (suc n) (a ∷ xs) ≡ ends_of same (suc n) (b ∷ ys) = ends_go (suc n) (a ∷ xs) (b ∷ ys) t in
      by_test (same y b) (λ u. rw (s, u) ih) (λ u. rw (s, u) (ap (λ (l : List ℕ). suc n ∷ l) ih))

  lasts_go : (xs ys : List Entry) → map p xs ≡ map p ys → map p (lasts_of same xs) ≡ map p (lasts_of same ys)
  unfolding lasts_of
  lasts_go [] [] h = refl
  lasts_go [] (y ∷ ys) h = absurd (let z : ◌≡◌ {A = ℕ} 0 1 = cc in omega arith)
  lasts_go (x ∷ xs) [] h = absurd (let z : ◌≡◌ {A = ℕ} 0 1 = cc in omega arith)
  lasts_go (x ∷ []) (y ∷ []) h = h
  lasts_go (x ∷ []) (y ∷ b ∷ ys) h = absurd (let z : ◌≡◌ {A = ℕ} 0 1 = cc in omega arith)
  lasts_go (x ∷ a ∷ xs) (y ∷ []) h = absurd (let z : ◌≡◌ {A = ℕ} 0 1 = cc in omega arith)
  lasts_go (x ∷ a ∷ xs) (y ∷ b ∷ ys) h =
      let t : map p (a ∷ xs) ≡ map p (b ∷ ys) = cc in
      let e : p x ≡ p y = cc in
      let s : same x a ≡ same y b = goes x a y b e (cc) in
      let ih : map p (lasts_of same (a ∷ xs)) ≡ map p (lasts_of same (b ∷ ys)) = lasts_go (a ∷ xs) (b ∷ ys) t in
      by_test (same y b) (λ u. rw (s, u) ih) (λ u. rw (s, u) (λ i. e i ∷ ih i))

-- a key, and a key with its value
abbrev pub key_of : Entry → ℕ
key_of e = e.key

abbrev pub list_of : Entry → ℕ × ℕ
list_of e = (e.key, e.val)

by_key : (a b c d : Entry) → key_of a ≡ key_of c → key_of b ≡ key_of d → same_key a b ≡ same_key c d
by_key a b c d h k = rw (h, k)

by_list : (a b c d : Entry) → list_of a ≡ list_of c → list_of b ≡ list_of d → same_list a b ≡ same_list c d
by_list a b c d h k =
    λ i. eqb (h i).0 (k i).0 && eqb (h i).1 (k i).1

pub key-itself : (a : Entry) → same_key a a ≡ true
key-itself a = eq-eqb a.key a.key refl

pub list_itself : (a : Entry) → same_list a a ≡ true
list_itself a = and_both _ _ (eq-eqb a.key a.key refl) (eq-eqb a.val a.val refl)

key-alike : (a b : Entry) → same_key a b ≡ true → key_of a ≡ key_of b
key-alike a b h = eqb-true _ _ h

list_alike : (a b : Entry) → same_list a b ≡ true → list_of a ≡ list_of b
list_alike a b h =
    let k : a.key ≡ b.key = eqb-true _ _ (and_left (eqb a.key b.key) _ h) in
    let v : a.val ≡ b.val = eqb-true _ _ (and_right (eqb a.key b.key) _ h) in
    λ i. (k i, v i)

-- the entries that reports of times name differ from the items in their diffs only
added_list : (xs ys : List Entry) → map list_of (added_to xs ys) ≡ map list_of (take 1 xs)
added_list [] ys = refl
added_list (x ∷ xs) [] = refl
added_list (x ∷ xs) (y ∷ ys) = refl

pub entries_list : (es fs : List Entry) (ts : List Report) → map list_of (entries_by es fs ts) ≡ map list_of (items_by es fs ts)
unfolding entries_by items_by
entries_list es fs [] = refl
entries_list es fs (r ∷ ts) =
    map-append list_of (entries_of es fs r) (entries_by es fs ts)
    ∙ (λ i. one r i ++ entries_list es fs ts i)
    ∙ sym (map-append list_of (named es fs r) (items_by es fs ts))
  where
    one : (r : Report) → map list_of (entries_of es fs r) ≡ map list_of (named es fs r)
    one (this l h) = refl
    one (that l h) = refl
    one (both i j) = added_list (take 1 (drop i es)) (take 1 (drop j fs)) ∙ ap (map list_of) (take-take 1 1 (drop i es) (omega arith))

-- the first last has its list's key
head-key : (b : Entry) (es : List Entry) → (c : Entry) × (rest : List Entry) × (lasts_of same_list (b ∷ es) ≡ c ∷ rest) × (c.key ≡ b.key)
head-key b es =
    let r = head_last same_list alike_list list_itself b es in
    (r.0, r.1, r.2, sym (ap (λ (q : ℕ × ℕ). q.0) (list_alike b r.0 r.3)))

-- the last entry of a key is the last of its last value
pub lasts_lasts : (es : List Entry) → lasts_of same_key (lasts_of same_list es) ≡ lasts_of same_key es
unfolding lasts_of
lasts_lasts [] = refl
lasts_lasts (a ∷ []) = refl
lasts_lasts (a ∷ b ∷ es) =
    let ih : lasts_of same_key (lasts_of same_list (b ∷ es)) ≡ lasts_of same_key (b ∷ es) = lasts_lasts (b ∷ es) in
    by_test (same_list a b)
    (λ h. rw (h, and_left (eqb a.key b.key) _ h) ih)
    (λ h. let r = head-key b es in
    let two : lasts_of same_key (a ∷ r.0 ∷ r.1) ≡ cond (same_key a r.0) (lasts_of same_key (r.0 ∷ r.1)) (a ∷ lasts_of same_key (r.0 ∷ r.1)) = refl in
    rw h (ap (λ (l : List Entry). lasts_of same_key (a ∷ l)) r.2 ∙ two
    ∙ ap (λ (k : ℕ). cond (eqb a.key k) (lasts_of same_key (r.0 ∷ r.1)) (a ∷ lasts_of same_key (r.0 ∷ r.1))) r.3
    ∙ ap (λ (l : List Entry). cond (same_key a b) l (a ∷ l)) (ap (lasts_of same_key) (sym r.2) ∙ ih)))

-- ---- the bodies

rows_few : (same : Entry → Entry → Bool) {n : ℕ} {z reps : List Entry} {ends : List ℕ} → Rows same n z reps ends → length reps ≤ length z
rows_few same none = omega arith
rows_few same (more {rest = rest} x g s ev e p r) = omega (arith, ap length e, length-append g rest, rows_few same r)

pub key-count : (es : List Entry) → length (keys es) ≡ length (val_ends es)
key-count es =
    length-map (lasts_of same_key es) key_of ∙ ap length (sym (lasts_lasts es))
    ∙ rows_long same_key (rows_of same_key alike-key key-itself 0 (lasts_of same_list es))

pub val-count : (es : List Entry) → length (vals es) ≡ length (time_ends es)
val-count es = length-map (lasts_of same_list es) (λ (e : Entry). e.val) ∙ rows_long same_list (rows_of same_list alike_list list_itself 0 es)

pub fewer : (es : List Entry) → length (lasts_of same_list es) ≤ length es
fewer es = rows_few same_list (rows_of same_list alike_list list_itself 0 es)

module _ (es fs : List Entry) (ks vs ts : List Report) (y : Layered es fs ks vs ts) where
  abbrev named_ones : List Entry
  named_ones = entries_by es fs ts

  abbrev L : List Entry
  L = lasts_of same_list es

  abbrev M : List Entry
  M = lasts_of same_list fs

  vals_in_lem : Inside 0 (length (time_ends es)) 0 (length (time_ends fs)) vs
  vals_in_lem = rw (val-count es, val-count fs) at y.vals_inside

  keys_in_lem : Inside 0 (length (val_ends es)) 0 (length (val_ends fs)) ks
  keys_in_lem = rw (key-count es, key-count fs) at y.keys_inside

  level : Level same_key (lasts_of same_key L) (lasts_of same_key M) ks
  level = rw (lasts_lasts es, lasts_lasts fs) y.keys_level

  keys-unlike : apart same_key (items_by (lasts_of same_key L) (lasts_of same_key M) ks) ≡ true
  keys-unlike = rw (lasts_lasts es, lasts_lasts fs) y.keys-apart

  -- the values named, as entries
  valued : map list_of (lasts_of same_list named_ones) ≡ map list_of (items_by L M vs)
  valued =
      lasts_go same_list list_of by_list named_ones (items_by es fs ts) (entries_list es fs ts)
      ∙ layer_lasts same_list alike_list list_itself es fs y.few0 y.few1 vs ts y.times_under vals_in_lem y.vals_level y.vals-apart y.few-times list_of list_alike
      ∙ sym (map_items list_of L M vs)

  keyed : map key_of (lasts_of same_list named_ones) ≡ map key_of (items_by L M vs)
  keyed =
      sym (map-map (λ (q : ℕ × ℕ). q.0) list_of (lasts_of same_list named_ones)) ∙ ap (map (λ (q : ℕ × ℕ). q.0)) valued
      ∙ map-map (λ (q : ℕ × ℕ). q.0) list_of (items_by L M vs)

  few_L : length L ≤ limit
  few_L = omega (arith, fewer es, y.few0)

  few_M : length M ≤ limit
  few_M = omega (arith, fewer fs, y.few1)

  pub bodies_by : BodiesBy es fs ks vs ts
  bodies_by =
      record {
        keys_by =
            ap (map key_of) (sym (lasts_lasts named_ones))
            ∙ lasts_go same_key key_of by_key (lasts_of same_list named_ones) (items_by L M vs) keyed
            ∙ layer_lasts same_key alike-key key-itself L M few_L few_M ks vs y.vals_under keys_in_lem level keys-unlike y.few-vals key_of key-alike
            ∙ (λ i. items_by (map key_of (lasts_lasts es i)) (map key_of (lasts_lasts fs i)) ks);
        val_ends_by =
            ends_go same_key key_of by_key 0 (lasts_of same_list named_ones) (items_by L M vs) keyed
            ∙ layer_ends same_key alike-key key-itself L M few_L few_M ks vs y.vals_under keys_in_lem level keys-unlike y.few-vals;
        vals_by =
            sym (map-map (λ (q : ℕ × ℕ). q.1) list_of (lasts_of same_list named_ones)) ∙ ap (map (λ (q : ℕ × ℕ). q.1)) valued
            ∙ map-map (λ (q : ℕ × ℕ). q.1) list_of (items_by L M vs)
            ∙ map_items (λ (e : Entry). e.val) L M vs;
        time_ends_by =
            ends_go same_list list_of by_list 0 named_ones (items_by es fs ts) (entries_list es fs ts)
            ∙ layer_ends same_list alike_list list_itself es fs y.few0 y.few1 vs ts y.times_under vals_in_lem y.vals_level y.vals-apart y.few-times;
      }
