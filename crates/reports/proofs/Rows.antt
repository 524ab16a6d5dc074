-- A list of entries as rows: groups that each stand for one entry, with the count of items up to and including each. Where neighbours are
-- unlike, the rows are the list's own lasts and ends; rows are cut, moved and put together as their items are.
use Prim.Native.Nat.{ℕ, zero, suc, ◌+◌, ◌-◌, ◌^◌, ◌%◌, ◌<◌, ◌≤◌}
use mathlib.Core.Path.{◌≡◌, refl, sym, ◌∙◌, ap, subst}
use mathlib.Core.Bool.{Bool, true, false, not}
use mathlib.Core.List.{List, [], ◌∷◌, ◌++◌, map, map-append, append_assoc, append-nil}
use native.Mathlib.Omega.{arith}
use lib.Dec.{ltb}
use lib.ListN.{length, get_or, take, drop, length-append, length-drop}
use lib.Seq.{length-take-le, take-append-le, drop-append-le, take-append-add, drop-append-add, get_or-drop}
use borrow.Author.Tests.{not-true, lt-ltb, eq-eqb}
use Rattle.chunk.specs.Entry.{Entry, every}
use Rattle.chunk.specs.Bodies.{lasts_of, ends_of}
use Rattle.chunk.specs.Words.{ends_rise}
use Rattle.chunk.specs.Contents.{start_of}
use Rattle.laws.proofs.Tests.{by_test, and_left, and_right, and_both, true-not-false}
use Rattle.laws.proofs.Groups.{Alike}
use Rattle.meld.specs.Copy.{shifted, shifted_all}
use Rattle.reports.specs.Write.{Run, wrapped}
use Rattle.reports.proofs.WriteEntries.{every_take, every_drop}
use Rattle.reports.specs.Woven.{apart}

-- from a count on: items, the entry that each group is the same as, and where each group ends
pub data Rows (same : Entry → Entry → Bool) : ℕ → List Entry → List Entry → List ℕ → Type 0 where
  none : {n : ℕ} → Rows same n [] [] []
  more : {n m : ℕ} {rest z reps : List Entry} {ends : List ℕ} (x : Entry) (g : List Entry) → 0 < length g → every (same x) g ≡ true
      → z ≡ g ++ rest → m ≡ n + length g → Rows same m rest reps ends → Rows same n z (x ∷ reps) (m ∷ ends)

-- a list doesn't start with an item like x
abbrev turned : (Entry → Entry → Bool) → Entry → List Entry → Bool
turned same x [] = true
turned same x (b ∷ es) = not (same x b)

-- ---- rows of neighbours that are unlike are the lasts and the ends

module _ (same : Entry → Entry → Bool) (alike : Alike same) (itself : (a : Entry) → same a a ≡ true) where
  -- what is like y is unlike x
  parted : (x y b : Entry) → not (same x y) ≡ true → same y b ≡ true → not (same x b) ≡ true
  parted x y b h k =
      by_test (same x b)
      (λ p. absurd (true-not-false (sym (itself y) ∙ sym (alike y b y k) ∙ alike x b y p ∙ not-true (same x y) h)))
      (λ p. rw p)

  turns : {n : ℕ} {z reps : List Entry} {ends : List ℕ} (x : Entry) → Rows same n z reps ends → apart same (x ∷ reps) ≡ true → turned same x z ≡ true
  unfolding apart every
  turns x none h = refl
  turns x (more y [] s ev e p r) h = absurd (omega arith)
  turns x (more y (b ∷ g) s ev e p r) h =
      ap (turned same x) e ∙ parted x y b (and_left (not (same x y)) _ h) (and_left (same y b) _ ev)

  module _ (x : Entry) where
    step_ends : (n : ℕ) (a : Entry) (g rest : List Entry) → same x a ≡ true → every (same x) g ≡ true → turned same x rest ≡ true
        → ends_of same n (a ∷ (g ++ rest)) ≡ (n + suc (length g)) ∷ ends_of same (n + suc (length g)) rest
    unfolding every ends_of
    step_ends n a [] [] h t u = let m : n + 1 ≡ suc n = omega arith in rw m
    step_ends n a [] (b ∷ rest) h t u =
        let e : same a b ≡ false = alike x a b h ∙ not-true _ u in
        let m : n + 1 ≡ suc n = omega arith in
        rw (e, m)
    step_ends n a (b ∷ g) rest h t u =
        let e : same a b ≡ true = alike x a b h ∙ and_left _ _ t in
        let m : n + suc (suc (length g)) ≡ suc n + suc (length g) = omega arith in
        rw (e, m) (step_ends (suc n) b g rest (and_left _ _ t) (and_right (same x b) _ t) u)

    module _ {ℓ} {A : Type ℓ} (f : Entry → A) (q : (a b : Entry) → same a b ≡ true → f a ≡ f b) where
      step_lasts : (a : Entry) (g rest : List Entry) → same x a ≡ true → every (same x) g ≡ true → turned same x rest ≡ true
          → map f (lasts_of same (a ∷ (g ++ rest))) ≡ f x ∷ map f (lasts_of same rest)
      unfolding every lasts_of
      step_lasts a [] [] h t u = ap (λ y. y ∷ []) (sym (q x a h))
      step_lasts a [] (b ∷ rest) h t u =
          let e : same a b ≡ false = alike x a b h ∙ not-true _ u in
          rw e (ap (λ y. y ∷ map f (lasts_of same (b ∷ rest))) (sym (q x a h)))
      step_lasts a (b ∷ g) rest h t u =
          let e : same a b ≡ true = alike x a b h ∙ and_left _ _ t in
          rw e (step_lasts b g rest (and_left _ _ t) (and_right (same x b) _ t) u)

  tail_apart : (x : Entry) (reps : List Entry) → apart same (x ∷ reps) ≡ true → apart same reps ≡ true
  unfolding apart
  tail_apart x [] h = refl
  tail_apart x (y ∷ reps) h = and_right (not (same x y)) _ h

  -- from one group on
  pub drop-apart : (k : ℕ) (reps : List Entry) → apart same reps ≡ true → apart same (drop k reps) ≡ true
  drop-apart zero reps h = h
  drop-apart (suc k) [] h = h
  drop-apart (suc k) (x ∷ reps) h = drop-apart k reps (tail_apart x reps h)

  -- the first last is like the first item
  pub head_last : (b : Entry) (es : List Entry) → (c : Entry) × (rest : List Entry) × (lasts_of same (b ∷ es) ≡ c ∷ rest) × (same b c ≡ true)
  unfolding lasts_of
  head_last b [] = (b, [], refl, itself b)
  head_last b (d ∷ es) =
      let r = head_last d es in
      by_test (same b d)
      (λ h. (r.0, r.1, rw h r.2, sym (alike b d r.0 h) ∙ r.3))
      (λ h. (b, lasts_of same (d ∷ es), rw h refl, itself b))

  -- the lasts of neighbouring lists are unlike
  pub lasts_apart : (es : List Entry) → apart same (lasts_of same es) ≡ true
  unfolding lasts_of apart
  lasts_apart [] = refl
  lasts_apart (a ∷ []) = refl
  lasts_apart (a ∷ b ∷ es) =
      let ih : apart same (lasts_of same (b ∷ es)) ≡ true = lasts_apart (b ∷ es) in
      by_test (same a b)
      (λ h. rw h ih)
      (λ h. let r = head_last b es in
      let ih' : apart same (r.0 ∷ r.1) ≡ true = rw r.2 at ih in
      rw (h, r.2) (and_both (not (same a r.0)) _ (parted a b r.0 (rw h) r.3) ih'))

  -- the ends
  pub rows_ends : {n : ℕ} {z reps : List Entry} {ends : List ℕ} → Rows same n z reps ends → apart same reps ≡ true → ends_of same n z ≡ ends
  unfolding ends_of every
  rows_ends none h = refl
  rows_ends (more y [] s ev e p r) h = absurd (omega arith)
  rows_ends {n} (more {m = m} {rest = rest} {reps = reps} y (b ∷ g) s ev e p r) h =
      ap (ends_of same n) e
      ∙ step_ends y n b g rest (and_left (same y b) _ ev) (and_right (same y b) _ ev) (turns y r h)
      ∙ ap (λ (k : ℕ). k ∷ ends_of same k rest) (sym p)
      ∙ ap (λ (l : List ℕ). m ∷ l) (rows_ends r (tail_apart y reps h))

  -- and what is alike within a list, of the lasts
  pub rows_lasts {ℓ} : {A : Type ℓ} (f : Entry → A) → ((a b : Entry) → same a b ≡ true → f a ≡ f b)
      → {n : ℕ} {z reps : List Entry} {ends : List ℕ} → Rows same n z reps ends → apart same reps ≡ true → map f (lasts_of same z) ≡ map f reps
  unfolding lasts_of every
  rows_lasts f q none h = refl
  rows_lasts f q (more y [] s ev e p r) h = absurd (omega arith)
  rows_lasts f q (more {rest = rest} {reps = reps} y (b ∷ g) s ev e p r) h =
      ap (λ (l : List Entry). map f (lasts_of same l)) e
      ∙ step_lasts y f q b g rest (and_left (same y b) _ ev) (and_right (same y b) _ ev) (turns y r h)
      ∙ ap (λ l. f y ∷ l) (rows_lasts f q r (tail_apart y reps h))

-- ---- a list is rows by its own lasts and ends

module _ (same : Entry → Entry → Bool) (alike : Alike same) (itself : (a : Entry) → same a a ≡ true) where
  -- one more of the first group
  grown : {n k : ℕ} {z reps : List Entry} {ends : List ℕ} (a b : Entry) → same a b ≡ true → k ≡ suc n → Rows same k (b ∷ z) reps ends → Rows same n (a ∷ b ∷ z) reps ends
  unfolding every
  grown a b h o (more y [] s ev e p r) = absurd (omega arith)
  grown {n} {k} a b h o (more {m = m} y (c ∷ g) s ev e p r) =
      let f : b ≡ c = cc in
      let yc : same y c ≡ true = and_left (same y c) _ ev in
      let ac : same a c ≡ true = ap (same a) (sym f) ∙ h in
      let ya : same y a ≡ true = sym (alike y c a yc) ∙ alike a c a ac ∙ itself a in
      more {n = n} {m = m} y (a ∷ c ∷ g) (omega arith) (and_both _ _ ya ev) (ap (λ (l : List Entry). a ∷ l) e) (omega arith) r

  pub rows_of : (n : ℕ) (es : List Entry) → Rows same n es (lasts_of same es) (ends_of same n es)
  unfolding lasts_of ends_of every
  rows_of n [] = none
  rows_of n (a ∷ []) = more {n = n} {m = suc n} a (a ∷ []) (omega arith) (and_both _ _ (itself a) refl) refl (omega arith) none
  rows_of n (a ∷ b ∷ es) =
      by_test (same a b)
      (λ h. rw h (grown a b h refl (rows_of (suc n) (b ∷ es))))
      (λ h. rw h (more {n = n} {m = suc n} a (a ∷ []) (omega arith) (and_both _ _ (itself a) refl) refl (omega arith) (rows_of (suc n) (b ∷ es))))

-- ---- one after another, cut, and counted from elsewhere

module _ (same : Entry → Entry → Bool) where
  pub rows_append : {n m : ℕ} {z z' reps reps' : List Entry} {ends ends' : List ℕ} → Rows same n z reps ends → m ≡ n + length z → Rows same m z' reps' ends'
      → Rows same n (z ++ z') (reps ++ reps') (ends ++ ends')
  rows_append {n} {m} none e s = let q : n ≡ m = omega arith in rw q s
  rows_append {z' = z'} (more {rest = rest} y g s ev e p r) k t =
      more y g s ev (ap (λ (l : List Entry). l ++ z') e ∙ append_assoc g rest z') p
      (rows_append r (omega (arith, ap length e, length-append g rest)) t)

  -- a later end is past the count
  past : {n : ℕ} {z reps : List Entry} {ends : List ℕ} → Rows same n z reps ends → (i : ℕ) → i < length ends → n < get_or ends i 0
  past none i h = absurd (omega arith)
  past (more y g s ev e p r) zero h = omega arith
  past (more y g s ev e p r) (suc i) h = omega (arith, past r i (omega arith))

  -- where list i starts, from a count on
  abbrev start_from : ℕ → List ℕ → ℕ → ℕ
  start_from n ends zero = n
  start_from n ends (suc i) = get_or ends i 0

  start_on : (n m : ℕ) (ends : List ℕ) (i : ℕ) → start_from n (m ∷ ends) (suc i) ≡ start_from m ends i
  start_on n m ends zero = refl
  start_on n m ends (suc i) = refl

  start_past : {n : ℕ} {z reps : List Entry} {ends : List ℕ} → Rows same n z reps ends → (i : ℕ) → i < length ends → n ≤ start_from n ends i
  start_past r zero h = omega arith
  start_past r (suc i) h = omega (arith, past r i (omega arith))

  -- the rows from an item of list i on
  rows_drop : {n : ℕ} {z reps : List Entry} {ends : List ℕ} → Rows same n z reps ends → (i t : ℕ) → i < length ends → start_from n ends i ≤ n + t → n + t < get_or ends i 0
      → Rows same (n + t) (drop t z) (drop i reps) (drop i ends)
  rows_drop none i t h f l = absurd (omega arith)
  rows_drop {n} (more {m = m} {rest = rest} y g s ev e p r) zero t h f l =
      more {n = n + t} {m = m} y (drop t g) (simp length-drop (omega arith)) (every_drop (same y) t g ev) (ap (drop t) e ∙ drop-append-le t g rest (omega arith)) (simp length-drop (omega arith)) r
  rows_drop {n} (more {m = m} {rest = rest} {ends = ends} y g s ev e p r) (suc i) t h f l =
      let o : start_from m ends i ≤ n + t = rw (start_on n m ends i) at f in
      let b : m ≤ n + t = omega (arith, start_past r i (omega arith)) in
      let u : ℕ = t - length g in
      let q : m + u ≡ n + t = omega arith in
      let w : t ≡ length g + u = omega arith in
      let d : drop t (g ++ rest) ≡ drop u rest = ap (λ (k : ℕ). drop k (g ++ rest)) w ∙ drop-append-add g rest u in
      rw (e, d, ← q) (rows_drop r i u (omega arith) (omega arith) (omega arith))

  -- the rows up to an item of list k
  rows_take : {n : ℕ} {z reps : List Entry} {ends : List ℕ} → Rows same n z reps ends → (k t : ℕ) → k < length ends → start_from n ends k < n + t → n + t ≤ get_or ends k 0
      → Rows same n (take t z) (take (suc k) reps) (take k ends ++ ((n + t) ∷ []))
  rows_take none k t h f l = absurd (omega arith)
  rows_take {n} (more {rest = rest} y g s ev e p r) zero t h f l =
      let long : length (take t g) ≡ t = length-take-le t g (omega arith) in
      more {n = n} {m = n + t} {rest = []} y (take t g) (omega arith) (every_take (same y) t g ev) (ap (take t) e ∙ take-append-le t g rest (omega arith) ∙ sym (append-nil (take t g))) (omega arith) none
  rows_take {n} (more {m = m} {rest = rest} {reps = reps} {ends = ends} y g s ev e p r) (suc k) t h f l =
      let o : start_from m ends k < n + t = rw (start_on n m ends k) at f in
      let b : m < n + t = omega (arith, start_past r k (omega arith)) in
      let u : ℕ = t - length g in
      let q : m + u ≡ n + t = omega arith in
      let w : t ≡ length g + u = omega arith in
      let d : take t (g ++ rest) ≡ g ++ take u rest = ap (λ (k : ℕ). take k (g ++ rest)) w ∙ take-append-add g rest u in
      let on : Rows same m (take u rest) (take (suc k) reps) (take k ends ++ ((n + t) ∷ [])) = rw (← q) (rows_take r k u (omega arith) (omega arith) (omega arith)) in
      more y g s ev (ap (take t) e ∙ d) p on

  -- the rows from another count on, in 64 bits
  rows_shift : {n m : ℕ} {z reps : List Entry} {ends : List ℕ} (w : ℕ) → Rows same n z reps ends → (n + w) % 2 ^ 64 ≡ m → m + length z < 2 ^ 64
      → Rows same m z reps (shifted_all w ends)
  rows_shift w none a b = none
  rows_shift {m = m} {z = z} w (more {m = k} {rest = rest} y g s ev e p r) a b =
      let long : length z ≡ length g + length rest = ap length e ∙ length-append g rest in
      let o : (k + w) % 2 ^ 64 ≡ m + length g = omega arith in
      more {n = m} y g s ev e o (rows_shift w r refl (omega arith))

  start_is : (ends : List ℕ) (i : ℕ) → start_from 0 ends i ≡ start_of ends i
  start_is ends zero = refl
  start_is ends (suc i) = refl

  -- where list h starts, of the lists from l on
  start_later : (ends : List ℕ) (l d x : ℕ) → start_from x (drop l ends) (suc d) ≡ start_of ends (l + suc d)
  start_later ends l d x = let q : l + suc d ≡ suc (l + d) = omega arith in rw q (get_or-drop l ends d 0)

  starts : (ends : List ℕ) (l d x t : ℕ) → 0 < t → start_of ends (l + d) < x + t → start_from (0 + x) (drop l ends) d < 0 + x + t
  starts ends l zero x t o h = omega arith
  starts ends l (suc d) x t o h = omega (arith, start_later ends l d (0 + x))

  part : {z reps : List Entry} {ends : List ℕ} → Rows same 0 z reps ends → (base l d x t : ℕ) → l + d < length ends → start_of ends l ≤ x → x < get_or ends l 0
      → start_of ends (l + d) < x + t → x + t ≤ get_or ends (l + d) 0 → 0 < t → length (take t (drop x z)) ≡ t → x < 2 ^ 64 → base + t < 2 ^ 64
      → Rows same base (take t (drop x z)) (take (suc d) (drop l reps)) (shifted_all (wrapped base x) (take d (drop l ends)) ++ ((base + t) ∷ []))
  part {z} {reps} {ends} r base l d x t u from reached left to some long small few =
      let on : Rows same (0 + x) (drop x z) (drop l reps) (drop l ends) =
      rows_drop r l x (omega arith) (omega (arith, start_is ends l)) (omega arith) in
      let cut : Rows same (0 + x) (take t (drop x z)) (take (suc d) (drop l reps)) (take d (drop l ends) ++ ((0 + x + t) ∷ [])) =
      rows_take on d t (simp length-drop (omega arith)) (starts ends l d x t some left) (omega (arith, get_or-drop l ends d 0)) in
      let moved : Rows same base (take t (drop x z)) (take (suc d) (drop l reps)) (shifted_all (wrapped base x) (take d (drop l ends) ++ ((0 + x + t) ∷ []))) =
      rows_shift (wrapped base x) cut (omega arith) (omega arith) in
      let e : shifted (wrapped base x) (0 + x + t) ≡ base + t = omega arith in
      let q : shifted_all (wrapped base x) (take d (drop l ends) ++ ((0 + x + t) ∷ [])) ≡ shifted_all (wrapped base x) (take d (drop l ends)) ++ ((base + t) ∷ []) =
      map-append (shifted (wrapped base x)) (take d (drop l ends)) ((0 + x + t) ∷ [])
      ∙ ap (λ (k : ℕ). shifted_all (wrapped base x) (take d (drop l ends)) ++ (k ∷ [])) e in
      subst (λ (k : List ℕ). Rows same base (take t (drop x z)) (take (suc d) (drop l reps)) k) q moved

  -- no end is past the items
  pub reach : {n : ℕ} {z reps : List Entry} {ends : List ℕ} → Rows same n z reps ends → (i : ℕ) → i < length ends → get_or ends i 0 ≤ n + length z
  reach none i h = absurd (omega arith)
  reach (more {rest = rest} y g s ev e p r) zero h = omega (arith, ap length e, length-append g rest)
  reach (more {rest = rest} y g s ev e p r) (suc i) h = omega (arith, ap length e, length-append g rest, reach r i (omega arith))

  -- ends of rows rise
  pub rows_rise : {n : ℕ} {z reps : List Entry} {ends : List ℕ} → Rows same n z reps ends → ends_rise n ends (n + length z) ≡ true
  unfolding ends_rise
  rows_rise {n} none = eq-eqb n (n + 0) (omega arith)
  rows_rise {n} {z} (more {m = m} {rest = rest} {ends = ends} y g s ev e p r) =
      let q : n + length z ≡ m + length rest = omega (arith, ap length e, length-append g rest) in
      and_both (ltb n m) _ (lt-ltb n m (omega arith)) (rw q (rows_rise r))

  -- the items of a run of lists
  pub rows_run : {z reps : List Entry} {ends : List ℕ} → Rows same 0 z reps ends → (base l h x y : ℕ) → Run ends l h x y → length z < 2 ^ 64 → base + (y - x) < 2 ^ 64
      → Rows same base (take (y - x) (drop x z)) (take (h - l) (drop l reps)) (shifted_all (wrapped base x) (take (h - 1 - l) (drop l ends)) ++ ((base + (y - x)) ∷ []))
  rows_run {z} {reps} {ends} r base l h x y u small few =
      let d : ℕ = h - 1 - l in
      let q : h - l ≡ suc d = omega (arith, u.some) in
      let k : h - 1 ≡ l + d = omega (arith, u.some) in
      let top : get_or ends (h - 1) 0 ≤ 0 + length z = reach r (h - 1) (omega (arith, u.some, u.there)) in
      let left : start_of ends (l + d) < y = rw k at u.left in
      let to : y ≤ get_or ends (l + d) 0 = rw k at u.to in
      rw q (part r base l d x (y - x) (omega (arith, u.some, u.there)) u.from u.reached (omega (arith, u.full)) (omega (arith, u.full)) (omega (arith, u.full))
      (length-take-le (y - x) (drop x z) (simp length-drop (omega (arith, u.to)))) (omega (arith, u.full, u.to)) few)
