-- The theorems of `specs/Theorems.antt`: what is formed rises, stands, is no longer, and says the same total at every position.
use Rattle.std.proofs.Common.{◌≡◌, ℕ, suc, ◌+◌, ◌-◌, ◌*◌, ◌^◌, ◌<◌, ◌≤◌, Bool, true, false, cond, ◌&&◌, ◌||◌, eqb, ltb, List, [], ◌∷◌, length, ℤ, pos, negsuc, ◌+ℤ◌, sym, refl, ap, ◌∙◌, arith, w64, ltb-true, lt-ltb, eqb-true, leb-true}
use lib.IntN.{+ℤ_idl, +ℤ_assoc}
use lib.Signed.{mag, le_z}
use mir.ValLaws.{to_z-of_z}
use borrow.Author.Tests.{not-false}
use Rattle.chunk.specs.Entry.{Entry, change, before, same, rising, rising_from, stands, every}
use Rattle.chunk.specs.Words.{limit}
use Rattle.chunk.specs.Sums.{plus, with_diff, total}
use Rattle.laws.proofs.Tests.{by_test, and_left, and_right, and_both, true-not-false}
use Rattle.laws.proofs.Order.{Same, Compared, less, equal, more, compared, same_parts, before_same, before_trans}
use Rattle.laws.specs.OneChunk.{fits}
use Rattle.sort.proofs.Perms.{Words, sort_perm}
use Rattle.form.specs.Form.{consolidated, formed, falls, in_range}
use Rattle.laws.proofs.Wrap.{plus_word}
use Rattle.form.specs.Theorems.{FormedRises, FormedStands, FormedLength, FormedTotal, FormedFits, FormPermuted}

-- ---- tests of a disjunction

pub or_left : (a b : Bool) → (a || b) ≡ false → a ≡ false
or_left true b h = h
or_left false b h = refl

pub or_right : (a b : Bool) → (a || b) ≡ false → b ≡ false
or_right true b h = absurd (true-not-false h)
or_right false b h = h

-- ---- falling

-- whether a list falls goes by the positions alone
pub falls-same : (a b : Entry) (es : List Entry) → same a b ≡ true → falls (a ∷ es) ≡ falls (b ∷ es)
unfolding falls
falls-same a b [] h = refl
falls-same a b (x ∷ es) h = ap (λ (t : Bool). t || falls (x ∷ es)) (before_same a b x h)

-- a position that neither falls nor stays rises
pub later : (a b : Entry) → before b a ≡ false → same a b ≡ false → before a b ≡ true
later a b h k = by (compared a b)
  where
    by : Compared a b → before a b ≡ true
    by (less l) = l
    by (equal e) = absurd (true-not-false (sym e ∙ k))
    by (more m) = absurd (true-not-false (sym m ∙ h))

-- ---- rising and standing

rises-past : (x a : Entry) (es : List Entry) → before x a ≡ true → falls (a ∷ es) ≡ false → rising_from x (consolidated a es) ≡ true
unfolding consolidated rising_from falls
rises-past x a [] h f =
    by_test (stands a) (λ (s : stands a ≡ true). simp (s, h)) (λ (s : stands a ≡ false). simp s)
rises-past x a (b ∷ es) h f =
    let g : falls (b ∷ es) ≡ false = or_right (before b a) _ f in
    by_test (same a b)
    (λ (e : same a b ≡ true). let d : ℕ = plus a.diff b.diff in
    rw e (rises-past x (with_diff a d) es h (falls-same (with_diff a d) b es e ∙ g)))
    (λ (e : same a b ≡ false). let l : before a b ≡ true = later a b (or_left _ _ f) e in
    by_test (stands a)
    (λ (s : stands a ≡ true). rw (e, s) (and_both _ _ h (rises-past a b es l g)))
    (λ (s : stands a ≡ false). rw (e, s) (rises-past x b es (before_trans x a b h l) g)))

rises-on : (a : Entry) (es : List Entry) → falls (a ∷ es) ≡ false → rising (consolidated a es) ≡ true
unfolding consolidated rising rising_from falls
rises-on a [] f = by_test (stands a) (λ (s : stands a ≡ true). simp s) (λ (s : stands a ≡ false). simp s)
rises-on a (b ∷ es) f =
    let g : falls (b ∷ es) ≡ false = or_right (before b a) _ f in
    by_test (same a b)
    (λ (e : same a b ≡ true). let d : ℕ = plus a.diff b.diff in
    rw e (rises-on (with_diff a d) es (falls-same (with_diff a d) b es e ∙ g)))
    (λ (e : same a b ≡ false). let l : before a b ≡ true = later a b (or_left _ _ f) e in
    by_test (stands a)
    (λ (s : stands a ≡ true). rw (e, s) (rises-past a b es l g))
    (λ (s : stands a ≡ false). rw (e, s) (rises-on b es g)))

pub formed_rises : FormedRises
unfolding formed rising
formed_rises [] h = refl
formed_rises (a ∷ es) h = rises-on a es h

stands_on : (a : Entry) (es : List Entry) → every stands (consolidated a es) ≡ true
unfolding consolidated every
stands_on a [] = by_test (stands a) (λ (s : stands a ≡ true). simp s) (λ (s : stands a ≡ false). simp s)
stands_on a (b ∷ es) =
    by_test (same a b)
    (λ (e : same a b ≡ true). rw e (stands_on (with_diff a (plus a.diff b.diff)) es))
    (λ (e : same a b ≡ false). by_test (stands a)
    (λ (s : stands a ≡ true). rw (e, s) (and_both _ _ s (stands_on b es)))
    (λ (s : stands a ≡ false). rw (e, s) (stands_on b es)))

pub formed-stands : FormedStands
unfolding formed every
formed-stands [] = refl
formed-stands (a ∷ es) = stands_on a es

length_on : (a : Entry) (es : List Entry) → length (consolidated a es) ≤ suc (length es)
unfolding consolidated
length_on a [] = by_test (stands a) (λ (s : stands a ≡ true). rw s (omega arith)) (λ (s : stands a ≡ false). rw s (omega arith))
length_on a (b ∷ es) =
    by_test (same a b)
    (λ (e : same a b ≡ true). rw e (omega (arith, length_on (with_diff a (plus a.diff b.diff)) es)))
    (λ (e : same a b ≡ false). by_test (stands a)
    (λ (s : stands a ≡ true). rw (e, s) (omega (arith, length_on b es)))
    (λ (s : stands a ≡ false). rw (e, s) (omega (arith, length_on b es))))

pub formed-length : FormedLength
unfolding formed
formed-length [] = omega arith
formed-length (a ∷ es) = length_on a es

-- ---- sums

mag_sub : (a b : ℕ) → mag (cond (ltb a b) (negsuc (b - suc a)) (pos (a - b))) ≤ a + b
mag_sub a b =
    by_test (ltb a b) (λ (h : ltb a b ≡ true). rw h (omega arith)) (λ (h : ltb a b ≡ false). rw h (omega arith))

mag_add : (x y : ℤ) → mag (x +ℤ y) ≤ suc (mag x + mag y)
mag_add (pos a) (pos b) = omega arith
mag_add (pos a) (negsuc b) = omega (arith, mag_sub a (suc b))
mag_add (negsuc a) (pos b) = omega (arith, mag_sub b (suc a))
mag_add (negsuc a) (negsuc b) = omega arith

mag_range : (z : ℤ) → (le_z (negsuc (2 ^ 40 - 1)) z && le_z z (pos (2 ^ 40))) ≡ true → mag z ≤ 2 ^ 40
mag_range (pos n) h = leb-true _ _ h
mag_range (negsuc n) h = let k : n ≤ 2 ^ 40 - 1 = leb-true _ _ (and_left _ _ h) in omega arith

-- the word of a sum stands for the sum, where each side is the sum of few updates
sum_says : (m : ℕ) (x y : ℕ) → mag (change x) ≤ m * (2 ^ 40 + 1) → mag (change y) ≤ 2 ^ 40 → m < limit
    → change (plus x y) ≡ change x +ℤ change y
sum_says m x y h k l =
    to_z-of_z w64 (change x +ℤ change y) (record { sfits = omega (arith, mag_add (change x) (change y)) })

zero_says : (a : Entry) → stands a ≡ false → change a.diff ≡ pos 0
zero_says a h = let z : a.diff ≡ 0 = eqb-true _ _ (not-false _ h) in ap (λ (d : ℕ). change d) z

-- at this position
abbrev pub stood : ℕ → ℕ → ℕ → Entry → Bool
stood k v t e = eqb e.key k && (eqb e.val v && eqb e.time t)

module _ (k v t : ℕ) where
  -- a zero sum says nothing
  dropped : (a : Entry) (es : List Entry) → stands a ≡ false → total k v t (a ∷ es) ≡ total k v t es
  unfolding total
  dropped a es h =
      by_test (stood k v t a)
      (λ (p : stood k v t a ≡ true). rw p (ap (λ (z : ℤ). z +ℤ total k v t es) (zero_says a h) ∙ +ℤ_idl (total k v t es)))
      (λ (p : stood k v t a ≡ false). rw p)

  -- two updates at one position say their sum
  added : (a b : Entry) (es : List Entry) (d : ℕ) → same a b ≡ true → change d ≡ change a.diff +ℤ change b.diff
      → total k v t (with_diff a d ∷ es) ≡ total k v t (a ∷ b ∷ es)
  unfolding total
  added a b es d h e =
      let s : Same a b = same_parts a b h in
      let q : stood k v t a ≡ stood k v t b = simp (s.key, s.val, s.time) in
      by_test (stood k v t a)
      (λ (p : stood k v t a ≡ true). rw (p, sym q ∙ p) (ap (λ (z : ℤ). z +ℤ total k v t es) e ∙ +ℤ_assoc (change a.diff) (change b.diff) (total k v t es)))
      (λ (p : stood k v t a ≡ false). rw (p, sym q ∙ p))

  -- an entry more in front
  pub fronted : (a : Entry) (es fs : List Entry) → total k v t es ≡ total k v t fs → total k v t (a ∷ es) ≡ total k v t (a ∷ fs)
  unfolding total
  fronted a es fs h = rw h

  total_on : (m : ℕ) (a : Entry) (es : List Entry) → mag (change a.diff) ≤ m * (2 ^ 40 + 1) → every in_range es ≡ true → m + length es ≤ limit
      → total k v t (consolidated a es) ≡ total k v t (a ∷ es)
  unfolding consolidated every
  total_on m a [] h r l =
      by_test (stands a) (λ (s : stands a ≡ true). rw s) (λ (s : stands a ≡ false). rw s (sym (dropped a [] s)))
  total_on m a (b ∷ es) h r l =
      let rb : mag (change b.diff) ≤ 2 ^ 40 = mag_range (change b.diff) (and_left _ _ r) in
      let rs : every in_range es ≡ true = and_right (in_range b) _ r in
      let e : total k v t (consolidated b es) ≡ total k v t (b ∷ es) = total_on 1 b es (omega arith) rs (omega arith) in
      by_test (same a b)
      (λ (s : same a b ≡ true).
      let q : change (plus a.diff b.diff) ≡ change a.diff +ℤ change b.diff = sum_says m a.diff b.diff h rb (omega arith) in
      rw s (total_on (suc m) (with_diff a (plus a.diff b.diff)) es (omega (arith, ap (λ (z : ℤ). mag z) q, mag_add (change a.diff) (change b.diff))) rs (omega arith) ∙ added a b es (plus a.diff b.diff) s q))
      (λ (s : same a b ≡ false). by_test (stands a)
      (λ (z : stands a ≡ true). rw (s, z) (fronted a (consolidated b es) (b ∷ es) e))
      (λ (z : stands a ≡ false). rw (s, z) (e ∙ sym (dropped a (b ∷ es) z))))

pub formed-total : FormedTotal
unfolding formed every
formed-total k v t [] r l = refl
formed-total k v t (a ∷ es) r l =
    let h : mag (change a.diff) ≤ 2 ^ 40 = mag_range (change a.diff) (and_left _ _ r) in
    total_on k v t 1 a es (omega arith) (and_right (in_range a) _ r) (omega arith)

-- ---- words

fits_on : (a : Entry) (es : List Entry) → fits a ≡ true → every fits es ≡ true → every fits (consolidated a es) ≡ true
unfolding consolidated every
fits_on a [] h k = by_test (stands a) (λ (s : stands a ≡ true). rw s (and_both _ _ h refl)) (λ (s : stands a ≡ false). rw s)
fits_on a (b ∷ es) h k =
    let hb : fits b ≡ true = and_left _ _ k in
    let hs : every fits es ≡ true = and_right (fits b) _ k in
    by_test (same a b)
    (λ (e : same a b ≡ true).
    rw e (fits_on (with_diff a (plus a.diff b.diff)) es (lt-ltb _ _ (plus_word a.diff b.diff (ltb-true _ _ h) (ltb-true _ _ hb))) hs))
    (λ (e : same a b ≡ false). by_test (stands a)
    (λ (s : stands a ≡ true). rw (e, s) (and_both _ _ h (fits_on b es hb hs)))
    (λ (s : stands a ≡ false). rw (e, s) (fits_on b es hb hs)))

pub formed-fits : FormedFits
unfolding formed every
formed-fits [] h = refl
formed-fits (a ∷ es) h = fits_on a es (and_left _ _ h) (and_right (fits a) _ h)

-- ---- any order

-- diffs that are machine words, as the sort has them
pub words_fit : (es : List Entry) → every fits es ≡ true → Words es
unfolding every
words_fit [] h = tt
words_fit (e ∷ es) h = (record { fits = ltb-true _ _ (and_left _ _ h) }, words_fit es (and_right (fits e) _ h))

pub form_permuted : FormPermuted
form_permuted es fs p h = ap (λ (l : List Entry). formed l) (sort_perm p (words_fit es h))
