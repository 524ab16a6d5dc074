-- The theorems of `specs/Theorems.antt`: what a merge keeps, and that the definition by L is the plain two-pointer merge.
use Prim.Native.Nat.{ℕ, suc, ◌+◌, ◌<◌, ◌≤◌}
use mathlib.Core.Path.{◌≡◌, refl, sym, ◌∙◌, ap}
use mathlib.Core.Bool.{Bool, true, false, not, cond, ◌&&◌, ◌||◌}
use mathlib.Core.List.{List, [], ◌∷◌, ◌++◌}
use native.Mathlib.Omega.{arith}
use lib.Dec.{eqb}
use lib.ListN.{length, drop}
use lib.IntN.{ℤ, pos, ◌+ℤ◌, +ℤ_comm, +ℤ_assoc, +ℤ_idl}
use borrow.Author.Tests.{lt-ltb, eq-eqb, ltb-true, not-true, not-false}
use mir.Syntax.{w64}
use mir.Facts.{to_z-of_z}
use Rattle.chunk.specs.Entry.{Entry, before, same, rising, rising_from, every, keep, change}
use Rattle.chunk.specs.Sums.{plus, sum_fits, total}
use Rattle.reports.specs.Merge.{insert_add, union, last_or, last_of, lesser_last, up_to, merged, place_at, survivor, nobody, the_first, the_second, overflows_at, overflows, sound_at}
use Rattle.reports.specs.Theorems.{walked, whole, plain, summed, left_of, Sound, SoundOf, swapped, MergedRises, MergedShort, MergedThenLeft, TotalsKept, SurvivorSound, MergedCommutes, SurvivorCommutes, MergedIsPlain}
use Rattle.laws.proofs.Tests.{by_test, and_left, and_right, and_both, true-not-false}
use Rattle.laws.proofs.Order.{before_trans, before_asym, before_irrefl, before-not-same, same_sym, same-before, before_same, same_parts, Same, Compared, less, equal, more, compared, rising_tail, rising_all, all_rising, keep-rising}
use Rattle.reports.proofs.Walked.{side_by_side, walked-less, walked_more, walked_same, union-whole, whole_swapped}

-- a disjunction that fails
or_left : (a b : Bool) → (a || b) ≡ false → a ≡ false
or_left true b h = h
or_left false b h = refl

or_right : (a b : Bool) → (a || b) ≡ false → b ≡ false
or_right true b h = absurd (true-not-false h)
or_right false b h = h

-- ---- lengths

put_length : (b : Entry) (es : List Entry) → length (insert_add b es) ≤ suc (length es)
unfolding insert_add
put_length b [] = omega arith
put_length b (a ∷ es) =
    let ih : length (insert_add b es) ≤ suc (length es) = put_length b es in
    by_test (before b a) (λ h. rw h (omega arith)) (λ h. by_test (same a b) (λ s. rw (h, s) (omega arith)) (λ s. rw (h, s) (omega arith)))

union-length : (es bs : List Entry) → length (union es bs) ≤ length es + length bs
unfolding union
union-length es [] = omega arith
union-length es (b ∷ bs) = omega (arith, put_length b (union es bs), union-length es bs)

keep-length : (p : Entry → Bool) (es : List Entry) → length (keep p es) ≤ length es
unfolding keep
keep-length p [] = omega arith
keep-length p (a ∷ es) =
    let ih : length (keep p es) ≤ length es = keep-length p es in
    by_test (p a) (λ h. rw h (omega arith)) (λ h. rw h (omega arith))

pub merged_short : MergedShort
unfolding merged
merged_short a b = omega (arith, keep-length (λ (e : Entry). not (before (lesser_last a b) e)) (union a b), union-length a b)

-- ---- rising

put_after : (x b : Entry) (es : List Entry) → before x b ≡ true → every (before x) es ≡ true → every (before x) (insert_add b es) ≡ true
unfolding insert_add every
put_after x b [] h k = and_both (before x b) true h refl
put_after x b (a ∷ es) h k =
    by_test (before b a)
    (λ m. rw m (and_both (before x b) _ h k))
    (λ m. by_test (same a b) (λ s. rw (m, s) k)
    (λ s. rw (m, s) (and_both (before x a) _ (and_left (before x a) _ k) (put_after x b es h (and_right (before x a) _ k)))))

put_rising : (b : Entry) (es : List Entry) → rising es ≡ true → rising (insert_add b es) ≡ true
unfolding insert_add rising rising_from
put_rising b [] h = refl
put_rising b (a ∷ es) h = go (put_rising b es (rising_tail a es h)) (compared a b)
  where
    go : rising (insert_add b es) ≡ true → Compared a b → rising (insert_add b (a ∷ es)) ≡ true
    go ih (less c) = rw (before_asym a b c, before-not-same a b c) (all_rising a (insert_add b es) (put_after a b es c (rising_all a es h)) ih)
    go ih (equal c) = rw (before_same a b b c ∙ before_irrefl b, c) (relabelled es h)
      where
        relabelled : (ds : List Entry) → rising_from a ds ≡ true → rising_from (summed a b) ds ≡ true
        relabelled [] k = refl
        relabelled (d ∷ ds) k = k
    go ih (more c) = rw c (and_both (before b a) _ c h)

union-rising : (es bs : List Entry) → rising es ≡ true → rising (union es bs) ≡ true
unfolding union
union-rising es [] h = h
union-rising es (b ∷ bs) h = put_rising b (union es bs) (union-rising es bs h)

pub merged_rises : MergedRises
unfolding merged
merged_rises a b h k = keep-rising (λ (e : Entry). not (before (lesser_last a b) e)) (union a b) (union-rising a b h)

-- ---- the last position

-- what is before every entry is before the last one
before_last : (x a : Entry) (es : List Entry) → every (before x) (a ∷ es) ≡ true → before x (last_of (a ∷ es)) ≡ true
unfolding every last_or
before_last x a [] h = and_left (before x a) _ h
before_last x a (b ∷ es) h = before_last x b es (and_right (before x a) _ h)

abbrev not_past : Entry → Entry → Bool
not_past l e = not (before l e)

not_past_lem : (l e : Entry) → before l e ≡ false → not_past l e ≡ true
not_past_lem l e h = rw h

-- nothing is past the last one
last_last : (es : List Entry) → rising es ≡ true → every (not_past (last_of es)) es ≡ true
unfolding every last_or rising rising_from
last_last [] h = refl
last_last (a ∷ []) h = and_both (not_past a a) true (not_past_lem a a (before_irrefl a)) refl
last_last (a ∷ b ∷ es) h =
    and_both (not_past (last_of (b ∷ es)) a) _
    (not_past_lem (last_of (b ∷ es)) a (before_asym a (last_of (b ∷ es)) (before_last a b es (rising_all a (b ∷ es) h))))
    (last_last (b ∷ es) (rising_tail a (b ∷ es) h))

-- none are kept of which each is past
up_to-none : (l : Entry) (es : List Entry) → every (before l) es ≡ true → up_to l es ≡ []
unfolding every keep
up_to-none l [] h = refl
up_to-none l (a ∷ es) h = rw (and_left (before l a) _ h) (up_to-none l es (and_right (before l a) _ h))

keep-none : (l : Entry) (es : List Entry) → every (not_past l) es ≡ true → keep (before l) es ≡ []
unfolding every keep
keep-none l [] h = refl
keep-none l (a ∷ es) h = rw (not-true (before l a) (and_left (not_past l a) _ h)) (keep-none l es (and_right (not_past l a) _ h))

keep_all : (l : Entry) (es : List Entry) → every (before l) es ≡ true → keep (before l) es ≡ es
unfolding every keep
keep_all l [] h = refl
keep_all l (a ∷ es) h = rw (and_left (before l a) _ h) (ap (λ (x : List Entry). a ∷ x) (keep_all l es (and_right (before l a) _ h)))

past_all : (l a : Entry) (es : List Entry) → before l a ≡ true → every (before a) es ≡ true → every (before l) es ≡ true
unfolding every
past_all l a [] h k = refl
past_all l a (e ∷ es) h k = and_both (before l e) _ (before_trans l a e h (and_left (before a e) _ k)) (past_all l a es h (and_right (before a e) _ k))

-- a rising list: those up to a position, then those past it
cut : (l : Entry) (es : List Entry) → rising es ≡ true → up_to l es ++ keep (before l) es ≡ es
unfolding keep rising
cut l [] h = refl
cut l (a ∷ es) h =
    by_test (before l a)
    (λ p. let q : every (before l) es ≡ true = past_all l a es p (rising_all a es h) in
    rw (p, up_to-none l es q) (ap (λ (x : List Entry). a ∷ x) (keep_all l es q)))
    (λ p. rw p (ap (λ (x : List Entry). a ∷ x) (cut l es (rising_tail a es h))))

-- those past a position are dropped to
drop_past : (l : Entry) (es : List Entry) → rising es ≡ true → drop (length (up_to l es)) es ≡ keep (before l) es
drop_past l es h =
    ap (drop (length (up_to l es))) (sym (cut l es h)) ∙ lib.Seq.drop-append_seam (up_to l es) (keep (before l) es)

-- ---- what is left

-- an entry that is not past a position does not change what is past it
put_kept : (l b : Entry) (es : List Entry) → before l b ≡ false → keep (before l) (insert_add b es) ≡ keep (before l) es
unfolding insert_add keep
put_kept l b [] h = rw h
put_kept l b (a ∷ es) h =
    by_test (before b a)
    (λ m. rw (m, h))
    (λ m. by_test (same a b)
    (λ s. rw (m, s, before_same a b l s ∙ h))
    (λ s. rw (m, s) (by_test (before l a) (λ p. rw p (ap (λ (x : List Entry). a ∷ x) (put_kept l b es h))) (λ p. rw p (put_kept l b es h)))))

union_kept : (l : Entry) (es bs : List Entry) → every (not_past l) bs ≡ true → keep (before l) (union es bs) ≡ keep (before l) es
unfolding union every
union_kept l es [] h = refl
union_kept l es (b ∷ bs) h =
    put_kept l b (union es bs) (not-true (before l b) (and_left (not_past l b) _ h)) ∙ union_kept l es bs (and_right (not_past l b) _ h)

union-swapped : (es bs : List Entry) → rising es ≡ true → rising bs ≡ true → union es bs ≡ union bs es
union-swapped es bs h k = union-whole es bs h k ∙ whole_swapped es bs ∙ sym (union-whole bs es k h)

every_level : (l m : Entry) (es : List Entry) → same l m ≡ true → every (not_past m) es ≡ true → every (not_past l) es ≡ true
unfolding every
every_level l m [] s h = refl
every_level l m (e ∷ es) s h =
    and_both (not_past l e) _ (ap not (same-before l m e s) ∙ and_left (not_past m e) _ h) (every_level l m es s (and_right (not_past m e) _ h))

-- who survives, by the two last positions
survivor-same : (a b : List Entry) → same (last_of a) (last_of b) ≡ true → survivor a b ≡ nobody
unfolding survivor
survivor-same a b h = rw h

survivor_first : (a b : List Entry) → before (last_of b) (last_of a) ≡ true → survivor a b ≡ the_first (place_at a (length (up_to (last_of b) a)))
unfolding survivor
survivor_first a b h = rw (ne h, h)
  where
    ne : before (last_of b) (last_of a) ≡ true → same (last_of a) (last_of b) ≡ false
    ne k = by_test (same (last_of a) (last_of b))
        (λ s. absurd (true-not-false (sym k ∙ before_same (last_of a) (last_of b) (last_of b) s ∙ before_irrefl (last_of b))))
        (λ s. s)

survivor_second : (a b : List Entry) → before (last_of a) (last_of b) ≡ true → survivor a b ≡ the_second (place_at b (length (up_to (last_of a) b)))
unfolding survivor
survivor_second a b h = rw (before-not-same (last_of a) (last_of b) h, before_asym (last_of a) (last_of b) h)

lesser_same : (a b : List Entry) → before (last_of b) (last_of a) ≡ false → lesser_last a b ≡ last_of a
lesser_same a b h = rw h

lesser_second : (a b : List Entry) → before (last_of b) (last_of a) ≡ true → lesser_last a b ≡ last_of b
lesser_second a b h = rw h

left_is : (a b : List Entry) → rising a ≡ true → rising b ≡ true → left_of a b (survivor a b) ≡ keep (before (lesser_last a b)) (union a b)
unfolding place_at
left_is a b h k = go (compared (last_of a) (last_of b))
  where
    go : Compared (last_of a) (last_of b) → left_of a b (survivor a b) ≡ keep (before (lesser_last a b)) (union a b)
    go (less c) =
        ap (left_of a b) (survivor_second a b c) ∙ drop_past (last_of a) b k
        ∙ sym (union_kept (last_of a) b a (last_last a h))
        ∙ ap (keep (before (last_of a))) (union-swapped b a k h)
        ∙ ap (λ (l : Entry). keep (before l) (union a b)) (sym (lesser_same a b (before_asym (last_of a) (last_of b) c)))
    go (more c) =
        ap (left_of a b) (survivor_first a b c) ∙ drop_past (last_of b) a h
        ∙ sym (union_kept (last_of b) a b (last_last b k))
        ∙ ap (λ (l : Entry). keep (before l) (union a b)) (sym (lesser_second a b c))
    go (equal c) =
        ap (left_of a b) (survivor-same a b c)
        ∙ sym (keep-none (last_of a) a (last_last a h))
        ∙ sym (union_kept (last_of a) a b (every_level (last_of a) (last_of b) b c (last_last b k)))
        ∙ ap (λ (l : Entry). keep (before l) (union a b)) (sym (lesser_same a b (before_same (last_of a) (last_of b) (last_of b) c ∙ before_irrefl (last_of b))))

pub merged_then_left : MergedThenLeft
unfolding merged
merged_then_left a b h k =
    ap (λ (x : List Entry). up_to (lesser_last a b) (union a b) ++ x) (left_is a b h k) ∙ cut (lesser_last a b) (union a b) (union-rising a b h)

-- ---- totals

-- whether an entry is at a position
abbrev at : ℕ → ℕ → ℕ → Entry → Bool
at k v t e = eqb e.key k && (eqb e.val v && eqb e.time t)

-- what one entry says at a position
abbrev says : ℕ → ℕ → ℕ → Entry → ℤ
says k v t e = cond (at k v t e) (change e.diff) (pos 0)

total_head : (k v t : ℕ) (e : Entry) (es : List Entry) → total k v t (e ∷ es) ≡ says k v t e +ℤ total k v t es
unfolding total
total_head k v t e es =
    by_test (at k v t e) (λ h. rw h) (λ h. rw h (sym (+ℤ_idl (total k v t es))))

total-append : (k v t : ℕ) (es fs : List Entry) → total k v t (es ++ fs) ≡ total k v t es +ℤ total k v t fs
unfolding total
total-append k v t [] fs = sym (+ℤ_idl (total k v t fs))
total-append k v t (e ∷ es) fs =
    total_head k v t e (es ++ fs) ∙ ap (λ (z : ℤ). says k v t e +ℤ z) (total-append k v t es fs)
    ∙ sym (+ℤ_assoc (says k v t e) (total k v t es) (total k v t fs))
    ∙ ap (λ (z : ℤ). z +ℤ total k v t fs) (sym (total_head k v t e es))

-- a sum that fits is read back
sum_read : (x y : ℕ) → sum_fits x y ≡ true → change (plus x y) ≡ change x +ℤ change y
sum_read x y h = to_z-of_z {w = w64} {z = change x +ℤ change y} (record { sfits = ltb-true _ _ h })

summed-says : (k v t : ℕ) (a b : Entry) → same a b ≡ true → sum_fits a.diff b.diff ≡ true
    → says k v t (summed a b) ≡ says k v t a +ℤ says k v t b
summed-says k v t a b s f =
    by_test (at k v t a)
    (λ h. rw (h, level h) (sum_read a.diff b.diff f))
    (λ h. rw (h, level h))
  where
    level : {x : Bool} → at k v t a ≡ x → at k v t b ≡ x
    level h = let g : Same a b = same_parts a b s in rw (← g.key, ← g.val, ← g.time) h

-- the second list's head taken away leaves no overflow where there was none
overflows_tail : (es : List Entry) (b : Entry) (bs : List Entry) → overflows es (b ∷ bs) ≡ false → overflows es bs ≡ false
unfolding overflows overflows_at
overflows_tail [] b bs h = refl
overflows_tail (a ∷ es) b bs h =
    rw (or_right (same a b && not (sum_fits a.diff b.diff)) (overflows_at a bs) (or_left (overflows_at a (b ∷ bs)) _ h))
    (overflows_tail es b bs (or_right (overflows_at a (b ∷ bs)) (overflows es (b ∷ bs)) h))

swap_middle : (x y z : ℤ) → x +ℤ (y +ℤ z) ≡ y +ℤ (x +ℤ z)
swap_middle x y z = sym (+ℤ_assoc x y z) ∙ ap (λ (w : ℤ). w +ℤ z) (+ℤ_comm x y) ∙ +ℤ_assoc y x z

whole-total : (k v t : ℕ) (es bs : List Entry) → overflows es bs ≡ false → total k v t (whole es bs) ≡ total k v t es +ℤ total k v t bs
unfolding walked total overflows overflows_at
whole-total k v t =
    side_by_side (λ es bs. overflows es bs ≡ false → total k v t (whole es bs) ≡ total k v t es +ℤ total k v t bs)
    (λ bs h. sym (+ℤ_idl (total k v t bs)))
    (λ a es h. sym (+ℤ_comm (total k v t (a ∷ es)) (pos 0) ∙ +ℤ_idl (total k v t (a ∷ es))))
    (λ a es b bs i j m h. go a es b bs i j m h (compared a b))
  where
    T : List Entry → ℤ
    T es = total k v t es

    S : Entry → ℤ
    S e = says k v t e

    go : (a : Entry) (es : List Entry) (b : Entry) (bs : List Entry)
        → (overflows es (b ∷ bs) ≡ false → T (whole es (b ∷ bs)) ≡ T es +ℤ T (b ∷ bs))
        → (overflows (a ∷ es) bs ≡ false → T (whole (a ∷ es) bs) ≡ T (a ∷ es) +ℤ T bs)
        → (overflows es bs ≡ false → T (whole es bs) ≡ T es +ℤ T bs)
        → overflows (a ∷ es) (b ∷ bs) ≡ false → Compared a b → T (whole (a ∷ es) (b ∷ bs)) ≡ T (a ∷ es) +ℤ T (b ∷ bs)
    go a es b bs i j m h (less c) =
        ap T (walked-less (λ (l : List Entry). l) a es b bs c) ∙ total_head k v t a (whole es (b ∷ bs))
        ∙ ap (λ (z : ℤ). S a +ℤ z) (i (or_right (overflows_at a (b ∷ bs)) _ h))
        ∙ sym (+ℤ_assoc (S a) (T es) (T (b ∷ bs))) ∙ ap (λ (z : ℤ). z +ℤ T (b ∷ bs)) (sym (total_head k v t a es))
    go a es b bs i j m h (more c) =
        ap T (walked_more (λ (l : List Entry). l) a es b bs c) ∙ total_head k v t b (whole (a ∷ es) bs)
        ∙ ap (λ (z : ℤ). S b +ℤ z) (j (overflows_tail (a ∷ es) b bs h))
        ∙ swap_middle (S b) (T (a ∷ es)) (T bs) ∙ ap (λ (z : ℤ). T (a ∷ es) +ℤ z) (sym (total_head k v t b bs))
    go a es b bs i j m h (equal c) =
        ap T (walked_same (λ (l : List Entry). l) a es b bs c) ∙ total_head k v t (summed a b) (whole es bs)
        ∙ ap (λ (z : ℤ). S (summed a b) +ℤ z) (m (overflows_tail es b bs (or_right (overflows_at a (b ∷ bs)) _ h)))
        ∙ ap (λ (z : ℤ). z +ℤ (T es +ℤ T bs)) (summed-says k v t a b c fit)
        ∙ +ℤ_assoc (S a) (S b) (T es +ℤ T bs) ∙ ap (λ (z : ℤ). S a +ℤ z) (swap_middle (S b) (T es) (T bs))
        ∙ sym (+ℤ_assoc (S a) (T es) (S b +ℤ T bs))
        ∙ ap (λ (z : ℤ). z +ℤ (S b +ℤ T bs)) (sym (total_head k v t a es))
        ∙ ap (λ (z : ℤ). T (a ∷ es) +ℤ z) (sym (total_head k v t b bs))
      where
        here : (same a b && not (sum_fits a.diff b.diff)) ≡ false
        here = or_left _ _ (or_left (overflows_at a (b ∷ bs)) _ h)

        fit : sum_fits a.diff b.diff ≡ true
        fit = not-false (sum_fits a.diff b.diff) (sym (ap (λ (x : Bool). x && not (sum_fits a.diff b.diff)) c) ∙ here)

pub totals_kept : TotalsKept
totals_kept a b h g o k v t =
    sym (total-append k v t (merged a b) (left_of a b (survivor a b)))
    ∙ ap (total k v t) (merged_then_left a b h g ∙ union-whole a b h g) ∙ whole-total k v t a b o

-- ---- the survivor's cursor

-- where the last is past a position, so is one entry at least
up_to_short : (l a : Entry) (es : List Entry) → before l (last_of (a ∷ es)) ≡ true → length (up_to l (a ∷ es)) < length (a ∷ es)
unfolding keep last_or
up_to_short l a [] h = rw h (omega arith)
up_to_short l a (b ∷ es) h =
    let ih : length (up_to l (b ∷ es)) < length (b ∷ es) = up_to_short l b es h in
    by_test (before l a) (λ p. rw p (omega arith)) (λ p. rw p (omega arith))

sound_past : (l : Entry) (es : List Entry) → before l (last_of es) ≡ true → Sound es (place_at es (length (up_to l es)))
unfolding last_or sound_at place_at
sound_past l [] h = absurd (true-not-false (sym h ∙ nothing l))
  where
    nothing : (e : Entry) → before e (record { key = 0; val = 0; time = 0; diff = 0 }) ≡ false
    nothing e = rw (borrow.Author.Tests.le-ltb e.key 0 (omega arith), borrow.Author.Tests.le-ltb e.val 0 (omega arith), borrow.Author.Tests.le-ltb e.time 0 (omega arith)) (none (eqb e.key 0) (eqb e.val 0))
      where
        none : (x y : Bool) → (x && (y && false)) ≡ false
        none true true = refl
        none true false = refl
        none false true = refl
        none false false = refl
sound_past l (a ∷ es) h =
    let n : length (up_to l (a ∷ es)) < length (a ∷ es) = up_to_short l a es h in
    record {
      sound = rw (lt-ltb (length (up_to l (a ∷ es))) (length (a ∷ es)) n, eq-eqb (place_at (a ∷ es) (length (up_to l (a ∷ es)))).v _ refl, eq-eqb (place_at (a ∷ es) (length (up_to l (a ∷ es)))).k _ refl);
      within = n;
    }

pub survivor-sound : SurvivorSound
unfolding place_at
survivor-sound a b h k = go (compared (last_of a) (last_of b))
  where
    go : Compared (last_of a) (last_of b) → SoundOf a b (survivor a b)
    go (less c) = rw (survivor_second a b c) (sound_past (last_of a) b c)
    go (more c) = rw (survivor_first a b c) (sound_past (last_of b) a c)
    go (equal c) = rw (survivor-same a b c) tt

-- ---- either way round

lesser_swapped : (a b : List Entry) (e : Entry) → before (lesser_last a b) e ≡ before (lesser_last b a) e
lesser_swapped a b e = go (compared (last_of a) (last_of b))
  where
    go : Compared (last_of a) (last_of b) → before (lesser_last a b) e ≡ before (lesser_last b a) e
    go (less c) = rw (lesser_same a b (before_asym (last_of a) (last_of b) c), lesser_second b a c)
    go (more c) = rw (lesser_second a b c, lesser_same b a (before_asym (last_of b) (last_of a) c))
    go (equal c) =
        ap (λ (l : Entry). before l e) (lesser_same a b (before_same (last_of a) (last_of b) (last_of b) c ∙ before_irrefl (last_of b)))
        ∙ same-before (last_of a) (last_of b) e c
        ∙ ap (λ (l : Entry). before l e) (sym (lesser_same b a (same-before (last_of a) (last_of b) (last_of b) c ∙ before_irrefl (last_of b))))

keep_alike : (p q : Entry → Bool) → ((e : Entry) → p e ≡ q e) → (es : List Entry) → keep p es ≡ keep q es
unfolding keep
keep_alike p q h [] = refl
keep_alike p q h (a ∷ es) = rw (h a) (ap (λ (x : List Entry). cond (q a) (a ∷ x) x) (keep_alike p q h es))

pub merged_commutes : MergedCommutes
unfolding merged
merged_commutes a b h k =
    ap (up_to (lesser_last a b)) (union-swapped a b h k)
    ∙ keep_alike (λ (e : Entry). not (before (lesser_last a b) e)) (λ (e : Entry). not (before (lesser_last b a) e)) (λ e. ap not (lesser_swapped a b e)) (union b a)

pub survivor_commutes : SurvivorCommutes
survivor_commutes a b = go (compared (last_of a) (last_of b))
  where
    go : Compared (last_of a) (last_of b) → survivor b a ≡ swapped (survivor a b)
    go (less c) = survivor_first b a c ∙ ap swapped (sym (survivor_second a b c))
    go (more c) = survivor_second b a c ∙ ap swapped (sym (survivor_first a b c))
    go (equal c) = survivor-same b a (same_sym (last_of a) (last_of b) c) ∙ ap swapped (sym (survivor-same a b c))

-- ---- the plain two-pointer merge

-- a head before the whole of a list is no later than the lesser of its own list's last and that list's
lesser_after : (x : Entry) (a b : List Entry) → before x (last_of a) ≡ true → before x (last_of b) ≡ true → before (lesser_last a b) x ≡ false
lesser_after x a b h k =
    by_test (before (last_of b) (last_of a))
    (λ c. rw c (before_asym x (last_of b) k))
    (λ c. rw c (before_asym x (last_of a) h))

kept_head : (l x : Entry) (es : List Entry) → before l x ≡ false → up_to l (x ∷ es) ≡ x ∷ up_to l es
unfolding keep
kept_head l x es h = rw h

abbrev Plain : List Entry → List Entry → Type 0
Plain a b = rising a ≡ true → rising b ≡ true → 0 < length a → 0 < length b → up_to (lesser_last a b) (whole a b) ≡ plain a b

abbrev id : List Entry → List Entry
id es = es

abbrev stop : List Entry → List Entry
stop es = []

-- the first list ends here: nothing of the second is kept past its last
ends_first : (x : Entry) (bs : List Entry) → every (before x) bs ≡ true → up_to x (whole [] bs) ≡ plain [] bs
unfolding walked
ends_first x bs h = up_to-none x bs h

ends_second : (x : Entry) (es : List Entry) → every (before x) es ≡ true → up_to x (whole es []) ≡ plain es []
unfolding walked every
ends_second x [] h = up_to-none x [] refl
ends_second x (e ∷ es) h = up_to-none x (e ∷ es) h

-- what is before the head of a rising list is before all of it
past_list : (x a : Entry) (es : List Entry) → before x a ≡ true → rising (a ∷ es) ≡ true → every (before x) (a ∷ es) ≡ true
unfolding every rising
past_list x a es h k = and_both (before x a) _ h (past_all x a es h (rising_all a es k))

plain-less : (a : Entry) (es : List Entry) (b : Entry) (bs : List Entry) → Plain es (b ∷ bs) → before a b ≡ true → Plain (a ∷ es) (b ∷ bs)
unfolding last_or rising
plain-less a [] b bs ih c h k m n =
    let all : every (before a) (b ∷ bs) ≡ true = past_list a b bs c k in
    let l : lesser_last (a ∷ []) (b ∷ bs) ≡ a = lesser_same (a ∷ []) (b ∷ bs) (before_asym a (last_of (b ∷ bs)) (before_last a b bs all)) in
    rw (l, walked-less id a [] b bs c, walked-less stop a [] b bs c, kept_head a a (whole [] (b ∷ bs)) (before_irrefl a))
    (ap (λ (x : List Entry). a ∷ x) (ends_first a (b ∷ bs) all))
plain-less a (e ∷ es) b bs ih c h k m n =
    let far : before a (last_of (b ∷ bs)) ≡ true = before_last a b bs (past_list a b bs c k) in
    let own : before a (last_of (e ∷ es)) ≡ true = before_last a e es (rising_all a (e ∷ es) h) in
    ap (up_to (lesser_last (e ∷ es) (b ∷ bs))) (walked-less id a (e ∷ es) b bs c)
    ∙ kept_head (lesser_last (e ∷ es) (b ∷ bs)) a (whole (e ∷ es) (b ∷ bs)) (lesser_after a (e ∷ es) (b ∷ bs) own far)
    ∙ ap (λ (x : List Entry). a ∷ x) (ih (rising_tail a (e ∷ es) h) k (omega arith) n)
    ∙ sym (walked-less stop a (e ∷ es) b bs c)

plain_more : (a : Entry) (es : List Entry) (b : Entry) (bs : List Entry) → Plain (a ∷ es) bs → before b a ≡ true → Plain (a ∷ es) (b ∷ bs)
unfolding last_or rising
plain_more a es b [] ih c h k m n =
    let all : every (before b) (a ∷ es) ≡ true = past_list b a es c h in
    let l : lesser_last (a ∷ es) (b ∷ []) ≡ b = lesser_second (a ∷ es) (b ∷ []) (before_last b a es all) in
    rw (l, walked_more id a es b [] c, walked_more stop a es b [] c, kept_head b b (whole (a ∷ es) []) (before_irrefl b))
    (ap (λ (x : List Entry). b ∷ x) (ends_second b (a ∷ es) all))
plain_more a es b (d ∷ bs) ih c h k m n =
    let far : before b (last_of (a ∷ es)) ≡ true = before_last b a es (past_list b a es c h) in
    let own : before b (last_of (d ∷ bs)) ≡ true = before_last b d bs (rising_all b (d ∷ bs) k) in
    ap (up_to (lesser_last (a ∷ es) (d ∷ bs))) (walked_more id a es b (d ∷ bs) c)
    ∙ kept_head (lesser_last (a ∷ es) (d ∷ bs)) b (whole (a ∷ es) (d ∷ bs)) (lesser_after b (a ∷ es) (d ∷ bs) far own)
    ∙ ap (λ (x : List Entry). b ∷ x) (ih h (rising_tail b (d ∷ bs) k) m (omega arith))
    ∙ sym (walked_more stop a es b (d ∷ bs) c)

plain-same : (a : Entry) (es : List Entry) (b : Entry) (bs : List Entry) → Plain es bs → same a b ≡ true → Plain (a ∷ es) (b ∷ bs)
unfolding last_or rising every
plain-same a [] b bs ih c h k m n =
    let all : every (before a) bs ≡ true = every-same bs (rising_all b bs k) in
    let l : lesser_last (a ∷ []) (b ∷ bs) ≡ a = lesser_same (a ∷ []) (b ∷ bs) (last_not bs all) in
    rw (l, walked_same id a [] b bs c, walked_same stop a [] b bs c, kept_head a (summed a b) (whole [] bs) (before_irrefl a))
    (ap (λ (x : List Entry). summed a b ∷ x) (ends_first a bs all))
  where
    every-same : (ds : List Entry) → every (before b) ds ≡ true → every (before a) ds ≡ true
    every-same [] p = refl
    every-same (d ∷ ds) p = and_both (before a d) _ (same-before a b d c ∙ and_left (before b d) _ p) (every-same ds (and_right (before b d) _ p))

    last_not : (ds : List Entry) → every (before a) ds ≡ true → before (last_of (b ∷ ds)) a ≡ false
    last_not [] p = before_same a b b c ∙ before_irrefl b
    last_not (d ∷ ds) p = before_asym a (last_of (d ∷ ds)) (before_last a d ds p)
plain-same a (e ∷ es) b [] ih c h k m n =
    let far : before b (last_of (e ∷ es)) ≡ true = sym (same-before a b (last_of (e ∷ es)) c) ∙ before_last a e es (rising_all a (e ∷ es) h) in
    let l : lesser_last (a ∷ e ∷ es) (b ∷ []) ≡ b = lesser_second (a ∷ e ∷ es) (b ∷ []) far in
    rw (l, walked_same id a (e ∷ es) b [] c, walked_same stop a (e ∷ es) b [] c, kept_head b (summed a b) (whole (e ∷ es) []) (before_same a b b c ∙ before_irrefl b))
    (ap (λ (x : List Entry). summed a b ∷ x) (ends_second b (e ∷ es) (past_list b e es (sym (same-before a b e c) ∙ and_left (before a e) _ (rising_all a (e ∷ es) h)) (rising_tail a (e ∷ es) h))))
plain-same a (e ∷ es) b (d ∷ bs) ih c h k m n =
    let own : before a (last_of (e ∷ es)) ≡ true = before_last a e es (rising_all a (e ∷ es) h) in
    let far : before a (last_of (d ∷ bs)) ≡ true = same-before a b (last_of (d ∷ bs)) c ∙ before_last b d bs (rising_all b (d ∷ bs) k) in
    ap (up_to (lesser_last (e ∷ es) (d ∷ bs))) (walked_same id a (e ∷ es) b (d ∷ bs) c)
    ∙ kept_head (lesser_last (e ∷ es) (d ∷ bs)) (summed a b) (whole (e ∷ es) (d ∷ bs)) (lesser_after a (e ∷ es) (d ∷ bs) own far)
    ∙ ap (λ (x : List Entry). summed a b ∷ x) (ih (rising_tail a (e ∷ es) h) (rising_tail b (d ∷ bs) k) (omega arith) (omega arith))
    ∙ sym (walked_same stop a (e ∷ es) b (d ∷ bs) c)

whole_plain : (a b : List Entry) → Plain a b
whole_plain =
    side_by_side Plain
    (λ bs h k m n. absurd (omega arith))
    (λ a es h k m n. absurd (omega arith))
    (λ a es b bs i j q. go a es b bs i j q (compared a b))
  where
    go : (a : Entry) (es : List Entry) (b : Entry) (bs : List Entry) → Plain es (b ∷ bs) → Plain (a ∷ es) bs → Plain es bs → Compared a b → Plain (a ∷ es) (b ∷ bs)
    go a es b bs i j q (less c) = plain-less a es b bs i c
    go a es b bs i j q (more c) = plain_more a es b bs j c
    go a es b bs i j q (equal c) = plain-same a es b bs q c

pub merged_is_plain : MergedIsPlain
unfolding merged
merged_is_plain a b h k m n = ap (up_to (lesser_last a b)) (union-whole a b h k) ∙ whole_plain a b h k m n
