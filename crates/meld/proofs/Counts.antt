-- How many items each body has: an end for each list above it, and no layer more lists than the one below.
use Rattle.std.proofs.Common.{◌≡◌, ℕ, zero, suc, ◌+◌, ◌-◌, ◌^◌, ◌<◌, ◌≤◌, Bool, true, cond, eqb, leb, List, [], ◌∷◌, ◌++◌, length, sym, refl, ap, ◌∙◌, arith, length-append, length-take-le, le-leb, leb-true}
use lib.ListN.{length-map}
use Rattle.laws.proofs.Tests.{by_test, and_left, and_right}
use Rattle.chunk.specs.Entry.{Entry, same_list, stands, keep, every}
use Rattle.chunk.specs.Bodies.{lasts_of, ends_of, diff_ends_from, same_key, keys, vals, times, diffs, val_ends, time_ends, diff_ends}
use Rattle.meld.specs.Seam.{shared, shared_with, cut}
use Rattle.meld.specs.Copy.{shifted, shifted_all, gone}
use Rattle.meld.proofs.Append.{shared_one, lasts_some, raised, keys-append, vals-append, diffs-append}
use Rattle.meld.proofs.ValEnds.{first_key}

-- a list for each last one
ends_count : (same : Entry → Entry → Bool) (n : ℕ) (es : List Entry) → length (ends_of same n es) ≡ length (lasts_of same es)
unfolding ends_of lasts_of
ends_count same n [] = refl
ends_count same n (a ∷ []) = refl
ends_count same n (a ∷ b ∷ es) =
    by_test (same a b) (λ h. rw h (ends_count same (suc n) (b ∷ es))) (λ h. rw h (ap suc (ends_count same (suc n) (b ∷ es))))

-- one entry more
lasts_cons : (a : Entry) (es : List Entry) → 1 ≤ length es → lasts_of same_key (a ∷ es) ≡ cond (eqb (shared_with same_key a es) 1) (lasts_of same_key es) (a ∷ lasts_of same_key es)
unfolding lasts_of shared_with
lasts_cons a [] h = absurd (omega arith)
lasts_cons a (b ∷ es) h = by_test (same_key a b) (λ k. simp k) (λ k. simp k)

-- the last of each key is the last of its values
lasts_lasts : (es : List Entry) → lasts_of same_key (lasts_of same_list es) ≡ lasts_of same_key es
unfolding lasts_of
lasts_lasts [] = refl
lasts_lasts (a ∷ []) = refl
lasts_lasts (a ∷ b ∷ es) =
    by_test (same_list a b)
    (λ h. let k : same_key a b ≡ true = and_left _ _ h in rw (h, k) (lasts_lasts (b ∷ es)))
    (λ h. rw h
    (lasts_cons a (lasts_of same_list (b ∷ es)) (lasts_some same_list b es)
    ∙ rw (first_key a (b ∷ es), lasts_lasts (b ∷ es)) (sym (lasts_cons a (b ∷ es) (omega arith)))))

-- an end for each key
pub val_ends_count : (es : List Entry) → length (val_ends es) ≡ length (keys es)
val_ends_count es = ends_count same_key 0 (lasts_of same_list es) ∙ ap length (lasts_lasts es) ∙ sym (length-map (lasts_of same_key es) (λ (e : Entry). e.key))

-- an end for each value
pub time_ends_count : (es : List Entry) → length (time_ends es) ≡ length (vals es)
time_ends_count es = ends_count same_list 0 es ∙ sym (length-map (lasts_of same_list es) (λ (e : Entry). e.val))

diff_ends_from_lem : (n : ℕ) (es : List Entry) → length (diff_ends_from n es) ≡ length es
unfolding diff_ends_from
diff_ends_from_lem n [] = refl
diff_ends_from_lem n (a ∷ es) = by_test (stands a) (λ h. rw h (ap suc (diff_ends_from_lem (suc n) es))) (λ h. rw h (ap suc (diff_ends_from_lem n es)))

-- an end for each time
pub diff_ends_count : (es : List Entry) → length (diff_ends es) ≡ length (times es)
diff_ends_count es = diff_ends_from_lem 0 es ∙ sym (length-map es (λ (e : Entry). e.time))

-- the times number the entries
pub times-count : (es : List Entry) → length (times es) ≡ length es
times-count es = length-map es (λ (e : Entry). e.time)

lasts_fewer : (same : Entry → Entry → Bool) (es : List Entry) → length (lasts_of same es) ≤ length es
unfolding lasts_of
lasts_fewer same [] = omega arith
lasts_fewer same (a ∷ []) = omega arith
lasts_fewer same (a ∷ b ∷ es) = by_test (same a b) (λ h. rw h (omega (arith, lasts_fewer same (b ∷ es)))) (λ h. rw h (omega (arith, lasts_fewer same (b ∷ es))))

-- no more keys than entries
pub keys_fewer : (es : List Entry) → length (keys es) ≤ length es
keys_fewer es = omega (arith, length-map (lasts_of same_key es) (λ (e : Entry). e.key), lasts_fewer same_key es)

-- no more values than entries
pub vals_fewer : (es : List Entry) → length (vals es) ≤ length es
vals_fewer es = omega (arith, length-map (lasts_of same_list es) (λ (e : Entry). e.val), lasts_fewer same_list es)

keep_fewer : (p : Entry → Bool) (es : List Entry) → length (keep p es) ≤ length es
unfolding keep
keep_fewer p [] = omega arith
keep_fewer p (a ∷ es) = by_test (p a) (λ h. rw h (omega (arith, keep_fewer p es))) (λ h. rw h (omega (arith, keep_fewer p es)))

-- no more diffs than entries
pub diffs_fewer : (es : List Entry) → length (diffs es) ≤ length es
diffs_fewer es = omega (arith, length-map (keep stands es) (λ (e : Entry). e.diff), keep_fewer stands es)

-- no more is shared than there is
pub shared_within : (same : Entry → Entry → Bool) (es fs : List Entry) → shared same es fs ≤ length (lasts_of same es)
unfolding shared lasts_of
shared_within same [] fs = omega arith
shared_within same (a ∷ es) fs = omega (arith, shared_one same (a ∷ es) fs, lasts_some same a es)

cut_count : (n : ℕ) (l m : List ℕ) → length (cut n l ++ m) ≡ (length l - n) + length m
cut_count n l m = length-append (cut n l) m ∙ rw (length-take-le (length l - n) l (omega arith))

-- the keys of both, counted
pub keys_count : (es fs : List Entry) → length (keys (es ++ fs)) ≡ (length (keys es) - shared same_key es fs) + length (keys fs)
keys_count es fs = ap length (keys-append es fs) ∙ cut_count (shared same_key es fs) (keys es) (keys fs)

-- the values of both, counted
pub vals_count : (es fs : List Entry) → length (vals (es ++ fs)) ≡ (length (vals es) - shared same_list es fs) + length (vals fs)
vals_count es fs = ap length (vals-append es fs) ∙ cut_count (shared same_list es fs) (vals es) (vals fs)

-- the diffs of both, counted
pub diffs-count : (es fs : List Entry) → length (diffs (es ++ fs)) ≡ length (diffs es) + length (diffs fs)
diffs-count es fs = ap length (diffs-append es fs) ∙ length-append (diffs es) (diffs fs)

ends_below : (same : Entry → Entry → Bool) (n m : ℕ) (es : List Entry) → n + length es ≤ m → every (λ (e : ℕ). leb e m) (ends_of same n es) ≡ true
unfolding ends_of every
ends_below same n m [] h = refl
ends_below same n m (a ∷ []) h = rw (le-leb (suc n) m (omega arith))
ends_below same n m (a ∷ b ∷ es) h =
    by_test (same a b)
    (λ k. rw k (ends_below same (suc n) m (b ∷ es) (omega arith)))
    (λ k. rw (k, le-leb (suc n) m (omega arith)) (ends_below same (suc n) m (b ∷ es) (omega arith)))

diff_ends_below : (n m : ℕ) (es : List Entry) → n + length es ≤ m → every (λ (e : ℕ). leb e m) (diff_ends_from n es) ≡ true
unfolding diff_ends_from every
diff_ends_below n m [] h = refl
diff_ends_below n m (a ∷ es) h =
    by_test (stands a)
    (λ k. rw (k, le-leb (suc n) m (omega arith)) (diff_ends_below (suc n) m es (omega arith)))
    (λ k. rw (k, le-leb n m (omega arith)) (diff_ends_below n m es (omega arith)))

-- ends that fit go up without a wrap
shifted-raised : (by m : ℕ) (l : List ℕ) → every (λ (e : ℕ). leb e m) l ≡ true → m + by < 2 ^ 64 → shifted_all by l ≡ raised by l
unfolding every raised
shifted-raised by m [] h k = refl
shifted-raised by m (a ∷ l) h k =
    let n : a ≤ m = leb-true a m (and_left (leb a m) _ h) in
    let e : shifted by a ≡ a + by = omega arith in
    rw (e, shifted-raised by m l (and_right (leb a m) _ h) k)

raised-none : (l : List ℕ) → raised 0 l ≡ l
unfolding raised
raised-none [] = refl
raised-none (a ∷ l) = let e : a + 0 ≡ a = omega arith in rw (e, raised-none l)

gone-raised : (by m : ℕ) (l : List ℕ) → every (λ (e : ℕ). leb e m) l ≡ true → m + by < 2 ^ 64 → gone by l ≡ raised by l
unfolding gone
gone-raised zero m l h k = sym (raised-none l)
gone-raised (suc n) m l h k = shifted-raised (suc n) m l h k

-- the ends of a chunk go up by a count that fits
pub val_ends-gone : (by m : ℕ) (es : List Entry) → length es ≤ m → m + by < 2 ^ 64 → gone by (val_ends es) ≡ raised by (val_ends es)
val_ends-gone by m es h k = gone-raised by m (val_ends es) (ends_below same_key 0 m (lasts_of same_list es) (omega (arith, lasts_fewer same_list es))) k

pub time_ends-gone : (by m : ℕ) (es : List Entry) → length es ≤ m → m + by < 2 ^ 64 → gone by (time_ends es) ≡ raised by (time_ends es)
time_ends-gone by m es h k = gone-raised by m (time_ends es) (ends_below same_list 0 m es (omega arith)) k

pub diff_ends-gone : (by m : ℕ) (es : List Entry) → length es ≤ m → m + by < 2 ^ 64 → gone by (diff_ends es) ≡ raised by (diff_ends es)
diff_ends-gone by m es h k = gone-raised by m (diff_ends es) (diff_ends_below 0 m es (omega arith)) k
