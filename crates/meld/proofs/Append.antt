-- The bodies of one list of entries after another: each is the first one's, without its last where that list goes on, then the second one's,
-- the ends gone up by what stands before.
use Rattle.std.proofs.Common.{◌≡◌, ℕ, zero, suc, ◌+◌, ◌-◌, ◌≤◌, Bool, List, [], ◌∷◌, ◌++◌, map, length, take, sym, refl, ap, ◌∙◌, arith}
use mathlib.Core.List.{map-append}
use lib.ListN.{length-map}
use Rattle.laws.proofs.Tests.{by_test}
use Rattle.chunk.specs.Entry.{Entry, same_list, stands, keep}
use Rattle.chunk.specs.Bodies.{lasts_of, ends_of, diff_ends_from, same_key, keys, vals, times, diffs, time_ends, diff_ends}
use Rattle.meld.specs.Seam.{shared, shared_with, cut}

-- at most one list is shared
pub shared_one : (same : Entry → Entry → Bool) (es fs : List Entry) → shared same es fs ≤ 1
unfolding shared shared_with
shared_one same [] fs = omega arith
shared_one same (a ∷ []) [] = omega arith
shared_one same (a ∷ []) (f ∷ fs) = by_test (same a f) (λ h. simp h (omega arith)) (λ h. simp h (omega arith))
shared_one same (a ∷ c ∷ es) fs = shared_one same (c ∷ es) fs

-- some entries have some last one
pub lasts_some : (same : Entry → Entry → Bool) (a : Entry) (es : List Entry) → 1 ≤ length (lasts_of same (a ∷ es))
unfolding lasts_of
lasts_some same a [] = omega arith
lasts_some same a (b ∷ es) = by_test (same a b) (λ h. simp h (lasts_some same b es)) (λ h. simp h (omega arith))

-- and some end
pub ends_some : (same : Entry → Entry → Bool) (n : ℕ) (a : Entry) (es : List Entry) → 1 ≤ length (ends_of same n (a ∷ es))
unfolding ends_of
ends_some same n a [] = omega arith
ends_some same n a (b ∷ es) = by_test (same a b) (λ h. simp h (ends_some same (suc n) b es)) (λ h. simp h (omega arith))

-- a cut leaves what stands before
pub cut-cons {ℓ} : {A : Type ℓ} (n : ℕ) (a : A) (l : List A) → n ≤ length l → cut n (a ∷ l) ≡ a ∷ cut n l
cut-cons n a l h =
    let q : suc (length l) - n ≡ suc (length l - n) = omega arith in
    rw q

-- the last of each list
pub lasts_append : (same : Entry → Entry → Bool) (es fs : List Entry) → lasts_of same (es ++ fs) ≡ cut (shared same es fs) (lasts_of same es) ++ lasts_of same fs
unfolding lasts_of shared shared_with
lasts_append same [] fs = refl
lasts_append same (a ∷ []) [] = refl
lasts_append same (a ∷ []) (f ∷ fs) = by_test (same a f) (λ h. simp h) (λ h. simp h)
lasts_append same (a ∷ c ∷ es) fs =
    by_test (same a c)
    (λ h. rw h (lasts_append same (c ∷ es) fs))
    (λ h. rw h
    (ap {B = List Entry} (λ l. a ∷ l) (lasts_append same (c ∷ es) fs)
    ∙ ap (λ (l : List Entry). l ++ lasts_of same fs) (sym (cut-cons _ a (lasts_of same (c ∷ es)) (omega (arith, shared_one same (c ∷ es) fs, lasts_some same c es))))))

-- the ends, by one count that goes on
ends_on : (same : Entry → Entry → Bool) (n m : ℕ) (es fs : List Entry) → m ≡ n + length es → ends_of same n (es ++ fs) ≡ cut (shared same es fs) (ends_of same n es) ++ ends_of same m fs
unfolding ends_of shared shared_with
ends_on same n m [] fs q = let e : n ≡ m = omega arith in rw e
ends_on same n m (a ∷ []) [] q = refl
ends_on same n m (a ∷ []) (f ∷ fs) q = let e : m ≡ suc n = omega arith in rw e (by_test (same a f) (λ h. simp h) (λ h. simp h))
ends_on same n m (a ∷ c ∷ es) fs q =
    by_test (same a c)
    (λ h. rw h (ends_on same (suc n) m (c ∷ es) fs (omega arith)))
    (λ h. rw h
    (ap {B = List ℕ} (λ l. suc n ∷ l) (ends_on same (suc n) m (c ∷ es) fs (omega arith))
    ∙ ap (λ (l : List ℕ). l ++ ends_of same m fs) (sym (cut-cons _ (suc n) (ends_of same (suc n) (c ∷ es)) (omega (arith, shared_one same (c ∷ es) fs, ends_some same (suc n) c es))))))

-- ends with `by` items more before them
unfoldable pub raised : ℕ → List ℕ → List ℕ
raised by ends = map (λ (e : ℕ). e + by) ends

-- a later start raises each end
ends_up : (same : Entry → Entry → Bool) (n m by : ℕ) (es : List Entry) → m ≡ n + by → ends_of same m es ≡ raised by (ends_of same n es)
unfolding ends_of raised
ends_up same n m by [] q = refl
ends_up same n m by (a ∷ []) q = let e : suc m ≡ suc n + by = omega arith in rw e
ends_up same n m by (a ∷ b ∷ es) q =
    let e : suc m ≡ suc n + by = omega arith in
    by_test (same a b)
    (λ h. rw h (ends_up same (suc n) (suc m) by (b ∷ es) e))
    (λ h. rw h (cc (e, ends_up same (suc n) (suc m) by (b ∷ es) e)))

-- the ends of the lists
pub ends-append : (same : Entry → Entry → Bool) (es fs : List Entry) → ends_of same 0 (es ++ fs) ≡ cut (shared same es fs) (ends_of same 0 es) ++ raised (length es) (ends_of same 0 fs)
ends-append same es fs =
    ends_on same 0 (length es) es fs (omega arith)
    ∙ ap (λ (l : List ℕ). cut (shared same es fs) (ends_of same 0 es) ++ l) (ends_up same 0 (length es) (length es) fs (omega arith))

-- what is kept of both
pub keep_append {ℓ} : {A : Type ℓ} (p : A → Bool) (es fs : List A) → keep p (es ++ fs) ≡ keep p es ++ keep p fs
unfolding keep
keep_append p [] fs = refl
keep_append p (a ∷ es) fs = by_test (p a) (λ h. rw (h, keep_append p es fs)) (λ h. rw h (keep_append p es fs))

-- diff ends, by one count that goes on
diff_ends_on : (n m : ℕ) (es fs : List Entry) → m ≡ n + length (keep stands es) → diff_ends_from n (es ++ fs) ≡ diff_ends_from n es ++ diff_ends_from m fs
unfolding diff_ends_from keep
diff_ends_on n m [] fs q = let e : n ≡ m = omega arith in rw e
diff_ends_on n m (a ∷ es) fs q =
    by_test (stands a)
    (λ h. let e : m ≡ suc n + length (keep stands es) = omega (arith, rw h at q) in rw h (ap {B = List ℕ} (λ l. suc n ∷ l) (diff_ends_on (suc n) m es fs e)))
    (λ h. rw h (ap {B = List ℕ} (λ l. n ∷ l) (diff_ends_on n m es fs (rw h at q))))

-- a later start raises each diff end
diff_ends_raised : (n m by : ℕ) (es : List Entry) → m ≡ n + by → diff_ends_from m es ≡ raised by (diff_ends_from n es)
unfolding diff_ends_from raised
diff_ends_raised n m by [] q = refl
diff_ends_raised n m by (a ∷ es) q =
    by_test (stands a)
    (λ h. let e : suc m ≡ suc n + by = omega arith in rw h (cc (e, diff_ends_raised (suc n) (suc m) by es e)))
    (λ h. rw h (cc (q, diff_ends_raised n m by es q)))

-- the diff ends of both
pub diff_ends-append : (es fs : List Entry) → diff_ends (es ++ fs) ≡ diff_ends es ++ raised (length (diffs es)) (diff_ends fs)
diff_ends-append es fs =
    diff_ends_on 0 (length (diffs es)) es fs (omega (arith, length-map (keep stands es) (λ (e : Entry). e.diff)))
    ∙ ap (λ (l : List ℕ). diff_ends es ++ l) (diff_ends_raised 0 (length (diffs es)) (length (diffs es)) fs (omega arith))

-- the times of both
pub times-append : (es fs : List Entry) → times (es ++ fs) ≡ times es ++ times fs
times-append es fs = map-append (λ (e : Entry). e.time) es fs

-- the diffs of both
pub diffs-append : (es fs : List Entry) → diffs (es ++ fs) ≡ diffs es ++ diffs fs
diffs-append es fs = rw keep_append (map-append (λ (e : Entry). e.diff) (keep stands es) (keep stands fs))

map-take : {A : Type 0} (f : A → ℕ) (n : ℕ) (l : List A) → map f (take n l) ≡ take n (map f l)
map-take f zero l = refl
map-take f (suc n) [] = refl
map-take f (suc n) (a ∷ l) = ap {B = List ℕ} (λ r. f a ∷ r) (map-take f n l)

-- what the last entries of each list say
lasts_say : (f : Entry → ℕ) (same : Entry → Entry → Bool) (es fs : List Entry) → map f (lasts_of same (es ++ fs)) ≡ cut (shared same es fs) (map f (lasts_of same es)) ++ map f (lasts_of same fs)
lasts_say f same es fs =
    rw lasts_append
    (map-append f (cut (shared same es fs) (lasts_of same es)) (lasts_of same fs)
    ∙ rw (map-take f, length-map (lasts_of same es) f))

-- the keys of both
pub keys-append : (es fs : List Entry) → keys (es ++ fs) ≡ cut (shared same_key es fs) (keys es) ++ keys fs
keys-append es fs = lasts_say (λ (e : Entry). e.key) same_key es fs

-- the values of both
pub vals-append : (es fs : List Entry) → vals (es ++ fs) ≡ cut (shared same_list es fs) (vals es) ++ vals fs
vals-append es fs = lasts_say (λ (e : Entry). e.val) same_list es fs

-- the time ends of both
pub time_ends-append : (es fs : List Entry) → time_ends (es ++ fs) ≡ cut (shared same_list es fs) (time_ends es) ++ raised (length es) (time_ends fs)
time_ends-append es fs = ends-append same_list es fs
