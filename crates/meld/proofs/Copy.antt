-- A copy loop: before turn i the front holds the first i of the source, and past them what was lent.
use Rattle.std.proofs.Common.{◌≡◌, ℕ, zero, suc, ◌+◌, ◌-◌, ◌%◌, ◌^◌, ◌<◌, ◌≤◌, true, List, ◌∷◌, ◌++◌, length, get_or, take, drop, set, sym, refl, ap, ◌∙◌, append-nil, add-one, arith, drop_of_length-le, length-take-le, take_all, drop-cons, take-suc, min, leb, leb-true, leb-false}
use lib.Seq.{set_at, append_snoc, sets}
use borrow.Rule.Slice.PartMut.{put_mid}
use Rattle.chunk.specs.Bodies.{chunk_of}
use Rattle.chunk.specs.Words.{well_formed, entries, over, size}
use Rattle.laws.specs.Picked.{count_up}
use Rattle.laws.proofs.Picked.{length-count_up}
use Rattle.laws.proofs.Parts.{part_length}
use Rattle.laws.proofs.Tests.{by_test}
use Rattle.laws.proofs.Stores.{sets_front, sets_whole, put_sets}
use Rattle.laws.proofs.Whole.{as_it_is}
use Rattle.meld.specs.Copy.{copied, counted_on}

-- what the destination holds before turn i
abbrev pub partly : List ℕ → List ℕ → ℕ → List ℕ
partly dst src i = take i src ++ drop i dst

-- one word more
pub stepped : (dst src : List ℕ) (i z : ℕ) {d : List ℕ} {x : ℕ} → i < length src → i < length dst → d ≡ partly dst src i → x ≡ get_or src i z → set d i x ≡ partly dst src (i + 1)
stepped dst src i z h k e q =
    rw (e, q, drop-cons dst i 0 k)
    (set_at (take i src) (get_or dst i 0) (drop (suc i) dst) (get_or src i z) i (length-take-le i src (omega arith))
    ∙ rw (add-one, take-suc src i z h, append_snoc))

-- where the shorter of the two ends
pub copied_least : (dst src : List ℕ) (i : ℕ) → i ≡ min (length dst) (length src) → partly dst src i ≡ copied dst src
unfolding copied
copied_least dst src i q =
    by_test (leb (length dst) (length src))
    (λ h. let l = leb-true _ _ h in
    let e : i ≡ length dst = omega arith in
    rw (e, drop_of_length-le dst {i = length dst} (omega arith), drop_of_length-le dst {i = length src} (omega arith)))
    (λ h. let l = leb-false _ _ h in
    let e : i ≡ length src = omega arith in
    rw (e, take_all (length src) src (omega arith), take_all (length dst) src (omega arith)))

-- at the destination's end, whatever the source
pub partly_end : (dst src : List ℕ) (i : ℕ) → i ≤ length dst → length dst ≤ i → partly dst src i ≡ take (length dst) src
partly_end dst src i h k =
    let e : i ≡ length dst = omega arith in
    ap (λ (x : List ℕ). take i src ++ x) (drop_of_length-le dst k) ∙ append-nil (take i src) ∙ ap (λ (n : ℕ). take n src) e

-- a copy as long as the slice is all of it
pub copied_whole : (dst src : List ℕ) → length src ≡ length dst → copied dst src ≡ src
unfolding copied
copied_whole dst src e = rw (take_all (length dst) src (omega arith), drop_of_length-le dst {i = length src} (omega arith), append-nil src)

-- a copy for which there is room, as stores
pub copied-sets : (dst src : List ℕ) → length src ≤ length dst → copied dst src ≡ sets dst 0 src
unfolding copied
copied-sets dst src h = ap (λ (x : List ℕ). x ++ drop (length src) dst) (take_all (length dst) src h) ∙ sym (sets_front src dst h)

-- a chunk's words copied to the front of an output that has room for them
pub copied_chunk : (w : List ℕ) → well_formed w ≡ true → (out : List ℕ) (n : ℕ) → n ≡ size w → size w ≤ length w → size w ≤ length out
    → copied out (take n w) ≡ over (chunk_of (entries w)) out
copied_chunk w formed out n e a b = copied-sets out (take n w) (let l = length-take-le n w (omega arith) in omega arith) ∙ as_it_is w formed out n e a b

-- so many numbers
pub length_counted : (x n : ℕ) → length (counted_on x n) ≡ n
unfolding counted_on
length_counted x zero = refl
length_counted x (suc n) = ap suc (length_counted (suc x) n)

-- the number at a place
pub get_or_counted : (x n i d : ℕ) → i < n → (x + i) % 2 ^ 64 ≡ get_or (counted_on x n) i d
unfolding counted_on
get_or_counted x zero i d h = absurd (omega arith)
get_or_counted x (suc n) zero d h = omega arith
get_or_counted x (suc n) (suc i) d h =
    let e : x + suc i ≡ suc x + i = omega arith in
    rw e (get_or_counted (suc x) n i d (omega arith))

-- they are those after x where they fit
counted_up : (x n : ℕ) → x + n < 2 ^ 64 → counted_on (suc x) n ≡ count_up x n
unfolding counted_on count_up
counted_up x zero h = refl
counted_up x (suc n) h =
    let e : suc x % 2 ^ 64 ≡ suc x = omega arith in
    rw e (ap (λ (l : List ℕ). suc x ∷ l) (counted_up (suc x) n (omega arith)))

-- ---- a part of a slice that is filled

pub put_copy : (a e : ℕ) (l src p : List ℕ) → e ≡ a + length src → e ≤ length l → p ≡ copied (take (e - a) (drop a l)) src → put_mid a (e - a) l p ≡ sets l a src
put_copy a e l src p h k q =
    let n : length (take (e - a) (drop a l)) ≡ length src = part_length l a e (length src) h k in
    ap (put_mid a (e - a) l) (q ∙ copied-sets (take (e - a) (drop a l)) src (omega arith) ∙ sets_whole src (take (e - a) (drop a l)) (sym n)) ∙ put_sets a e l src h k

pub put_count : (a e n : ℕ) (l p : List ℕ) → n < 2 ^ 64 → e ≡ a + n → e ≤ length l → p ≡ counted_on 1 (length (take (e - a) (drop a l))) → put_mid a (e - a) l p ≡ sets l a (count_up 0 n)
put_count a e n l p f h k q =
    let c : length (count_up 0 n) ≡ n = length-count_up 0 n in
    ap (put_mid a (e - a) l) (q ∙ ap (counted_on 1) (part_length l a e n h k) ∙ counted_up 0 n (omega arith)) ∙ put_sets a e l (count_up 0 n) (omega arith) k
