-- Words put into their places one after another: what is written so far stands at the front, and past it what was lent.
use Rattle.std.proofs.Common.{◌≡◌, ℕ, zero, suc, ◌+◌, ◌-◌, ◌^◌, ◌<◌, ◌≤◌, List, [], ◌∷◌, ◌++◌, length, get_or, take, drop, refl, ap, ◌∙◌, append_assoc, append-nil, arith, length-append, length-drop, drop_of_length-le, length-take-le, take_all, drop-drop}
use lib.ListN.{length-map}
use lib.Seq.{drop-append-add, take-append_seam}
use borrow.Rule.Slice.PartMut.{put_mid}
use Rattle.chunk.specs.Words.{over}
use Rattle.meld.specs.Copy.{copied, shifted, shifted_all, gone, placed}

-- words placed in a slice, as its front
pub placed-over : (at : ℕ) (new out : List ℕ) → at ≤ length out → placed at new out ≡ over (take at out ++ new) out
unfolding placed
placed-over at new out h =
    let n : length (take at out ++ new) ≡ at + length new = omega (arith, length-append (take at out) new, length-take-le at out h) in
    rw (n, append_assoc)

-- the next words
pub over_next : (at : ℕ) (p new out : List ℕ) → at ≡ length p → placed at new (over p out) ≡ over (p ++ new) out
unfolding placed
over_next at p new out q =
    rw (q, take-append_seam p (drop (length p) out), drop-append-add p (drop (length p) out) (length new), drop-drop (length new) (length p) out, length-append p new, append_assoc p new)

-- two placed one after the other
pub placed_twice : (at : ℕ) (p q out : List ℕ) → at ≤ length out → placed (at + length p) q (placed at p out) ≡ placed at (p ++ q) out
placed_twice at p q out h =
    rw (placed-over at p out h, placed-over at (p ++ q) out h)
    (over_next (at + length p) (take at out ++ p) q out (omega (arith, length-append (take at out) p, length-take-le at out h))
    ∙ rw (append_assoc (take at out) p q))

-- a copy that fills its part
pub put_copied : (at e : ℕ) (out src p : List ℕ) → e ≡ at + length src → e ≤ length out → p ≡ copied (take (e - at) (drop at out)) src → put_mid at (e - at) out p ≡ placed at src out
unfolding copied placed
put_copied at e out src p q h r =
    let n : length (take (e - at) (drop at out)) ≡ length src = length-take-le (e - at) (drop at out) (omega (arith, length-drop at out)) ∙ (omega arith) in
    let m : e - at ≡ length src = omega arith in
    rw (r, n, take_all (length src) src (omega arith), drop_of_length-le (take (e - at) (drop at out)) {i = length src} (omega arith), append-nil src, m, drop-drop (length src) at out)

-- words with nothing before them stay
unraised : (l : List ℕ) → ((i : ℕ) → get_or l i 0 < 2 ^ 64) → shifted_all 0 l ≡ l
unraised [] h = refl
unraised (a ∷ l) h =
    let e : shifted 0 a ≡ a = omega (arith, h 0) in
    rw (e, unraised l (λ i. h (suc i)))

pub gone_is : (by : ℕ) (l : List ℕ) → ((i : ℕ) → get_or l i 0 < 2 ^ 64) → shifted_all by l ≡ gone by l
unfolding gone
gone_is zero l h = unraised l h
gone_is (suc n) l h = refl

-- placing keeps the length
pub placed-length : (at : ℕ) (new out : List ℕ) → at + length new ≤ length out → length (placed at new out) ≡ length out
unfolding placed
placed-length at new out h =
    omega (
      arith,
      length-append (take at out) (new ++ drop (at + length new) out),
      length-append new (drop (at + length new) out),
      length-drop (at + length new) out,
      length-take-le at out (omega arith),
    )

-- raising keeps the count
pub length-gone : (by : ℕ) (l : List ℕ) → length (gone by l) ≡ length l
unfolding gone
length-gone zero l = refl
length-gone (suc n) l = length-map l (shifted (suc n))

-- two copies that fill their parts, one behind the other
pub put_twice : (at by s e : ℕ) (out first second p q : List ℕ) → s ≡ at + length first → e ≡ s + length second → e ≤ length out → ((i : ℕ) → get_or second i 0 < 2 ^ 64)
    → p ≡ copied (take (s - at) (drop at out)) first
    → q ≡ copied (take (e - s) (drop s (put_mid at (s - at) out p))) (shifted_all by second)
    → put_mid s (e - s) (put_mid at (s - at) out p) q ≡ placed at (first ++ gone by second) out
put_twice at by s e out first second p q hs he h words hp hq =
    let one : put_mid at (s - at) out p ≡ placed at first out = put_copied at s out first p hs (omega arith) hp in
    let n : length (put_mid at (s - at) out p) ≡ length out = ap length one ∙ placed-length at first out (omega arith) in
    put_copied s e (put_mid at (s - at) out p) (shifted_all by second) q (omega (arith, length-map second (shifted by))) (omega arith) hq
    ∙ rw (one, hs)
    (placed_twice at first (shifted_all by second) out (omega arith)
    ∙ ap (λ (l : List ℕ). placed at (first ++ l) out) (gone_is by second words))

-- a body in its place, by what its two parts and the slice before are
pub next_body : (to : ℕ) {n by : ℕ} {w v p q x y out : List ℕ} → n ≡ by → w ≡ out → p ≡ x → q ≡ y → v ≡ placed to (p ++ gone n q) w → v ≡ placed to (x ++ gone by y) out
next_body to d e h k l = l ∙ rw (d, e, h, k)
