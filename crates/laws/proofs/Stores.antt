-- Bodies that stand one after the other in a part of the output, filled side by side.
use Prim.Native.Nat.{ℕ, suc, ◌+◌, ◌-◌, ◌<◌, ◌≤◌}
use mathlib.Core.Path.{◌≡◌, refl, sym, ◌∙◌, ap}
use mathlib.Core.List.{List, [], ◌∷◌, ◌++◌, append-nil, append_assoc}
use native.Mathlib.Omega.{arith}
use lib.ListN.{length, take, drop, set, length-drop, drop_of_length-le}
use lib.Seq.{sets, sets-eq, set_comm, set-set, drop-drop}
use borrow.Rule.Slice.PartMut.{put_mid}

-- a store past a run, or before it, and the run
pub set-sets : (vs l : List ℕ) (i k a : ℕ) → i + length vs ≤ k → set (sets l i vs) k a ≡ sets (set l k a) i vs
set-sets [] l i k a h = refl
set-sets (v ∷ vs) l i k a h =
    set-sets vs (set l i v) (suc i) k a (omega arith)
    ∙ ap (λ (x : List ℕ). sets x (suc i) vs) (set_comm l i k v a (λ e. omega arith))

-- a store and a run over it
pub set_over : (vs l : List ℕ) (i a : ℕ) → 0 < length vs → sets (set l i a) i vs ≡ sets l i vs
set_over [] l i a h = absurd (omega arith)
set_over (v ∷ vs) l i a h = ap (λ (x : List ℕ). sets x (suc i) vs) (set-set l i a v)

-- two runs in either order
pub sets-sets : (us vs l : List ℕ) (i k : ℕ) → i + length us ≤ k → sets (sets l i us) k vs ≡ sets (sets l k vs) i us
sets-sets us [] l i k h = refl
sets-sets us (v ∷ vs) l i k h =
    ap (λ (x : List ℕ). sets x (suc k) vs) (set-sets us l i k v h) ∙ sets-sets us vs (set l k v) i (suc k) (omega arith)

set_past : (p q : List ℕ) (i a : ℕ) → set (p ++ q) (length p + i) a ≡ p ++ set q i a
set_past [] q i a = let e : 0 + i ≡ i = omega arith in simp e
set_past (x ∷ p) q i a = let e : suc (length p) + i ≡ suc (length p + i) = omega arith in simp e (ap (λ (l : List ℕ). x ∷ l) (set_past p q i a))

pub sets_past : (vs p q : List ℕ) (i : ℕ) → sets (p ++ q) (length p + i) vs ≡ p ++ sets q i vs
sets_past [] p q i = refl
sets_past (v ∷ vs) p q i =
    let e : suc (length p + i) ≡ length p + suc i = omega arith in
    ap (λ (l : List ℕ). sets l (suc (length p + i)) vs) (set_past p q i v)
    ∙ ap (λ (k : ℕ). sets (p ++ set q i v) k vs) e
    ∙ sets_past vs p (set q i v) (suc i)

pub sets_front : (vs l : List ℕ) → length vs ≤ length l → sets l 0 vs ≡ vs ++ drop (length vs) l
sets_front vs l h = let e : 0 + length vs ≡ length vs = omega arith in sets-eq vs l 0 (omega arith) ∙ ap (λ (k : ℕ). vs ++ drop k l) e

pub sets_whole : (vs l : List ℕ) → length vs ≡ length l → sets l 0 vs ≡ vs
sets_whole vs l h =
    let b : length l ≤ length vs = omega arith in
    sets_front vs l (omega arith) ∙ ap (λ (x : List ℕ). vs ++ x) (drop_of_length-le l b) ∙ append-nil vs

-- two bodies
pub fill_two : (a b l : List ℕ) (n : ℕ) → n ≡ length a → length l ≡ length a + length b → sets (sets l 0 a) n b ≡ a ++ b
fill_two a b l n e h =
    let z : n ≡ length a + 0 = omega arith in
    ap (λ (x : List ℕ). sets x n b) (sets_front a l (omega arith))
    ∙ ap (λ (k : ℕ). sets (a ++ drop (length a) l) k b) z
    ∙ sets_past b a (drop (length a) l) 0
    ∙ ap (λ (x : List ℕ). a ++ x) (sets_whole b (drop (length a) l) (let d = length-drop (length a) l in omega arith))

-- three bodies
pub fill_three : (a b d l : List ℕ) (n m : ℕ) → n ≡ length a → m ≡ n + length b → length l ≡ length a + (length b + length d)
    → sets (sets (sets l 0 a) n b) m d ≡ a ++ (b ++ d)
fill_three a b d l n m e f h =
    let z : n ≡ length a + 0 = omega arith in
    let y : m ≡ length a + length b = omega arith in
    let r : List ℕ = drop (length a) l in
    let lr : length r ≡ length b + length d = (let q = length-drop (length a) l in omega arith) in
    ap (λ (x : List ℕ). sets (sets x n b) m d) (sets_front a l (omega arith))
    ∙ ap (λ (k : ℕ). sets (sets (a ++ r) k b) m d) z
    ∙ ap (λ (x : List ℕ). sets x m d) (sets_past b a r 0)
    ∙ ap (λ (k : ℕ). sets (a ++ sets r 0 b) k d) y
    ∙ sets_past d a (sets r 0 b) (length b)
    ∙ ap (λ (x : List ℕ). a ++ x) (fill_two b d r (length b) refl lr)

-- a part of a slice, with these words in its place
pub put_sets : (a e : ℕ) (l vs : List ℕ) → e ≡ a + length vs → e ≤ length l → put_mid a (e - a) l vs ≡ sets l a vs
put_sets a e l vs h k =
    let n : e - a ≡ length vs = omega arith in
    ap (λ (x : List ℕ). take a l ++ (vs ++ x)) (ap (λ (m : ℕ). drop m (drop a l)) n ∙ drop-drop (length vs) a l) ∙ sym (append_assoc (take a l) vs (drop (a + length vs) l)) ∙ sym (sets-eq vs l a (omega arith))
