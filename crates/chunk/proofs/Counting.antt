-- Ends that rise from above 0 to their own count are 1, 2 and so on: each list has one item, and each end is one more than the previous one.
use Prim.Native.Nat.{ℕ, suc, ◌<◌, ◌+◌, ◌-◌}
use mathlib.Core.Path.{◌≡◌, refl, sym, ◌∙◌, ap}
use mathlib.Core.Bool.{Bool, true, false, ◌&&◌}
use mathlib.Core.List.{List, [], ◌∷◌}
use native.Mathlib.Omega.{arith}
use native.Mathlib.Numerals.{add-one}
use borrow.Author.Tests.{lt-ltb, eq-eqb, ne_eqb, ltb-true, eqb-true, eqb-false}
use lib.ListN.{length, take, drop, get_or, length-drop}
use lib.Seq.{drop-cons}
use lib.Dec.{ltb, eqb}
use lib.Bits.{bit_or, bit_xor, or_zero_l, or_add_and, xor_self, xor_add_and, and_le_l, and_le_r}
use Rattle.chunk.specs.Entry.{every}
use Rattle.chunk.specs.Words.{ends_rise, ends_step, rises, rises_from, lists}
use Rattle.chunk.proofs.Tests.{by_test, and-false, and_left, and_right, and_joins}

-- ends that rise by one each at least don't end below that
pub steep : (low top : ℕ) (ends : List ℕ) → top < low + length ends → ends_rise low ends top ≡ false
unfolding ends_rise
steep low top [] h = ne_eqb low top (λ p. omega arith)
steep low top (e ∷ ends) h =
    by_test (ltb low e)
    (λ k. let l : low < e = ltb-true _ _ k in simp (k, steep e top ends (omega arith)))
    (λ k. simp k)

-- ends that step by one each at most don't end above that
pub flat : (low top : ℕ) (ends : List ℕ) → low + length ends < top → ends_step low ends top ≡ false
unfolding ends_step
flat low top [] h = ne_eqb low top (λ p. omega arith)
flat low top (e ∷ ends) h =
    by_test (eqb e low)
    (λ k. let q : e ≡ low = eqb-true _ _ k in simp (flat e top ends (omega arith), and-false))
    (λ k. by_test (eqb e (suc low))
    (λ m. let q : e ≡ suc low = eqb-true _ _ m in simp (flat e top ends (omega arith), and-false))
    (λ m. simp (k, m)))

-- two numbers have no bit where neither has, and no bit apart where they are one
or-none : (a b : ℕ) → eqb (bit_or a b) 0 ≡ (eqb a 0 && eqb b 0)
or-none a b =
    by_test (eqb a 0)
    (λ k. let q : a ≡ 0 = eqb-true _ _ k in simp (q, or_zero_l b))
    (λ k. let q : a ≡ 0 → ⊥ = eqb-false _ _ k in simp (k, ne_eqb (bit_or a b) 0 (λ p. q (omega (arith, p, or_add_and a b, and_le_r a b)))))

xor-none : (a b : ℕ) → eqb (bit_xor a b) 0 ≡ eqb a b
xor-none a b =
    by_test (eqb a b)
    (λ k. let q : a ≡ b = eqb-true _ _ k in simp (q, xor_self b, eq-eqb b b refl))
    (λ k. let q : a ≡ b → ⊥ = eqb-false _ _ k in simp (k, ne_eqb (bit_xor a b) 0 (λ p. q (omega (arith, p, xor_add_and a b, and_le_l a b, and_le_r a b)))))

-- where so many ends are to rise by as much, the first is one more
rise_first : (low e top : ℕ) (ends : List ℕ) → top ≡ suc (low + length ends) → ends_rise low (e ∷ ends) top ≡ (eqb e (suc low) && ends_rise (suc low) ends top)
unfolding ends_rise
rise_first low e top ends h =
    by_test (eqb e (suc low))
    (λ k. let q : e ≡ suc low = eqb-true _ _ k in simp (q, lt-ltb low (suc low) (omega arith), eq-eqb (suc low) (suc low) refl))
    (λ k. let q : e ≡ suc low → ⊥ = eqb-false _ _ k in
    by_test (ltb low e)
    (λ m. let l : low < e = ltb-true _ _ m in simp (k, m, steep e top ends (omega (arith, q))))
    (λ m. simp (k, m)))

-- and where they are to step by as much
step_first : (low e top : ℕ) (ends : List ℕ) → top ≡ suc (low + length ends) → ends_step low (e ∷ ends) top ≡ (eqb e (suc low) && ends_step (suc low) ends top)
unfolding ends_step
step_first low e top ends h =
    by_test (eqb e (suc low))
    (λ k. let q : e ≡ suc low = eqb-true _ _ k in simp (q, ne_eqb (suc low) low (λ p. omega arith), eq-eqb (suc low) (suc low) refl))
    (λ k. by_test (eqb e low)
    (λ m. let q : e ≡ low = eqb-true _ _ m in simp (k, flat e top ends (omega arith), and-false))
    (λ m. simp (k, m)))

-- so to rise by as much is to step by as much
pub steps : (low top : ℕ) (ends : List ℕ) → top ≡ low + length ends → ends_step low ends top ≡ ends_rise low ends top
unfolding ends_step ends_rise
steps low top [] h = refl
steps low top (e ∷ ends) h =
    step_first low e top ends (omega arith)
    ∙ ap (λ (b : Bool). eqb e (suc low) && b) (steps (suc low) top ends (omega arith))
    ∙ sym (rise_first low e top ends (omega arith))

-- from 0 on
pub stepped : (top : ℕ) (ends : List ℕ) → length ends ≡ top → ends_rise 0 ends (length ends) ≡ ends_step 0 ends top
stepped top ends h = rw h (sym (steps 0 top ends (omega arith)))

-- of all the ends, those from one on
module _ (ends : List ℕ) (i : ℕ) (h : i < length ends) where
  turn : ends_rise i (drop i ends) (length ends) ≡ (eqb (get_or ends i 0) (i + 1) && ends_rise (i + 1) (drop (i + 1) ends) (length ends))
  turn = rw (add-one, drop-cons ends i 0) (rise_first i _ (length ends) (drop (suc i) ends) (simp length-drop (omega arith)))

  -- none is wrong so far and none from here on, where none is wrong so far with this one, and none after it
  pub marked : (wrong : ℕ) → (eqb wrong 0 && ends_rise i (drop i ends) (length ends)) ≡ (eqb (bit_or wrong (bit_xor (get_or ends i 0) (i + 1))) 0 && ends_rise (i + 1) (drop (i + 1) ends) (length ends))
  marked wrong =
      ap (λ (b : Bool). eqb wrong 0 && b) turn
      ∙ and_joins (eqb wrong 0) (eqb (get_or ends i 0) (i + 1)) (ends_rise (i + 1) (drop (i + 1) ends) (length ends))
      ∙ ap (λ (b : Bool). b && ends_rise (i + 1) (drop (i + 1) ends) (length ends))
      (sym (or-none wrong (bit_xor (get_or ends i 0) (i + 1)) ∙ ap (λ (b : Bool). eqb wrong 0 && b) (xor-none (get_or ends i 0) (i + 1))))

-- a list of one item at most rises
single : (items : List ℕ) → rises (take 1 items) ≡ true
unfolding rises rises_from
single [] = refl
single (a ∷ items) = refl

-- each list has one item, and rises
singles : (low top : ℕ) (ends items : List ℕ) → top ≡ low + length ends → ends_rise low ends top ≡ true → every rises (lists low ends items) ≡ true
unfolding every lists
singles low top [] items h k = refl
singles low top (e ∷ ends) items h k =
    let m : (eqb e (suc low) && ends_rise (suc low) ends top) ≡ true = sym (rise_first low e top ends (omega arith)) ∙ k in
    let q : e ≡ suc low = eqb-true _ _ (and_left (eqb e (suc low)) _ m) in
    let d : suc low - low ≡ 1 = omega arith in
    simp (q, d, single items, singles (suc low) top ends (drop 1 items) (omega arith) (and_right (eqb e (suc low)) _ m))

-- so a layer of as many items as ends rises where its ends do
pub alone : (ends items : List ℕ) → length ends ≡ length items → ends_rise 0 ends (length ends) ≡ (ends_rise 0 ends (length items) && every rises (lists 0 ends items))
alone ends items h =
    by_test (ends_rise 0 ends (length items))
    (λ k. simp (h, k, singles 0 (length items) ends items (omega arith) k))
    (λ k. simp (h, k))
