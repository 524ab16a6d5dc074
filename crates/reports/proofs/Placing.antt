-- Words placed over others: lengths, what stands before and past them, and one placing after another.
use Prim.Native.Nat.{ℕ, ◌+◌, ◌<◌, ◌≤◌}
use mathlib.Core.Path.{◌≡◌, sym, ◌∙◌, ap}
use mathlib.Core.List.{List, [], ◌∷◌, ◌++◌, append_assoc}
use native.Mathlib.Omega.{arith}
use native.Mathlib.Numerals.{add-one, add-two}
use native.Mathlib.Nat.{add-zero}
use lib.ListN.{length, get_or, take, drop, set, length-append, length-take, length-drop, take-append-drop, get_or-append}
use lib.Seq.{sets-eq, take_at, drop_at, drop-drop, get_or-take}
use Rattle.reports.specs.Scratch.{placed}

module _ (at : ℕ) (s : List ℕ) where
  pub placed-none : placed at [] s ≡ s
  unfolding placed
  placed-none = rw (add-zero at) (take-append-drop at s)

  pub placed_three : (a b d : ℕ) → at + 3 ≤ length s → set (set (set s at a) (at + 1) b) (at + 2) d ≡ placed at (a ∷ b ∷ d ∷ []) s
  unfolding placed
  placed_three a b d h = rw (add-one at, add-two at) (sets-eq (a ∷ b ∷ d ∷ []) s at h ∙ append_assoc (take at s) (a ∷ b ∷ d ∷ []) (drop (at + 3) s))

  pub length-placed : (ws : List ℕ) → at + length ws ≤ length s → length (placed at ws s) ≡ length s
  unfolding placed
  length-placed ws h = simp (length-append, length-take, length-drop) (omega arith)

  pub take-placed : (ws : List ℕ) → at + length ws ≤ length s → take (at + length ws) (placed at ws s) ≡ take at s ++ ws
  unfolding placed
  take-placed ws h =
      rw (← (append_assoc (take at s) ws (drop (at + length ws) s)))
      (take_at (take at s ++ ws) (drop (at + length ws) s) (at + length ws) (simp (length-append, length-take) (omega arith)))

  pub drop-placed : (ws : List ℕ) (n : ℕ) → at + length ws ≤ length s → drop (at + length ws + n) (placed at ws s) ≡ drop (at + length ws + n) s
  unfolding placed
  drop-placed ws n h =
      sym (drop-drop n (at + length ws) (placed at ws s))
      ∙ ap (drop n) (rw (← (append_assoc (take at s) ws (drop (at + length ws) s)))
      (drop_at (take at s ++ ws) (drop (at + length ws) s) (at + length ws) (simp (length-append, length-take) (omega arith))))
      ∙ drop-drop n (at + length ws) s

  -- one placing, and another right past it
  pub placed_twice : (ws vs : List ℕ) → at + length ws ≤ length s → placed (at + length ws) vs (placed at ws s) ≡ placed at (ws ++ vs) s
  unfolding placed
  placed_twice ws vs h =
      ap (λ (l : List ℕ). l ++ (vs ++ drop (at + length ws + length vs) (placed at ws s))) (take-placed ws h)
      ∙ ap (λ (l : List ℕ). (take at s ++ ws) ++ (vs ++ l)) (drop-placed ws (length vs) h ∙ ap (λ (n : ℕ). drop n s) count)
      ∙ append_assoc (take at s) ws (vs ++ drop (at + length (ws ++ vs)) s)
      ∙ ap (λ (l : List ℕ). take at s ++ l) (sym (append_assoc ws vs (drop (at + length (ws ++ vs)) s)))
    where
      count : at + length ws + length vs ≡ at + length (ws ++ vs)
      count = simp length-append (omega arith)

  -- what stands before
  pub placed_before : (ws : List ℕ) (i : ℕ) → at ≤ length s → i < at → get_or (placed at ws s) i 0 ≡ get_or s i 0
  unfolding placed
  placed_before ws i h k =
      get_or-append (take at s) (ws ++ drop (at + length ws) s) 0 i (simp length-take (omega arith)) ∙ get_or-take at s i 0 k
