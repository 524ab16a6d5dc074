-- The sum over the held chunks, where some go and others come.
use Prim.Native.Nat.{ℕ, suc, ◌<◌, ◌≤◌}
use mathlib.Core.Path.{◌≡◌, sym, ap, ◌∙◌}
use mathlib.Core.Bool.{Bool, true, false}
use mathlib.Core.List.{List, [], ◌∷◌, ◌++◌}
use native.Mathlib.Omega.{arith}
use lib.Dec.{eqb, ltb}
use borrow.Author.Tests.{ltb-true, ltb-false, eqb-false}
use lib.ListN.{length, take, drop, get_or, length-append, length-take, length-drop, get_or-append}
use lib.Seq.{split_at, get_or-take}
use lib.IntN.{ℤ, ◌+ℤ◌, +ℤ_assoc, +ℤ_comm, +ℤ_idl}
use Rattle.chunk.specs.Entry.{every}
use Rattle.chunk.specs.Words.{entries}
use Rattle.chunk.specs.Sums.{total}
use Rattle.laws.proofs.Tests.{by_test}
use Rattle.ledger.specs.Ledger.{held_total, without, without_two}
use Rattle.ledger.proofs.Whole.{swap_first}
use Rattle.ledger.proofs.Lists.{every_append, every_take, every_drop}

-- all that is left passes what all passed
pub every-without : (p : List ℕ → Bool) (i : ℕ) (l : List (List ℕ)) → every p l ≡ true → every p (without i l) ≡ true
every-without p i l h = every_append p (take i l) (drop (suc i) l) (every_take p i l h) (every_drop p (suc i) l h)

pub every-without_two : (p : List ℕ → Bool) (i j : ℕ) (l : List (List ℕ)) → every p l ≡ true → every p (without_two i j l) ≡ true
every-without_two p i j l h =
    by_test (ltb i j)
    (λ q. simp q (every-without p i (without j l) (every-without p j l h)))
    (λ q. simp q (every-without p j (without i l) (every-without p i l h)))

module _ (k v t : ℕ) where
  -- what one slice says
  abbrev pub said : List ℕ → ℤ
  said w = total k v t (entries w)

  pub held_append : (a b : List (List ℕ)) → held_total k v t (a ++ b) ≡ held_total k v t a +ℤ held_total k v t b
  unfolding held_total
  held_append [] b = sym (+ℤ_idl (held_total k v t b))
  held_append (w ∷ a) b = cc (held_append a b, +ℤ_assoc (said w) (held_total k v t a) (held_total k v t b))

  -- one is taken out
  pub held_without : (i : ℕ) (l : List (List ℕ)) → i < length l → held_total k v t l ≡ said (get_or l i []) +ℤ held_total k v t (without i l)
  unfolding held_total
  held_without i l h =
      let w : List ℕ = get_or l i [] in
      let a : List (List ℕ) = take i l in
      let b : List (List ℕ) = drop (suc i) l in
      ap (λ (x : List (List ℕ)). held_total k v t x) (split_at l i [] h)
      ∙ held_append a (w ∷ b)
      ∙ swap_first (held_total k v t a) (said w) (held_total k v t b)
      ∙ ap (λ (x : ℤ). said w +ℤ x) (sym (held_append a b))

  -- two are taken out, the one at the lower place second
  held_lower : (i j : ℕ) (l : List (List ℕ)) → i < j → j < length l
      → held_total k v t l ≡ said (get_or l i []) +ℤ said (get_or l j []) +ℤ held_total k v t (without i (without j l))
  held_lower i j l h g =
      let x : List ℕ = get_or l i [] in
      let y : List ℕ = get_or l j [] in
      let m : List (List ℕ) = without j l in
      let at : get_or m i [] ≡ x = get_or-append (take j l) (drop (suc j) l) [] i (rw length-take (omega arith)) ∙ get_or-take j l i [] h in
      let in-m : i < length m = simp (length-append, length-take, length-drop) (omega arith) in
      let one : held_total k v t m ≡ said x +ℤ held_total k v t (without i m) = rw at at (held_without i m in-m) in
      cc (held_without j l g, one, swap_first (said y) (said x) (held_total k v t (without i m)), +ℤ_assoc (said x) (said y) (held_total k v t (without i m)))

  pub held_without_two : (i j : ℕ) (l : List (List ℕ)) → i < length l → j < length l → eqb i j ≡ false
      → held_total k v t l ≡ said (get_or l i []) +ℤ said (get_or l j []) +ℤ held_total k v t (without_two i j l)
  held_without_two i j l h g n =
      by_test (ltb i j)
      (λ q. simp q (held_lower i j l (ltb-true _ _ q) g))
      (λ q. let other : i ≡ j → ⊥ = eqb-false _ _ n in
      let le : j ≤ i = ltb-false _ _ q in
      simp q (held_lower j i l (omega (arith, other)) h
      ∙ ap (λ (x : ℤ). x +ℤ held_total k v t (without j (without i l))) (+ℤ_comm (said (get_or l j [])) (said (get_or l i [])))))
