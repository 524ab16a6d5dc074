-- A list of entries as a row of groups, each alike among themselves and unlike all that follow: its lasts and its ends are the groups'.
use Prim.Native.Nat.{ℕ, suc, ◌+◌}
use mathlib.Core.Path.{◌≡◌, refl, sym, ap, ◌∙◌}
use mathlib.Core.Bool.{Bool, true, false, not}
use mathlib.Core.List.{List, [], ◌∷◌, ◌++◌, map, flatten}
use native.Mathlib.Omega.{arith}
use lib.Dec.{eqb}
use lib.ListN.{length}
use borrow.Author.Tests.{eqb-true, not-true}
use Rattle.chunk.specs.Entry.{Entry, same_list, every}
use Rattle.chunk.specs.Bodies.{lasts_of, ends_of, same_key}
use Rattle.laws.proofs.Tests.{and_left, and_right, true-not-false}
use Rattle.laws.proofs.Lists.{full}
use Rattle.laws.proofs.Cuts.{sums, ends_at}

-- a test under which entries that are alike stand alike to any other
abbrev pub Alike : (Entry → Entry → Bool) → Type 0
Alike same = (x a b : Entry) → same x a ≡ true → same a b ≡ same x b

pub alike-key : Alike same_key
alike-key x a b h = let e : x.key ≡ a.key = eqb-true _ _ h in simp e

pub alike_list : Alike same_list
alike_list x a b h =
    let e : x.key ≡ a.key = eqb-true _ _ (and_left _ _ h) in
    let f : x.val ≡ a.val = eqb-true _ _ (and_right (eqb x.key a.key) _ h) in
    simp (e, f)

abbrev pub unlike : (Entry → Entry → Bool) → Entry → Entry → Bool
unlike same x e = not (same x e)

-- the last of `a ∷ g`
unfoldable pub last_from : Entry → List Entry → Entry
last_from a [] = a
last_from a (b ∷ g) = last_from b g

-- the last of a group
unfoldable pub last : List Entry → Entry
unfolding last_from
last [] = record { key = 0; val = 0; time = 0; diff = 0 }
last (a ∷ g) = last_from a g

-- what holds of all holds of the last
pub last-every : (p : Entry → Bool) (g : List Entry) → full g ≡ true → every p g ≡ true → p (last g) ≡ true
unfolding every last last_from
last-every p [] f h = absurd (true-not-false (sym f))
last-every p (a ∷ []) f h = and_left _ _ h
last-every p (a ∷ b ∷ g) f h = last-every p (b ∷ g) refl (and_right (p a) _ h)

-- groups, each with an entry that stands for it
pub data Grouped (same : Entry → Entry → Bool) : List (List Entry) → Type 0 where
  none : Grouped same []
  more : {g : List Entry} {gs : List (List Entry)} (x : Entry) → full g ≡ true → every (same x) g ≡ true
      → every (unlike same x) (flatten gs) ≡ true → Grouped same gs → Grouped same (g ∷ gs)

module _ (same : Entry → Entry → Bool) (alike : Alike same) (x : Entry) where
  lasts_step : (a : Entry) (g r : List Entry) → same x a ≡ true → every (same x) g ≡ true → every (unlike same x) r ≡ true
      → lasts_of same (a ∷ (g ++ r)) ≡ last_from a g ∷ lasts_of same r
  unfolding every lasts_of last_from
  lasts_step a [] [] h t u = refl
  lasts_step a [] (b ∷ r) h t u =
      let e : same a b ≡ false = alike x a b h ∙ not-true _ (and_left _ _ u) in
      rw e
  lasts_step a (b ∷ g) r h t u =
      let e : same a b ≡ true = alike x a b h ∙ and_left _ _ t in
      rw e (lasts_step b g r (and_left _ _ t) (and_right (same x b) _ t) u)

  ends_step_lem : (n : ℕ) (a : Entry) (g r : List Entry) → same x a ≡ true → every (same x) g ≡ true → every (unlike same x) r ≡ true
      → ends_of same n (a ∷ (g ++ r)) ≡ (n + suc (length g)) ∷ ends_of same (n + suc (length g)) r
  unfolding every ends_of
  ends_step_lem n a [] [] h t u = let m : n + 1 ≡ suc n = omega arith in rw m
  ends_step_lem n a [] (b ∷ r) h t u =
      let e : same a b ≡ false = alike x a b h ∙ not-true _ (and_left _ _ u) in
      let m : n + 1 ≡ suc n = omega arith in
      rw (e, m)
  ends_step_lem n a (b ∷ g) r h t u =
      let e : same a b ≡ true = alike x a b h ∙ and_left _ _ t in
      let m : n + suc (suc (length g)) ≡ suc n + suc (length g) = omega arith in
      rw (e, m) (ends_step_lem (suc n) b g r (and_left _ _ t) (and_right (same x b) _ t) u)

module _ (same : Entry → Entry → Bool) (alike : Alike same) where
  pub grouped_lasts : {gs : List (List Entry)} → Grouped same gs → lasts_of same (flatten gs) ≡ map last gs
  unfolding lasts_of flatten last every
  grouped_lasts none = refl
  grouped_lasts (more {g = []} {gs} x f t u r) = absurd (true-not-false (sym f))
  grouped_lasts (more {g = a ∷ g} {gs} x f t u r) =
      lasts_step same alike x a g (flatten gs) (and_left _ _ t) (and_right (same x a) _ t) u
      ∙ ap (λ (l : List Entry). last_from a g ∷ l) (grouped_lasts r)

  pub grouped_ends : (n : ℕ) {gs : List (List Entry)} → Grouped same gs → ends_of same n (flatten gs) ≡ ends_at n gs
  unfolding ends_of flatten sums every
  grouped_ends n none = refl
  grouped_ends n (more {g = []} {gs} x f t u r) = absurd (true-not-false (sym f))
  grouped_ends n (more {g = a ∷ g} {gs} x f t u r) =
      ends_step_lem same alike x n a g (flatten gs) (and_left _ _ t) (and_right (same x a) _ t) u
      ∙ ap (λ (l : List ℕ). (n + suc (length g)) ∷ l) (grouped_ends (n + suc (length g)) r)
