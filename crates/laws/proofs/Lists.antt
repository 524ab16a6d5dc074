-- `every`, `map` and `flatten` of lists put together, and pairs zipped and taken apart again.
use Prim.Native.Nat.{ℕ, zero, suc}
use mathlib.Core.Path.{◌≡◌, refl, sym, ap, ◌∙◌}
use mathlib.Core.Bool.{Bool, true, false, ◌&&◌, and_assoc}
use mathlib.Core.List.{List, [], ◌∷◌, ◌++◌, map, flatten, flat_map, zip_with, append_assoc}
use native.Mathlib.Omega.{arith}
use lib.ListN.{length, take, drop}
use Rattle.chunk.specs.Entry.{every}
use Rattle.laws.proofs.Tests.{and_left, and_right, and_both}

and_swap : (a b c d : Bool) → ((a && b) && (c && d)) ≡ ((a && c) && (b && d))
and_swap true true c d = refl
and_swap true false true d = refl
and_swap true false false d = refl
and_swap false b c d = refl

module _ {ℓ} {A : Type ℓ} where
  -- a list with something in it
  abbrev pub full : List A → Bool
  full [] = false
  full (x ∷ xs) = true

  -- what holds of all holds of what follows from it
  pub every_imp : (p q : A → Bool) → ((a : A) → p a ≡ true → q a ≡ true) → (xs : List A) → every p xs ≡ true → every q xs ≡ true
  unfolding every
  every_imp p q f [] h = refl
  every_imp p q f (x ∷ xs) h = and_both _ _ (f x (and_left _ _ h)) (every_imp p q f xs (and_right (p x) _ h))

  pub every_both : (p q r : A → Bool) → ((a : A) → p a ≡ true → q a ≡ true → r a ≡ true) → (xs : List A)
      → every p xs ≡ true → every q xs ≡ true → every r xs ≡ true
  unfolding every
  every_both p q r f [] h k = refl
  every_both p q r f (x ∷ xs) h k =
      and_both _ _ (f x (and_left _ _ h) (and_left _ _ k)) (every_both p q r f xs (and_right (p x) _ h) (and_right (q x) _ k))

  pub every_of : (p : A → Bool) → ((a : A) → p a ≡ true) → (xs : List A) → every p xs ≡ true
  unfolding every
  every_of p f [] = refl
  every_of p f (x ∷ xs) = and_both _ _ (f x) (every_of p f xs)

  pub every-and : (p q : A → Bool) (xs : List A) → every (λ (a : A). p a && q a) xs ≡ (every p xs && every q xs)
  unfolding every
  every-and p q [] = refl
  every-and p q (x ∷ xs) = ap (λ (b : Bool). (p x && q x) && b) (every-and p q xs) ∙ and_swap (p x) (q x) (every p xs) (every q xs)

  pub every_append : (p : A → Bool) (xs ys : List A) → every p (xs ++ ys) ≡ (every p xs && every p ys)
  unfolding every
  every_append p [] ys = refl
  every_append p (x ∷ xs) ys = simp (every_append p xs ys, and_assoc)

  pub every-flatten : (p : A → Bool) (ls : List (List A)) → every p (flatten ls) ≡ every (every p) ls
  unfolding every flatten
  every-flatten p [] = refl
  every-flatten p (l ∷ ls) = every_append p l (flatten ls) ∙ ap (λ (b : Bool). every p l && b) (every-flatten p ls)

  pub flatten-append : (xs ys : List (List A)) → flatten (xs ++ ys) ≡ flatten xs ++ flatten ys
  unfolding flatten
  flatten-append [] ys = refl
  flatten-append (x ∷ xs) ys = ap (λ (l : List A). x ++ l) (flatten-append xs ys) ∙ sym (append_assoc x (flatten xs) (flatten ys))

  pub no_length : (xs : List A) → length xs ≡ 0 → xs ≡ []
  no_length [] h = refl
  no_length (x ∷ xs) h = absurd (omega arith)

module _ {ℓ κ} {A : Type ℓ} {B : Type κ} where
  pub every_map : (f : A → B) (p : B → Bool) (xs : List A) → every p (map f xs) ≡ every (λ (a : A). p (f a)) xs
  unfolding every
  every_map f p [] = refl
  every_map f p (x ∷ xs) = ap (λ (b : Bool). p (f x) && b) (every_map f p xs)

  pub full-map : (f : A → B) (xs : List A) → full (map f xs) ≡ full xs
  full-map f [] = refl
  full-map f (x ∷ xs) = refl

  pub every-flat_map : (f : A → List B) (p : B → Bool) (xs : List A) → every p (flat_map f xs) ≡ every (λ (a : A). every p (f a)) xs
  unfolding every flat_map
  every-flat_map f p [] = refl
  every-flat_map f p (x ∷ xs) = every_append p (f x) (flat_map f xs) ∙ ap (λ (b : Bool). every p (f x) && b) (every-flat_map f p xs)

  pub map-flatten : (f : A → B) (ls : List (List A)) → map f (flatten ls) ≡ flatten (map (map f) ls)
  unfolding flatten
  map-flatten f [] = refl
  map-flatten f (l ∷ ls) = simp (mathlib.Core.List.map-append, map-flatten f ls)

  pub flat_map-flatten : (f : A → List B) (xs : List A) → flat_map f xs ≡ flatten (map f xs)
  unfolding flatten flat_map
  flat_map-flatten f [] = refl
  flat_map-flatten f (x ∷ xs) = ap (λ (l : List B). f x ++ l) (flat_map-flatten f xs)

  pub map-take : (f : A → B) (n : ℕ) (xs : List A) → map f (take n xs) ≡ take n (map f xs)
  map-take f zero xs = refl
  map-take f (suc n) [] = refl
  map-take f (suc n) (x ∷ xs) = ap (λ (l : List B). f x ∷ l) (map-take f n xs)

  pub map-drop : (f : A → B) (n : ℕ) (xs : List A) → map f (drop n xs) ≡ drop n (map f xs)
  map-drop f zero xs = refl
  map-drop f (suc n) [] = refl
  map-drop f (suc n) (x ∷ xs) = map-drop f n xs

  pub map_same : (f g : A → B) → ((a : A) → f a ≡ g a) → (xs : List A) → map f xs ≡ map g xs
  map_same f g h [] = refl
  map_same f g h (x ∷ xs) = λ i. h x i ∷ map_same f g h xs i

  -- pairs of two lists of one length
  abbrev pub pairs : List A → List B → List (A × B)
  pairs xs ys = zip_with (λ x y. (x, y)) xs ys

  abbrev pub firsts : List (A × B) → List A
  firsts ps = map (λ (p : A × B). p.0) ps

  abbrev pub seconds : List (A × B) → List B
  seconds ps = map (λ (p : A × B). p.1) ps

  pub firsts-pairs : (xs : List A) (ys : List B) → length ys ≡ length xs → firsts (pairs xs ys) ≡ xs
  unfolding zip_with
  firsts-pairs [] ys h = refl
  firsts-pairs (x ∷ xs) [] h = absurd (omega arith)
  firsts-pairs (x ∷ xs) (y ∷ ys) h = ap (λ (l : List A). x ∷ l) (firsts-pairs xs ys (omega arith))

  pub seconds-pairs : (xs : List A) (ys : List B) → length ys ≡ length xs → seconds (pairs xs ys) ≡ ys
  unfolding zip_with
  seconds-pairs [] [] h = refl
  seconds-pairs [] (y ∷ ys) h = absurd (omega arith)
  seconds-pairs (x ∷ xs) [] h = absurd (omega arith)
  seconds-pairs (x ∷ xs) (y ∷ ys) h = ap (λ (l : List B). y ∷ l) (seconds-pairs xs ys (omega arith))

  pub pairs_apart : (ps : List (A × B)) → pairs (firsts ps) (seconds ps) ≡ ps
  unfolding zip_with
  pairs_apart [] = refl
  pairs_apart (p ∷ ps) = ap (λ (l : List (A × B)). p ∷ l) (pairs_apart ps)
