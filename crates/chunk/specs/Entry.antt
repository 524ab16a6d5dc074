-- What a chunk says: a list of entries, each a position (truck, fault, time) and its change.
-- A change is a signed 64-bit number in two's complement; the word 0 stands for "no change here", the empty diff list of document 01.
use Rattle.std.specs.Prelude.{ℕ, ◌/◌, ◌%◌, ◌^◌, Bool, true, not, cond, ◌&&◌, ◌||◌, List, [], ◌∷◌, ltb, eqb, ℤ}
use Rattle.std.proofs.Common.{to_z}
use Rattle.std.specs.Int.{w64}

-- a position and its change
pub record Entry : Type 0 where
  pub key : ℕ
  pub val : ℕ
  pub time : ℕ
  pub diff : ℕ

-- ignition and tick of a time word
abbrev pub ignition : ℕ → ℕ
ignition t = t / 2 ^ 32

-- the lower half
abbrev pub tick : ℕ → ℕ
tick t = t % 2 ^ 32

-- the whole number that a diff word stands for
abbrev pub change : ℕ → ℤ
change d = to_z w64 d

-- by key, then value, then time
abbrev pub same_list : Entry → Entry → Bool
same_list a b = eqb a.key b.key && eqb a.val b.val

-- one position
abbrev pub same : Entry → Entry → Bool
same a b = same_list a b && eqb a.time b.time

-- a position strictly before another
abbrev pub before : Entry → Entry → Bool
before a b =
    ltb a.key b.key
    || (eqb a.key b.key && (ltb a.val b.val
    || (eqb a.val b.val && ltb a.time b.time)))

-- strictly rising positions
unfoldable pub rising_from : Entry → List Entry → Bool
rising_from a [] = true
rising_from a (b ∷ es) = before a b && rising_from b es

-- and of a whole list
unfoldable pub rising : List Entry → Bool
unfolding rising_from
rising [] = true
rising (a ∷ es) = rising_from a es

-- a position with a change
abbrev pub stands : Entry → Bool
stands e = not (eqb e.diff 0)

-- the items that pass a test, in their order
unfoldable pub keep {ℓ} : {A : Type ℓ} → (A → Bool) → List A → List A
keep p [] = []
keep p (a ∷ l) = cond (p a) (a ∷ keep p l) (keep p l)

-- whether all of them pass it
unfoldable pub every {ℓ} : {A : Type ℓ} → (A → Bool) → List A → Bool
every p [] = true
every p (a ∷ l) = p a && every p l
