-- What is left of lists, layer above layer, once items are filtered (document 01: "values and keys left without children" go): the non-empty
-- lists and their new ends. Which items are filtered out is a test on their index.
use Rattle.std.specs.Prelude.{ℕ, zero, suc, ◌+◌, ◌-◌, ◌≡◌, Bool, true, cond, List, [], ◌∷◌, ltb, length, get_or, take, drop}
use Rattle.chunk.specs.Words.{rises_from}
use Rattle.chunk.specs.Contents.{start_of}

-- how many of the n items from index i on pass
unfoldable pub count_kept : (ℕ → Bool) → ℕ → ℕ → ℕ
count_kept m i zero = 0
count_kept m i (suc n) = cond (m i) (suc (count_kept m (suc i) n)) (count_kept m (suc i) n)

-- the items that pass, the first one's index being i
unfoldable pub pick : {A : Type 0} → (ℕ → Bool) → ℕ → List A → List A
pick m i [] = []
pick m i (x ∷ xs) = cond (m i) (x ∷ pick m (suc i) xs) (pick m (suc i) xs)

-- the numbers after n, k of them
unfoldable pub count_up : ℕ → ℕ → List ℕ
count_up n zero = []
count_up n (suc k) = suc n ∷ count_up (suc n) k

-- of each item whose list still has one: what g makes of it and of the count of items kept up to its list's end. The lists are cut at
-- their ends, the first starts at index i, and c items are kept before it
unfoldable pub nodes : {A B : Type 0} → (ℕ → Bool) → (A → ℕ → B) → ℕ → ℕ → List A → List ℕ → List B
unfolding count_kept
nodes m g i c [] ends = []
nodes m g i c (x ∷ xs) [] = []
nodes m g i c (x ∷ xs) (e ∷ ends) =
    let n : ℕ = count_kept m i (e - i) in
    cond (ltb 0 n) (g x (c + n) ∷ nodes m g e (c + n) xs ends) (nodes m g e (c + n) xs ends)

-- the item of a node, and its list's new end
abbrev pub item_of : {A : Type 0} → A → ℕ → A
item_of x n = x

-- an item's end
abbrev pub end_of : {A : Type 0} → A → ℕ → ℕ
end_of x n = n

-- whether list i has an item that passes
unfoldable pub list_kept : (ℕ → Bool) → List ℕ → ℕ → Bool
unfolding count_kept
list_kept m ends i = ltb 0 (count_kept m (start_of ends i) (get_or ends i 0 - start_of ends i))

-- ends that rise, up to n
pub record RisesTo (ends : List ℕ) (n : ℕ) : Type 0 where
  pub rise : rises_from 0 ends ≡ true
  pub last : start_of ends (length ends) ≡ n

-- items that each have a list below, of n items in all: as many ends as items
pub record Over (items ends : List ℕ) (n : ℕ) : Type 0 where
  pub rows : length items ≡ length ends
  pub rises : RisesTo ends n

-- the items of a range
abbrev pub part : {A : Type 0} → ℕ → ℕ → List A → List A
part a b l = take (b - a) (drop a l)
