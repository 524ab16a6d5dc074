-- Falls: the items that are at or below the item before them, all of them and those that a list starts with.
use Rattle.std.specs.Prelude.{ℕ, ◌+◌, ◌-◌, ◌<◌, ◌≡◌, cond, true, List, [], ◌∷◌, ltb, length, get_or, drop}
use Rattle.chunk.specs.Words.{ends_rise}

-- 1 where the next item is at or below the last, else 0
abbrev pub fall : ℕ → ℕ → ℕ
fall last next = cond (ltb last next) 0 1

-- the falls of the items after one
unfoldable pub falls_from : ℕ → List ℕ → ℕ
falls_from a [] = 0
falls_from a (b ∷ l) = fall a b + falls_from b l

-- the falls among the items
unfoldable pub falls_of : List ℕ → ℕ
unfolding falls_from
falls_of [] = 0
falls_of (a ∷ l) = falls_from a l

-- the falls among the items that lists start with: at one end, and at those after it but the last
unfoldable pub falls_at_from : ℕ → List ℕ → List ℕ → ℕ
falls_at_from e [] items = 0
falls_at_from e (f ∷ ends) items = fall (get_or items (e - 1) 0) (get_or items e 0) + falls_at_from f ends items

-- at each end but the last
unfoldable pub falls_at : List ℕ → List ℕ → ℕ
unfolding falls_at_from
falls_at [] items = 0
falls_at (e ∷ ends) items = falls_at_from e ends items

-- some ends: the first above 0, those after it rising to the count of the items
pub record Ahead (ends items : List ℕ) : Type 0 where
  pub some : 0 < length ends
  pub starts : 0 < get_or ends 0 0
  pub rise : ends_rise (get_or ends 0 0) (drop 1 ends) (length items) ≡ true
