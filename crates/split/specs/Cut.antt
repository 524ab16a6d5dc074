-- Split (document 01): the first n entries, and the rest.
use Rattle.std.specs.Prelude.{ℕ, ◌≡◌, List, [], ◌∷◌, ltb, length, take, drop}
use Rattle.chunk.specs.Words.{entries, size}
use Rattle.chunk.specs.Refusal.{first, refuse, malformed, unsettled, written}

-- the number that split answers
unfoldable pub split_number : List ℕ → List ℕ → List ℕ → ℕ
unfolding first
split_number w one two =
    first (malformed w ∷ unsettled w ∷ refuse 13 (ltb (length one) (size w)) ∷ refuse 13 (ltb (length two) (size w)) ∷ [])

-- what its first output holds afterwards: the first n records
unfoldable pub split_first : List ℕ → ℕ → List ℕ → List ℕ → List ℕ
unfolding split_number written entries
split_first w n one two = written (split_number w one two) (take n (entries w)) one

-- and its second: the rest
unfoldable pub split_rest : List ℕ → ℕ → List ℕ → List ℕ → List ℕ
unfolding split_number written entries
split_rest w n one two = written (split_number w one two) (drop n (entries w)) two

-- the whole answer of a split: its number, and both outputs afterwards
pub record Split (r : ℕ) (one_after two_after w : List ℕ) (n : ℕ) (one two : List ℕ) : Type 0 where
  pub number : r ≡ split_number w one two
  pub first : one_after ≡ split_first w n one two
  pub rest : two_after ≡ split_rest w n one two
