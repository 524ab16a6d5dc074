-- Filter (document 01): the entries that stay.
use Rattle.std.specs.Prelude.{ℕ, List, [], ◌∷◌, ltb, length}
use Rattle.chunk.specs.Entry.{Entry, stands, keep}
use Rattle.chunk.specs.Words.{entries, size}
use Rattle.chunk.specs.Refusal.{first, refuse, malformed, written}

-- the entries with a change
abbrev pub filtered : List Entry → List Entry
filtered es = keep stands es

-- the number that filter answers
unfoldable pub filter_number : List ℕ → List ℕ → ℕ
unfolding first
filter_number w out = first (malformed w ∷ refuse 13 (ltb (length out) (size w)) ∷ [])

-- what its output holds afterwards
unfoldable pub filter_out : List ℕ → List ℕ → List ℕ
unfolding filter_number written keep entries
filter_out w out = written (filter_number w out) (filtered (entries w)) out
