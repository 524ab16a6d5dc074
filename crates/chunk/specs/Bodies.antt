-- The seven bodies of a chunk, from its entries.
use Rattle.std.specs.Prelude.{ℕ, suc, Bool, cond, List, [], ◌∷◌, ◌++◌, map, eqb, length}
use Rattle.chunk.specs.Entry.{Entry, same_list, stands, keep}

-- the last entry of each key, and of each value: where a list is closed
unfoldable pub lasts_of : (Entry → Entry → Bool) → List Entry → List Entry
lasts_of same [] = []
lasts_of same (a ∷ []) = a ∷ []
lasts_of same (a ∷ b ∷ es) = cond (same a b) (lasts_of same (b ∷ es)) (a ∷ lasts_of same (b ∷ es))

-- two entries of one key
abbrev pub same_key : Entry → Entry → Bool
same_key a b = eqb a.key b.key

-- the keys, once each
abbrev pub keys : List Entry → List ℕ
keys es = map (λ (e : Entry). e.key) (lasts_of same_key es)

-- the values, once for each key
abbrev pub vals : List Entry → List ℕ
vals es = map (λ (e : Entry). e.val) (lasts_of same_list es)

-- the times, one for each entry
abbrev pub times : List Entry → List ℕ
times es = map (λ (e : Entry). e.time) es

-- the diffs of the entries that have one
abbrev pub diffs : List Entry → List ℕ
diffs es = map (λ (e : Entry). e.diff) (keep stands es)

-- the count of items up to and including each list; a list is closed where the next item starts another
unfoldable pub ends_of : (Entry → Entry → Bool) → ℕ → List Entry → List ℕ
ends_of same n [] = []
ends_of same n (a ∷ []) = suc n ∷ []
ends_of same n (a ∷ b ∷ es) = cond (same a b) (ends_of same (suc n) (b ∷ es)) (suc n ∷ ends_of same (suc n) (b ∷ es))

-- the end of each key's values
abbrev pub val_ends : List Entry → List ℕ
val_ends es = ends_of same_key 0 (lasts_of same_list es)

-- the end of each value's times
abbrev pub time_ends : List Entry → List ℕ
time_ends es = ends_of same_list 0 es

-- the end of each time's diffs: one more where it has one, from a count on
unfoldable pub diff_ends_from : ℕ → List Entry → List ℕ
diff_ends_from n [] = []
diff_ends_from n (e ∷ es) = cond (stands e) (suc n ∷ diff_ends_from (suc n) es) (n ∷ diff_ends_from n es)

-- and from none on
abbrev pub diff_ends : List Entry → List ℕ
diff_ends es = diff_ends_from 0 es

-- the words of the chunk with these entries
unfoldable pub chunk_of : List Entry → List ℕ
chunk_of es =
    (length (keys es) ∷ length (vals es) ∷ length (times es) ∷ length (diffs es) ∷ [])
    ++ (keys es ++ (val_ends es ++ (vals es ++ (time_ends es ++ (times es ++ (diff_ends es ++ diffs es))))))
