-- The meld, body by body (document 01, "each layer is written into its own part of the output"): each body of the first chunk without
-- the list that goes on, behind it the same body of the second, ends gone up by the items of the first.
use Rattle.std.specs.Prelude.{ℕ, ◌+◌, ◌-◌, ◌≤◌, List, ◌++◌, take}
use Rattle.chunk.specs.declared.Contents.{Contents}
use Rattle.chunk.specs.Words.{nk, nv, nt, nd, key_body, val_end_body, val_body, time_end_body, time_body, diff_end_body, diff_body, limit}
use Rattle.chunk.specs.Contents.{layout_of, with_table}
use Rattle.meld.specs.declared.Seam.{Seam}
use Rattle.meld.specs.Copy.{gone, placed}

-- one body of the output in its place: words of the first chunk, then those of the second
abbrev pub body_laid : ℕ → List ℕ → List ℕ → ℕ → List ℕ → List ℕ
body_laid to first second by out = placed to (first ++ gone by second) out

-- the first chunk's keys, without one that goes on in the second
abbrev pub keys_kept : Seam → List ℕ → ℕ
keys_kept seam a = nk a - seam.keys

-- and its values
abbrev pub vals_kept : Seam → List ℕ → ℕ
vals_kept seam a = nv a - seam.vals

-- where the output's bodies stand
abbrev pub places_of : Seam → List ℕ → List ℕ → Contents
places_of seam a b = layout_of (keys_kept seam a + nk b) (vals_kept seam a + nv b) (nt a + nt b) (nd a + nd b)

-- all of it in these places: the table, the bodies of keys and values, those of times and diffs
unfoldable pub laid_at : Contents → Seam → List ℕ → List ℕ → List ℕ → List ℕ
laid_at to seam a b out =
    body_laid to.diffs_at (diff_body a) (diff_body b) 0
    (body_laid to.diff_ends_at (diff_end_body a) (diff_end_body b) (nd a)
    (body_laid to.times_at (time_body a) (time_body b) 0
    (body_laid to.time_ends_at (take (vals_kept seam a) (time_end_body a)) (time_end_body b) (nt a)
    (body_laid to.vals_at (take (vals_kept seam a) (val_body a)) (val_body b) 0
    (body_laid to.val_ends_at (take (keys_kept seam a) (val_end_body a)) (val_end_body b) (vals_kept seam a)
    (body_laid to.keys_at (take (keys_kept seam a) (key_body a)) (key_body b) 0
    (with_table to.nk to.nv to.nt to.nd out)))))))

-- and in its own places
abbrev pub laid : Seam → List ℕ → List ℕ → List ℕ → List ℕ
laid seam a b out = laid_at (places_of seam a b) seam a b out

-- counts that two chunks can have, and no more shared than there is
pub record Counted (seam : Seam) (a b : List ℕ) : Type 0 where
  pub keys_within : seam.keys ≤ nk a
  pub vals_within : seam.vals ≤ nv a
  pub keys_few : nk a + nk b ≤ limit + limit
  pub vals_few : nv a + nv b ≤ limit + limit
  pub times_few : nt a + nt b ≤ limit + limit
  pub diffs_few : nd a + nd b ≤ limit + limit
