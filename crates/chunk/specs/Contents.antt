-- The contents table as the code hands it on (document 01, "A chunk in words"): the four counts, the place of each body, and the
-- chunk's size. Nothing outside this crate adds up a place by itself.
use Rattle.std.specs.Prelude.{ℕ, zero, suc, ◌+◌, ◌*◌, ◌^◌, ◌≤◌, Bool, true, false, cond, ◌&&◌, ◌≡◌, List, [], ◌∷◌, leb, ltb, length, get_or, Option, Some, None}
use Rattle.chunk.specs.declared.Contents.{Contents}
use Rattle.chunk.specs.declared.Range.{Range}
use Rattle.chunk.specs.Words.{nk, nv, nt, nd, table_size, table_fits, size, limit, over}

-- where the bodies stand for these four counts
abbrev pub layout_of : ℕ → ℕ → ℕ → ℕ → Contents
layout_of k v t d =
    record {
      nk = k;
      nv = v;
      nt = t;
      nd = d;
      keys_at = table_size;
      val_ends_at = table_size + k;
      vals_at = table_size + 2 * k;
      time_ends_at = table_size + 2 * k + v;
      times_at = table_size + 2 * k + 2 * v;
      diff_ends_at = table_size + 2 * k + 2 * v + t;
      diffs_at = table_size + 2 * k + 2 * v + 2 * t;
      size = table_size + 2 * k + 2 * v + 2 * t + d;
    }

-- whether each of four counts is a number at most
abbrev pub each_within : ℕ → ℕ → ℕ → ℕ → ℕ → Bool
each_within n k v t d = leb k n && (leb v n && (leb t n && leb d n))

-- where the bodies stand, where no count is over 2^60; of no items where one is
unfoldable pub layout_near : ℕ → ℕ → ℕ → ℕ → Contents
layout_near k v t d = cond (each_within (2 ^ 60) k v t d) (layout_of k v t d) (layout_of 0 0 0 0)

-- the contents that the front of a slice says
abbrev pub contents_in : List ℕ → Contents
contents_in w = layout_of (nk w) (nv w) (nt w) (nd w)

-- contents, or none
abbrev pub where_true : Bool → Contents → Option Contents
where_true true c = Some c
where_true false c = None

-- what the front of a slice says, where its table fits it
unfoldable pub contents_of : List ℕ → Option Contents
contents_of w = where_true (table_fits w) (contents_in w)

-- where the bodies of an output stand, for counts that a chunk can have
unfoldable pub layout_within : ℕ → ℕ → ℕ → ℕ → Option Contents
layout_within k v t d = where_true (each_within limit k v t d) (layout_of k v t d)

-- the table's own words
abbrev pub table_of : ℕ → ℕ → ℕ → ℕ → List ℕ
table_of k v t d = k ∷ v ∷ t ∷ d ∷ []

-- a slice with the table at its front, where it holds one
unfoldable pub with_table : ℕ → ℕ → ℕ → ℕ → List ℕ → List ℕ
with_table k v t d out = cond (leb table_size (length out)) (over (table_of k v t d) out) out

-- the count of items before list i
abbrev pub start_of : List ℕ → ℕ → ℕ
start_of ends zero = 0
start_of ends (suc i) = get_or ends i 0

-- a range, or none
abbrev pub pick_range : Bool → Range → Range
pick_range true r = r
pick_range false r = record { lower = 0; upper = 0 }

-- the items of list i, from the end of the list before it to its own; none where there is no such list
unfoldable pub child_range : List ℕ → ℕ → Range
child_range ends i = pick_range (ltb i (length ends)) (record { lower = start_of ends i; upper = get_or ends i 0 })

-- contents that are those of a slice whose table fits it, by their fields
pub record Placed (c : Contents) (w : List ℕ) : Type 0 where
  pub key_count : c.nk ≡ nk w
  pub val_count : c.nv ≡ nv w
  pub time_count : c.nt ≡ nt w
  pub diff_count : c.nd ≡ nd w
  pub keys_placed : c.keys_at ≡ table_size
  pub val_ends_placed : c.val_ends_at ≡ table_size + nk w
  pub vals_placed : c.vals_at ≡ table_size + 2 * nk w
  pub time_ends_placed : c.time_ends_at ≡ table_size + 2 * nk w + nv w
  pub times_placed : c.times_at ≡ table_size + 2 * nk w + 2 * nv w
  pub diff_ends_placed : c.diff_ends_at ≡ table_size + 2 * nk w + 2 * nv w + nt w
  pub diffs_placed : c.diffs_at ≡ table_size + 2 * nk w + 2 * nv w + 2 * nt w
  pub sized : c.size ≡ size w
  pub table : table_size ≤ length w
  pub within : size w ≤ length w
