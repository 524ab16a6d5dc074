-- What is read: a range of words that is there, and a slice with its contents.
use Rattle.std.specs.Prelude.{ℕ, ◌≤◌, true, ◌≡◌, List, length}
use Rattle.chunk.specs.Words.{well_formed, nk, nv, nt, nd}
use Rattle.chunk.specs.Contents.{layout_of}
use Rattle.chunk.specs.declared.Contents.{Contents}

-- a range of words that is there
pub record Within (src : List ℕ) (from to : ℕ) : Type 0 where
  pub ordered : from ≤ to
  pub within : to ≤ length src

-- a well formed slice with its contents
pub record Read (w : List ℕ) (c : Contents) : Type 0 where
  pub formed : well_formed w ≡ true
  pub contents : c ≡ layout_of (nk w) (nv w) (nt w) (nd w)
