-- The parts that merge is made of (document 01, "Merge"): two settled chunks that have something, and the runs that their surveys
-- end with.
use Rattle.std.specs.Prelude.{ℕ, ◌+◌, ◌-◌, ◌*◌, ◌<◌, ◌≤◌, List, [], ◌∷◌, length}
use Rattle.chunk.specs.Entry.{Entry}
use Rattle.chunk.specs.Words.{entries, limit}
use Rattle.chunk.specs.declared.Contents.{Contents}
use Rattle.reports.specs.Survey.{Report, this, that, both}
use Rattle.reports.specs.Read.{Read}
use Rattle.reports.specs.Whole.{Whole}

-- what the tests leave
pub record Mergeable (w0 : List ℕ) (c0 : Contents) (w1 : List ℕ) (c1 : Contents) (scratch out : ℕ) : Type 0 where
  pub first : Whole w0 c0
  pub second : Whole w1 c1
  pub some0 : 0 < c0.nt
  pub some1 : 0 < c1.nt
  pub few : c0.nt + c1.nt ≤ limit
  pub wide : 3 * (c0.nk + c0.nv + c0.nt + (c1.nk + c1.nv + c1.nt)) ≤ scratch
  pub room : c0.size + (c1.size - c1.keys_at) ≤ out

-- a run starts at an entry that is there
abbrev pub StartsIn : List Entry → List Entry → List Report → Type 0
StartsIn es fs (this l h ∷ rs) = l < length es
StartsIn es fs (that l h ∷ rs) = l < length fs
StartsIn es fs (both i j ∷ rs) = ⊥
StartsIn es fs [] = Unit {0}

-- the runs that the times of two well formed chunks end with
pub record Trailing (w0 : List ℕ) (c0 : Contents) (w1 : List ℕ) (c1 : Contents) (rs : List Report) : Type 0 where
  pub first : Read w0 c0
  pub second : Read w1 c1
  pub starts : StartsIn (entries w0) (entries w1) rs
