-- The seven parts of a chunk's words can each be lent.
use Prim.Native.Nat.{ℕ, ◌*◌, ◌≤◌}
use mathlib.Core.List.{List}
use native.Mathlib.Omega.{arith}
use lib.ListN.{length}
use mir.Syntax.{w64}
use mir.Val.{Fits}
use Rattle.chunk.specs.declared.Contents.{Contents}
use Rattle.chunk.specs.Contents.{Placed}

-- the part of words from `a` to `b` can be lent
pub record Lent (w : List ℕ) (a b : ℕ) : Type 0 where
  pub bytes : Fits w64 (a * 8)
  pub ordered : a ≤ b
  pub within : b ≤ length w

-- each part can
pub record Lending (w : List ℕ) (c : Contents) : Type 0 where
  pub its_keys : Lent w c.keys_at c.val_ends_at
  pub its_val_ends : Lent w c.val_ends_at c.vals_at
  pub its_vals : Lent w c.vals_at c.time_ends_at
  pub its_time_ends : Lent w c.time_ends_at c.times_at
  pub its_times : Lent w c.times_at c.diff_ends_at
  pub its_diff_ends : Lent w c.diff_ends_at c.diffs_at
  pub its_diffs : Lent w c.diffs_at c.size

-- where the contents are those of the words
pub lending : (w : List ℕ) (c : Contents) → Placed c w → Fits w64 (length w * 8) → Lending w c
lending w c p h =
    record {
      its_keys = omega (arith, h, p.keys_placed, p.val_ends_placed, p.within);
      its_val_ends = omega (arith, h, p.val_ends_placed, p.vals_placed, p.within);
      its_vals = omega (arith, h, p.vals_placed, p.time_ends_placed, p.within);
      its_time_ends = omega (arith, h, p.time_ends_placed, p.times_placed, p.within);
      its_times = omega (arith, h, p.times_placed, p.diff_ends_placed, p.within);
      its_diff_ends = omega (arith, h, p.diff_ends_placed, p.diffs_placed, p.within);
      its_diffs = omega (arith, h, p.diffs_placed, p.sized, p.within);
    }
