-- `chunk::write_table` meets its contract: four stores at the front are the table over what was there.
use Prim.Native.Nat.{ℕ, ◌≤◌}
use mathlib.Core.Path.{◌≡◌}
use mathlib.Core.List.{List, [], ◌∷◌}
use native.Mathlib.Omega.{arith}
use lib.ListN.{length, set, length-set}
use borrow.Author.Tests.{le-leb, lt-leb}
use Rattle.chunk.specs.Words.{table_size}
use Rattle.chunk.specs.Contents.{with_table}
use Rattle.chunk.proofs.write_table.Goals as goal

stored : (w : List ℕ) (k v t d : ℕ) → table_size ≤ length w → set (set (set (set w 0 k) 1 v) 2 t) 3 d ≡ with_table k v t d w
unfolding with_table
stored (a ∷ b ∷ x ∷ e ∷ w) k v t d h = simp (le-leb _ _ h)
stored [] k v t d h = absurd (omega arith)
stored (a ∷ []) k v t d h = absurd (omega arith)
stored (a ∷ b ∷ []) k v t d h = absurd (omega arith)
stored (a ∷ b ∷ x ∷ []) k v t d h = absurd (omega arith)

pub returns-then-out-lt-TABLE : goal.returns-then-out-lt-TABLE
unfolding with_table
returns-then-out-lt-TABLE c = simp (lt-leb _ _ c.if-out-lt-TABLE.true)

pub bounds-out-1 : goal.bounds-out-1
bounds-out-1 c = simp length-set (omega arith)

pub bounds-out-2 : goal.bounds-out-2
bounds-out-2 c = simp length-set (omega arith)

pub returns : goal.returns
returns c = stored _ _ _ _ _ c.if-out-lt-TABLE.false
