-- `chunk::read_contents` meets its contract: each early answer has a count, or the size, above the slice's length.
use Prim.Native.Nat.{ℕ, ◌<◌, ◌≤◌}
use mathlib.Core.Path.{◌≡◌, ◌∙◌, ap}
use mathlib.Core.List.{List}
use native.Mathlib.Omega.{arith}
use lib.ListN.{length, get_or}
use borrow.Author.Tests.{lt-leb, le-leb}
use Rattle.std.specs.Prelude.{Some, None}
use Rattle.chunk.specs.declared.Contents.{Contents}
use Rattle.chunk.specs.Words.{size, table_size}
use Rattle.chunk.specs.Contents.{contents_of, layout_of}
use Rattle.chunk.proofs.Tests.{and-false}
use Rattle.chunk.proofs.read_contents.Goals.{then-room-nk-via-then-room-nk, then-room-nk-via-else-room-nk+then-room-nv, then-room-nk-via-else-room-nk+else-room-nv+then-room-nt, then-room-nk-via-else-room-nk+else-room-nv+else-room-nt+then-room-nd}
use Rattle.chunk.proofs.read_contents.Goals as goal

misfit : (w : List ℕ) → length w < size w → None ≡ contents_of w
unfolding contents_of
misfit w h = simp (lt-leb (size w) (length w) h, and-false)

fits : (w : List ℕ) → table_size ≤ length w → size w ≤ length w → Some (layout_of (get_or w 0 0) (get_or w 1 0) (get_or w 2 0) (get_or w 3 0)) ≡ contents_of w
unfolding contents_of
fits w h k = simp (le-leb _ _ h, le-leb (size w) (length w) k)

pub returns-then-room-lt-TABLE : goal.returns-then-room-lt-TABLE
unfolding contents_of
returns-then-room-lt-TABLE c = simp (lt-leb _ _ c.if-room-lt-TABLE.true)

pub returns-then-room-nk : goal.returns-then-room-nk
returns-then-room-nk c =
    misfit _ (elim c.then-room-nk.branch [
      | then-room-nk-via-then-room-nk w ↦ omega arith
      | then-room-nk-via-else-room-nk+then-room-nv w ↦ omega arith
      | then-room-nk-via-else-room-nk+else-room-nv+then-room-nt w ↦ omega arith
      | then-room-nk-via-else-room-nk+else-room-nv+else-room-nt+then-room-nd w ↦ omega arith
    ])

pub returns-then-room-found : goal.returns-then-room-found
returns-then-room-found c = misfit _ (omega (arith, ap (λ (x : Contents). x.size) c.summed-found.ensures))

pub returns : goal.returns
returns c = ap Some c.summed-found.ensures ∙ fits _ (omega arith) (omega (arith, ap (λ (x : Contents). x.size) c.summed-found.ensures))
