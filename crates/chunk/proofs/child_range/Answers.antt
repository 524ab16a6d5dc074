-- `chunk::child_range` meets its contract.
-- the first list starts at 0, and another at the end of the one before it
use Prim.Native.Nat.{ℕ, zero, suc, ◌-◌}
use mathlib.Core.Path.{◌≡◌, refl, sym, ◌∙◌}
use mathlib.Core.List.{List}
use native.Mathlib.Numerals.{sub-one}
use lib.ListN.{get_or}
use borrow.Author.Tests.{lt-ltb, le-ltb}
use Rattle.chunk.specs.Contents.{child_range, start_of}
use Rattle.chunk.proofs.child_range.Goals as goal
use Rattle.chunk.proofs.child_range.Goals.{then-i-eq0, else-i-eq0}

-- past the first list, a list starts at the end of the one before it
start_later : (ends : List ℕ) (i : ℕ) → (i ≡ 0 → ⊥) → start_of ends i ≡ get_or ends (i - 1) 0
start_later ends zero h = absurd (h refl)
start_later ends (suc i) h = rw sub-one

pub returns-then-ends-i : goal.returns-then-ends-i
unfolding child_range
returns-then-ends-i c = simp (le-ltb _ _ c.if-ends-i.true)

pub returns : goal.returns
unfolding child_range
returns c =
    let s = c.args.ends.now in
    let e : start_of s c.args.i ≡ c.if-i-eq0.lower =
    elim c.if-i-eq0.branch [ then-i-eq0 w ↦ rw (w.if-i-eq0.true, w.lower-is) | else-i-eq0 w ↦ start_later s _ w.if-i-eq0.false ∙ sym w.lower-is ] in
    simp (lt-ltb _ _ c.if-ends-i.false, e)
