-- `retain::Frontier::corners` meets its contract: the corners are the first `count` of the 128 places.
use Prim.Native.Nat.{ℕ, ◌<◌, ◌≤◌, ◌-◌}
use mathlib.Core.Path.{◌≡◌, sym, ap}
use mathlib.Core.Bool.{Bool, false}
use mathlib.Core.List.{List}
use native.Mathlib.Omega.{arith}
use lib.ListN.{take}
use borrow.Author.Tests.{le-leb, lt-leb}
use Rattle.retain.specs.Frontier.{sound, ordered}
use Rattle.retain.proofs.Frontier.corners.Goals as goal

too_long : (count : ℕ) (places : List ℕ) → 128 < count → sound count places ≡ false
unfolding sound
too_long count places h = simp (lt-leb count 128 h)

within : (count : ℕ) (places : List ℕ) (r : Bool) → count ≤ 128 → r ≡ ordered (take (count - 0) places) → sound count places ≡ r
unfolding sound
within count places r h e = let z : count - 0 ≡ count = omega arith in simp (le-leb count 128 h) (sym (rw z at e))

pub returns-then-count-gt-MOST : goal.returns-then-count-gt-MOST
returns-then-count-gt-MOST c = too_long _ _ c.if-count-gt-MOST.true

pub returns-then-not-in_order : goal.returns-then-not-in_order
returns-then-not-in_order c = within _ _ _ c.if-count-gt-MOST.false c.if-not-in_order.ensures

pub returns : goal.returns
returns c =
    let n : ℕ = c.args.self.now.count in
    let z : n - 0 ≡ n = omega arith in
    (within _ _ _ c.if-count-gt-MOST.false c.if-not-in_order.ensures, ap (λ (k : ℕ). take k c.args.self.now.corners) z)
