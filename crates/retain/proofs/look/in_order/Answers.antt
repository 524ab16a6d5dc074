-- `retain::in_order` meets its contract: from each corner on, what is left to test is the order of those left.
use Prim.Native.Nat.{ℕ, ◌+◌, ◌<◌, ◌≤◌}
use mathlib.Core.Path.{◌≡◌, refl, sym, ◌∙◌, ap}
use mathlib.Core.Bool.{true, ◌&&◌}
use mathlib.Core.List.{List, [], ◌∷◌}
use native.Mathlib.Omega.{arith}
use native.Mathlib.Numerals.{add-one}
use lib.Dec.{ltb}
use lib.ListN.{length, get_or, drop, drop_of_length-le}
use lib.Seq.{drop-cons}
use borrow.Author.Tests.{lt-ltb, le-ltb}
use Rattle.chunk.specs.Entry as entry
use Rattle.laws.proofs.Tests.{and-false}
use Rattle.retain.specs.Frontier.{ordered}
use Rattle.retain.proofs.look.in_order.Goals as goal

none : (l : List ℕ) → length l ≡ 0 → true ≡ ordered l
unfolding ordered
none [] h = refl
none (a ∷ l) h = absurd (omega arith)

turn : (l : List ℕ) (last i : ℕ) → i < length l
    → ordered (last ∷ drop i l)
    ≡ ((ltb (entry.ignition last) (entry.ignition (get_or l i 0)) && ltb (entry.tick (get_or l i 0)) (entry.tick last)) && ordered (get_or l i 0 ∷ drop (i + 1) l))
unfolding ordered
turn l last i h = rw (add-one, drop-cons l i 0)

done : (l : List ℕ) (last i : ℕ) → length l ≤ i → true ≡ ordered (last ∷ drop i l)
unfolding ordered
done l last i h = simp (drop_of_length-le l h)

pub returns-in_default : goal.returns-in_default
returns-in_default c = none _ c.in_default.ensures.cases

pub loop-next-init : goal.loop-next-init
loop-next-init c = ap ordered c.in-Some.ensures.cases.0

pub returns-then-next-last : goal.returns-then-next-last
returns-then-next-last c = let l = c.loop-next in sym (l.invariant ∙ turn _ _ _ c.loop-next-test.true ∙ simp (le-ltb _ _ c.if-next-last.true))

pub returns-then-last-next : goal.returns-then-last-next
returns-then-last-next c = let l = c.loop-next in sym (l.invariant ∙ turn _ _ _ c.loop-next-test.true ∙ simp (le-ltb _ _ c.if-last-next.true, and-false))

pub loop-next-preserved : goal.loop-next-preserved
loop-next-preserved c = let l = c.loop-next in l.invariant ∙ turn _ _ _ c.loop-next-test.true ∙ simp (lt-ltb _ _ c.if-next-last.false, lt-ltb _ _ c.if-last-next.false)

pub returns : goal.returns
returns c = let l = c.loop-next in done _ _ _ c.loop-next-test.false ∙ sym l.invariant
