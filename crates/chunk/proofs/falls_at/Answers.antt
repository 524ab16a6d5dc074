-- `chunk::falls_at` meets its contract: the falls at starts are those counted so far and those at the ends that are left.
use Prim.Native.Nat.{ℕ, ◌<◌, ◌≤◌, ◌+◌, ◌-◌}
use mathlib.Core.Path.{◌≡◌, sym, ◌∙◌}
use native.Mathlib.Omega.{arith}
use native.Mathlib.Nat.{add-zero}
use mathlib.Core.Bool.{true}
use mathlib.Core.List.{List}
use borrow.Author.Rules.{rules}
use lib.ListN.{length, get_or, take, drop, drop_of_length-le}
use lib.Seq.{length-take-le}
use Rattle.std.proofs.lemmas.List.{get_or-take}
use Rattle.chunk.specs.Words.{ends_rise}
use Rattle.chunk.specs.Falls.{falls_at_from}
use Rattle.chunk.proofs.Falling.{once, first_end, turn_end, above, goes_on, inside}
use Rattle.chunk.proofs.falls_at.Goals as goal

-- an end but the last is the start of a list, and so that of an item
start :
    (s d : List ℕ) (i : ℕ) → i < length (take (length s - 1) s) → ends_rise (get_or s i 0) (drop (i + 1) s) (length d) ≡ true
    → (get_or (take (length s - 1) s) i 0 ≡ get_or s i 0) × (get_or s i 0 < length d) × (i + 1 < length s)
start s d i h k =
    let m : i + 1 < length s = omega (arith, length-take-le (length s - 1) s (omega arith)) in
    (get_or-take (length s - 1) s i 0 (omega arith), inside s _ _ (i + 1) m k, m)

pub loop-end-init : goal.loop-end-init
loop-end-init c = (omega arith, c.requires.starts, c.requires.rise, omega (arith, first_end c.args.ends.now c.args.items.now c.requires.some))

pub offset_bounds-items-start : goal.offset_bounds-items-start
offset_bounds-items-start c = let k = start c.args.ends.now c.args.items.now c.loop-end.end-index c.loop-end-test.true c.loop-end.invariant.2 in rw k.0 (search rules)

pub bounds-items-start : goal.bounds-items-start
bounds-items-start c = let k = start c.args.ends.now c.args.items.now c.loop-end.end-index c.loop-end-test.true c.loop-end.invariant.2 in rw k.0 (search rules)

pub offset_bounds-items-start-in-loop-end : goal.offset_bounds-items-start-in-loop-end
offset_bounds-items-start-in-loop-end c = let k = start c.args.ends.now c.args.items.now c.loop-end.end-index c.loop-end-test.true c.loop-end.invariant.2 in rw k.0 (search rules)

pub bounds-items-start-in-loop-end : goal.bounds-items-start-in-loop-end
bounds-items-start-in-loop-end c = let k = start c.args.ends.now c.args.items.now c.loop-end.end-index c.loop-end-test.true c.loop-end.invariant.2 in rw k.0 k.1

pub loop-end-preserved : goal.loop-end-preserved
loop-end-preserved c =
    let l = c.loop-end in
    let s = c.args.ends.now in
    let d = c.args.items.now in
    let i = l.end-index in
    let k = start c.args.ends.now c.args.items.now c.loop-end.end-index c.loop-end-test.true c.loop-end.invariant.2 in
    let e = get_or s i 0 in
    let o = once (get_or d (e - 1) 0) (get_or d e 0) in
    let m = above s e (length d) (i + 1) k.2 l.invariant.2 in
    let t = turn_end s d e (i + 1) k.2 in
    let f = rw k.0 at c.fall_of-count.ensures in
    (omega arith, omega arith, goes_on s e (length d) (i + 1) k.2 l.invariant.2, omega arith)

pub returns : goal.returns
unfolding falls_at_from
returns c =
    let s = c.args.ends.now in
    let i = c.loop-end.end-index in
    let h : length s ≤ i + 1 = omega (arith, length-take-le (length s - 1) s (omega arith), c.loop-end-test.false) in
    sym (c.loop-end.invariant.3 ∙ simp (drop_of_length-le s h, add-zero))
