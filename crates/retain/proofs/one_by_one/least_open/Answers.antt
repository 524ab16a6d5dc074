-- `retain::least_open` meets its contract: from each time on, the best of those left is the best of all.
use Prim.Native.Nat.{ℕ, ◌+◌, ◌<◌}
use mathlib.Core.Path.{◌≡◌, sym, ◌∙◌}
use mathlib.Core.Bool.{true, false, cond}
use mathlib.Core.List.{List}
use native.Mathlib.Numerals.{add-one}
use lib.ListN.{length, get_or, drop, drop_of_length-le}
use lib.Seq.{drop-cons}
use Rattle.std.specs.Prelude.{Option, None, Some}
use Rattle.retain.specs.Found.{least_from, better_than}
use Rattle.retain.proofs.one_by_one.least_open.Goals as goal
use Rattle.retain.proofs.one_by_one.least_open.Goals.{then-better, else-better}

module _ (corners : List ℕ) (limit : ℕ) (times : List ℕ) (best : Option ℕ) (i : ℕ) (h : i < length times) (e : least_from corners limit times None ≡ least_from corners limit (drop i times) best) where
  turn : least_from corners limit times None
      ≡ cond (better_than corners limit best (get_or times i 0)) (least_from corners limit (drop (i + 1) times) (Some (get_or times i 0))) (least_from corners limit (drop (i + 1) times) best)
  unfolding least_from
  turn = e ∙ rw (add-one, drop-cons times i 0)

  -- the next time is the best so far
  taken : better_than corners limit best (get_or times i 0) ≡ true → (now : Option ℕ) → now ≡ Some (get_or times i 0) → least_from corners limit times None ≡ least_from corners limit (drop (i + 1) times) now
  taken b now q = rw q (turn ∙ simp b)

  -- the next time is no better
  passed : better_than corners limit best (get_or times i 0) ≡ false → (now : Option ℕ) → now ≡ best → least_from corners limit times None ≡ least_from corners limit (drop (i + 1) times) now
  passed b now q = rw q (turn ∙ simp b)

pub loop-time-preserved : goal.loop-time-preserved
loop-time-preserved c =
    let l = c.loop-time in
    let t = c.loop-time-test.true in
    let q = c.better.ensures in
    elim c.if-better.branch [
      | then-better w ↦ taken _ _ _ l.best l.time-index t l.invariant (sym q ∙ w.if-better.true) _ w.best-is
      | else-better w ↦ passed _ _ _ l.best l.time-index t l.invariant (sym q ∙ w.if-better.false) _ w.best-is
    ]

pub returns : goal.returns
unfolding least_from
returns c =
    let l = c.loop-time in
    sym (l.invariant ∙ simp (drop_of_length-le c.args.times.now c.loop-time-test.false))
