-- The part that a report names, kind by kind.
use Prim.Native.Nat.{ℕ, zero, suc, ◌+◌, ◌<◌, ◌≤◌}
use mathlib.Core.Path.{◌≡◌, refl}
use mathlib.Core.List.{List, []}
use native.Mathlib.Omega.{arith}
use lib.Dec.{leb}
use lib.ListN.{length}
use borrow.Author.Tests.{le-leb, lt-leb, lt-ltb, le-ltb}
use Rattle.laws.proofs.Tests.{and-false}
use Rattle.reports.specs.Gallop.{between}
use Rattle.reports.specs.Run.{part_of, run_of}

module _ (body : List ℕ) (low high : ℕ) where
  pub part_past : length body < high → [] ≡ part_of body low high
  unfolding part_of
  part_past h = rw (lt-leb high (length body) h, and-false (leb low high))

  pub part_crossed : high < low → [] ≡ part_of body low high
  unfolding part_of
  part_crossed h = rw (lt-leb low high h)

  pub part_there : low ≤ high → high ≤ length body → between low high body ≡ part_of body low high
  unfolding part_of
  part_there h k = rw (le-leb low high h, le-leb high (length body) k)

module _ (kind low high : ℕ) (one two r : List ℕ) where
  pub run_this : kind ≡ 0 → r ≡ part_of one low high → r ≡ run_of kind low high one two
  unfolding run_of
  run_this h e = rw h e

  pub run_that : kind ≡ 1 → r ≡ part_of two low high → r ≡ run_of kind low high one two
  unfolding run_of
  run_that h e = rw h e

  pub run_both : kind ≡ 2 → high < length two → r ≡ part_of one low (low + 1) → r ≡ run_of kind low high one two
  unfolding run_of
  run_both h k e = rw (h, lt-ltb high (length two) k) e

  pub run_short : kind ≡ 2 → length two ≤ high → [] ≡ run_of kind low high one two
  unfolding run_of
  run_short h k = rw (h, le-ltb high (length two) k)

pub run_other : (kind low high : ℕ) (one two : List ℕ) → (kind ≡ 0 → ⊥) → (kind ≡ 1 → ⊥) → (kind ≡ 2 → ⊥) → [] ≡ run_of kind low high one two
unfolding run_of
run_other zero low high one two a b d = absurd (a refl)
run_other (suc zero) low high one two a b d = absurd (b refl)
run_other (suc (suc zero)) low high one two a b d = absurd (d refl)
run_other (suc (suc (suc k))) low high one two a b d = refl

pub run_past : (kind low high : ℕ) (one two : List ℕ) → kind ≡ 2 → high < length two → length one ≤ low → [] ≡ run_of kind low high one two
run_past kind low high one two h k l = run_both kind low high one two [] h k (part_past one low (low + 1) (omega arith))
