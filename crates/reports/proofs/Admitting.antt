-- The tests of two chunks that are merged: how many times they have together, and what room there is.
use Prim.Native.Nat.{ℕ, ◌+◌, ◌-◌, ◌*◌, ◌<◌, ◌≤◌}
use mathlib.Core.Path.{◌≡◌, sym, ◌∙◌, ap}
use mathlib.Core.Bool.{true, false}
use lib.Dec.{ltb}
use borrow.Author.Tests.{lt-ltb, le-ltb, ltb-false}
use Rattle.std.specs.Prelude.{Option, is_none}
use Rattle.chunk.specs.Words.{limit}
use Rattle.chunk.specs.Contents.{layout_within}
use Rattle.chunk.specs.declared.Contents.{Contents}
use Rattle.laws.proofs.Parts.{too_many_times}
use Rattle.reports.specs.Refusals.{room_of}

module _ (c0 c1 : Contents) (scratch out : ℕ) {l : Option Contents} (e : l ≡ layout_within 0 0 (c0.nt + c1.nt) 0) where
  abbrev wide : ℕ
  wide = 3 * (c0.nk + c0.nv + c0.nt + (c1.nk + c1.nv + c1.nt))

  abbrev room : ℕ
  room = c0.size + (c1.size - c1.keys_at)

  none_is : is_none l ≡ ltb limit (c0.nt + c1.nt)
  none_is = ap is_none e ∙ too_many_times (c0.nt + c1.nt)

  pub few : is_none l ≡ false → c0.nt + c1.nt ≤ limit
  few h = ltb-false _ _ (sym none_is ∙ h)

  pub too_many : is_none l ≡ true → 2 ≡ room_of c0 c1 scratch out
  unfolding room_of
  too_many h = rw (sym none_is ∙ h)

  pub too_narrow : is_none l ≡ false → scratch < wide → 12 ≡ room_of c0 c1 scratch out
  unfolding room_of
  too_narrow h m = rw (le-ltb limit (c0.nt + c1.nt) (few h), lt-ltb scratch wide m)

  pub too_short : is_none l ≡ false → wide ≤ scratch → out < room → 13 ≡ room_of c0 c1 scratch out
  unfolding room_of
  too_short h m k = rw (le-ltb limit (c0.nt + c1.nt) (few h), le-ltb scratch wide m, lt-ltb out room k)

  pub enough : is_none l ≡ false → wide ≤ scratch → room ≤ out → 0 ≡ room_of c0 c1 scratch out
  unfolding room_of
  enough h m k = rw (le-ltb limit (c0.nt + c1.nt) (few h), le-ltb scratch wide m, le-ltb out room k)
