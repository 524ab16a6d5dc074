-- Each turn of the three loops moves its own index on by one, below the count of the ends that it reads, and keeps the indices of
-- the layers below it.
use Prim.Native.Nat.{ℕ, zero, suc, ◌≤◌, ◌<◌}
use mathlib.Core.Path.{◌≡◌, refl, sym, ◌∙◌, ap}
use mathlib.Core.Bool.{Bool, true, false, cond}
use mathlib.Core.List.{List}
use native.Mathlib.Omega.{arith}
use lib.Dec.{ltb}
use lib.ListN.{length, get_or}
use borrow.Author.Tests.{ltb-true}
use Rattle.laws.proofs.Tests.{by_test}
use Rattle.walk.specs.Walk.{Place, Moved, moved, past, and_then, until, next_key, to_key, next_val, to_val, next_time, val_on, time_on, read_time_end, read_diff_end, in_key, in_val, in_time, at_key, with_time_end, with_diff_end}
use Rattle.walk.proofs.Turns.{by_move, Counted, Loop}

-- a test that a place's reader passed
pub record Passed (b : Bool) (p q : Place) : Type 0 where
  pub test : b ≡ true
  pub place : p ≡ q

passed : (b : Bool) (p q : Place) → cond b (moved p) past ≡ moved q → Passed b p q
passed true p q e = record { test = refl; place = cc }
passed false p q e = absurd (let z : ◌≡◌ {A = ℕ} 0 1 = cc in omega arith)

-- the first of two moves leads to a place, and the second on from there
pub record Through (m : Moved) (f : Place → Moved) (q : Place) : Type 0 where
  pub between : Place
  pub first : m ≡ moved between
  pub second : f between ≡ moved q

through : (m : Moved) (f : Place → Moved) (q : Place) → and_then m f ≡ moved q → Through m f q
through (moved r) f q e = record { between = r; first = refl; second = e }
through past f q e = absurd (let z : ◌≡◌ {A = ℕ} 0 1 = cc in omega arith)

module _ (index : Place → ℕ) (inside : Place → Bool) (turn : Place → Moved)
    (kept : (p q : Place) → turn p ≡ moved q → index q ≡ index p) where
  -- an index that each turn keeps, all of them keep
  keeps : (n : ℕ) (p q : Place) → until n inside turn p ≡ moved q → index q ≡ index p
  unfolding until
  keeps zero p q e = ap index (sym (passed (inside p) p q e).place)
  keeps (suc n) p q e =
      by_test (inside p)
      (λ h. let m : moved p ≡ moved q = rw h at e in ap index (cc))
      (λ h.
      let t : Through (turn p) (until n inside turn) q = through (turn p) (until n inside turn) q (rw h at e) in
      keeps n t.between q t.second ∙ kept p t.between t.first)

module _ (val_ends : List ℕ) where
  key_passed : (p q : Place) → next_key val_ends p ≡ moved q → Passed (ltb (suc p.k) (length val_ends)) (at_key p (suc p.k) (get_or val_ends (suc p.k) 0)) q
  key_passed p q e = passed (ltb (suc p.k) (length val_ends)) _ q e

  pub key_counts : (p q : Place) → next_key val_ends p ≡ moved q → Counted (λ (x : Place). x.k) (length val_ends) p q
  key_counts p q e =
      let s = key_passed p q e in
      let h : suc p.k < length val_ends = ltb-true _ _ s.test in
      let o : q.k ≡ suc p.k = ap (λ (x : Place). x.k) (sym s.place) in
      record { on = o; below = omega arith }

  -- the keys' loop
  abbrev pub key_loop : Loop
  key_loop = record { index = λ x. x.k; n = length val_ends; inside = in_key; turn = next_key val_ends; counts = key_counts }

  -- what another key leaves alone
  to_key-keeps : (index : Place → ℕ) → ((p : Place) (k e : ℕ) → index (at_key p k e) ≡ index p) → (p q : Place) → to_key val_ends p ≡ moved q → index q ≡ index p
  unfolding to_key
  to_key-keeps index same p q e =
      keeps index in_key (next_key val_ends)
      (λ (a b : Place) (h : next_key val_ends a ≡ moved b). ap index (sym (key_passed a b h).place) ∙ same a (suc a.k) (get_or val_ends (suc a.k) 0))
      (length val_ends) p q e

  module _ (time_ends : List ℕ) where
    pub val_counts : (p q : Place) → next_val val_ends time_ends p ≡ moved q → Counted (λ (x : Place). x.v) (length time_ends) p q
    val_counts p q e =
        let s = through (to_key val_ends (val_on p)) (read_time_end time_ends) q e in
        let r = s.between in
        let f = passed (ltb r.v (length time_ends)) (with_time_end r (get_or time_ends r.v 0)) q s.second in
        let a : r.v ≡ suc p.v = to_key-keeps (λ (x : Place). x.v) (λ x k n. refl) (val_on p) r s.first in
        let b : q.v ≡ r.v = ap (λ (x : Place). x.v) (sym f.place) in
        let h : r.v < length time_ends = ltb-true _ _ f.test in
        record { on = b ∙ a; below = omega arith }

    -- no value is left
    pub val_past : (p : Place) → length time_ends ≤ suc p.v → next_val val_ends time_ends p ≡ past
    val_past p h =
        by_move (next_val val_ends time_ends p)
        (λ q e. let s : Counted (λ (x : Place). x.v) (length time_ends) p q = val_counts p q e in absurd (omega arith))
        (λ e. e)

    -- the values' loop
    abbrev pub val_loop : Loop
    val_loop = record { index = λ x. x.v; n = length time_ends; inside = in_val; turn = next_val val_ends time_ends; counts = val_counts }

    -- a value's turn leaves the time alone
    val_keeps_t : (p q : Place) → next_val val_ends time_ends p ≡ moved q → q.t ≡ p.t
    val_keeps_t p q e =
        let s = through (to_key val_ends (val_on p)) (read_time_end time_ends) q e in
        let r = s.between in
        let f = passed (ltb r.v (length time_ends)) (with_time_end r (get_or time_ends r.v 0)) q s.second in
        ap (λ (x : Place). x.t) (sym f.place) ∙ to_key-keeps (λ (x : Place). x.t) (λ x k n. refl) (val_on p) r s.first

    to_val-keeps_t : (p q : Place) → to_val val_ends time_ends p ≡ moved q → q.t ≡ p.t
    unfolding to_val
    to_val-keeps_t p q e = keeps (λ (x : Place). x.t) in_val (next_val val_ends time_ends) val_keeps_t (length time_ends) p q e

    pub time_counts : (diff_ends : List ℕ) (p q : Place) → next_time val_ends time_ends diff_ends p ≡ moved q → Counted (λ (x : Place). x.t) (length diff_ends) p q
    time_counts diff_ends p q e =
        let s = through (to_val val_ends time_ends (time_on p)) (read_diff_end diff_ends) q e in
        let r = s.between in
        let f = passed (ltb r.t (length diff_ends)) (with_diff_end r (get_or diff_ends r.t 0)) q s.second in
        let a : r.t ≡ suc p.t = to_val-keeps_t (time_on p) r s.first in
        let b : q.t ≡ r.t = ap (λ (x : Place). x.t) (sym f.place) in
        let h : r.t < length diff_ends = ltb-true _ _ f.test in
        record { on = b ∙ a; below = omega arith }

    -- no time is left
    pub time_past : (diff_ends : List ℕ) (p : Place) → length diff_ends ≤ suc p.t → next_time val_ends time_ends diff_ends p ≡ past
    time_past diff_ends p h =
        by_move (next_time val_ends time_ends diff_ends p)
        (λ q e. let s : Counted (λ (x : Place). x.t) (length diff_ends) p q = time_counts diff_ends p q e in absurd (omega arith))
        (λ e. e)

    -- the times' loop
    abbrev pub time_loop : List ℕ → Loop
    time_loop diff_ends = record { index = λ x. x.t; n = length diff_ends; inside = in_time; turn = next_time val_ends time_ends diff_ends; counts = time_counts diff_ends }
