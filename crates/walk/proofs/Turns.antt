-- Turns until a place is inside: where each turn moves an index on by one, and below n, more than n turns change nothing.
use Prim.Native.Nat.{ℕ, zero, suc, ◌+◌, ◌-◌, ◌≤◌, ◌<◌}
use mathlib.Core.Path.{◌≡◌, refl, sym, ◌∙◌, ap}
use mathlib.Core.Bool.{Bool, true, false}
use native.Mathlib.Omega.{arith}
use Rattle.walk.specs.declared.Walker.{Walker}
use Rattle.std.specs.Prelude.{Some, None}
use Rattle.walk.specs.Walk.{Place, Moved, moved, past, until}
use Rattle.walk.specs.Answer.{place_of, walker_at, reached_by}

-- by where a move leads
pub by_move {ℓ} : {P : Type ℓ} (m : Moved) → ((q : Place) → m ≡ moved q → P) → (m ≡ past → P) → P
by_move (moved q) f g = f q refl
by_move past f g = g refl

-- what the code's answer says of the move behind it
pub reached_at : (m : Moved) (q : Walker) → Some q ≡ reached_by m → m ≡ moved (place_of q)
reached_at (moved p) q e = let w : q ≡ walker_at p = cc in ap (λ (x : Walker). moved (place_of x)) (sym w)
reached_at past q e = cc

pub reached_past : (m : Moved) → None ≡ reached_by m → m ≡ past
reached_past (moved p) e = cc
reached_past past e = refl

-- a turn moves the index on by one, and below n
pub record Counted (index : Place → ℕ) (n : ℕ) (p q : Place) : Type 0 where
  pub on : index q ≡ suc (index p)
  pub below : index q < n

-- one of the three loops: the index that its turns move on, among n
pub record Loop : Type 0 where
  pub index : Place → ℕ
  pub n : ℕ
  pub inside : Place → Bool
  pub turn : Place → Moved
  pub counts : (p q : Place) → turn p ≡ moved q → Counted index n p q

-- where the loop leads
abbrev pub go : Loop → Place → Moved
go L p = until L.n L.inside L.turn p

module _ (L : Loop) where
  -- from a place on, turns that are enough are all the same
  enough : (a b : ℕ) (p : Place) → L.n ≤ a + L.index p → L.n ≤ b + L.index p → until a L.inside L.turn p ≡ until b L.inside L.turn p
  unfolding until
  enough zero zero p h k = refl
  enough zero (suc b) p h k =
      by_move (L.turn p)
      (λ q e. let s : Counted L.index L.n p q = L.counts p q e in absurd (omega arith))
      (λ e. rw e)
  enough (suc a) zero p h k =
      by_move (L.turn p)
      (λ q e. let s : Counted L.index L.n p q = L.counts p q e in absurd (omega arith))
      (λ e. rw e)
  enough (suc a) (suc b) p h k =
      by_move (L.turn p)
      (λ q e. let s : Counted L.index L.n p q = L.counts p q e in rw (e, enough a b q (omega arith) (omega arith)))
      (λ e. rw e)

  -- one turn more
  more : (p : Place) → go L p ≡ until (suc L.n) L.inside L.turn p
  more p = enough L.n (suc L.n) p (omega arith) (omega arith)

  -- inside already
  pub stays : (p : Place) → L.inside p ≡ true → go L p ≡ moved p
  unfolding until
  stays p h = more p ∙ rw h

  -- one turn
  pub turned : (p q : Place) → L.inside p ≡ false → L.turn p ≡ moved q → go L p ≡ go L q
  unfolding until
  turned p q h e = more p ∙ rw (h, e)

  -- a turn that goes past
  stuck : (p : Place) → L.inside p ≡ false → L.turn p ≡ past → go L p ≡ past
  unfolding until
  stuck p h e = more p ∙ rw (h, e)

  -- a turn in the code: it goes on, with less left, or it is the end
  module _ (p q : Walker) (out : L.inside (place_of p) ≡ false) (e : Some q ≡ reached_by (L.turn (place_of p))) where
    pub goes_on : go L (place_of p) ≡ go L (place_of q)
    goes_on = turned (place_of p) (place_of q) out (reached_at (L.turn (place_of p)) q e)

    pub less_left : L.n - L.index (place_of q) < L.n - L.index (place_of p)
    less_left =
        let s : Counted L.index L.n (place_of p) (place_of q) = L.counts (place_of p) (place_of q) (reached_at (L.turn (place_of p)) q e) in
        omega arith

  pub ends : (p : Walker) → L.inside (place_of p) ≡ false → None ≡ reached_by (L.turn (place_of p)) → go L (place_of p) ≡ past
  ends p out e = stuck (place_of p) out (reached_past (L.turn (place_of p)) e)
