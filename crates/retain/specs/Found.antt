-- The frontier as the code hands it on (document 01: "A frontier holds at most 128 corners"; "unused places read zero in every answer"), and
-- how the kept times' corners are found: a time among the corners of those before it; or again and again the least open time whose tick is
-- below the last corner's.
use Rattle.std.specs.Prelude.{ℕ, ◌≤◌, ◌<◌, ◌≡◌, Bool, true, false, not, cond, ◌&&◌, List, [], ◌∷◌, Option, None, Some, ltb, leb, length, take, get_or}
use Rattle.chunk.specs.Entry.{ignition, tick, keep}
use Rattle.chunk.specs.Time.{earlier, at_or_below}
use Rattle.retain.specs.declared.Frontier.{Frontier}
use Rattle.retain.specs.declared.Kept.{Kept}
use Rattle.retain.specs.Frontier.{is_open, ordered, places, most, insert_time, least_of}

-- a frontier with these corners, the places past them zero
abbrev pub frontier_with : List ℕ → Frontier
frontier_with corners = record { count = length corners; corners = places corners }

-- the one with none
abbrev pub empty_frontier : Frontier
empty_frontier = frontier_with []

-- whether a time sorts before the best so far, if there is one
abbrev pub sooner : ℕ → Option ℕ → Bool
sooner t None = true
sooner t (Some best) = earlier t best

-- whether an open time with a tick below the limit sorts before the best so far
abbrev pub better_than : List ℕ → ℕ → Option ℕ → ℕ → Bool
better_than corners limit best t = ltb (tick t) limit && (sooner t best && is_open corners t)

-- the best of the times that are left
unfoldable pub least_from : List ℕ → ℕ → List ℕ → Option ℕ → Option ℕ
least_from corners limit [] best = best
least_from corners limit (t ∷ ts) best =
    cond (better_than corners limit best t) (least_from corners limit ts (Some t)) (least_from corners limit ts best)

-- a frontier of these corners, where they are not too many
abbrev pub corners_as : Bool → List ℕ → Option Frontier
corners_as true l = Some (frontier_with l)
corners_as false l = None

-- by their number
abbrev pub corners_of : List ℕ → Option Frontier
corners_of l = corners_as (leb (length l) most) l

-- with a frontier, where there is one, a number
abbrev pub kept_with : ℕ → Option Frontier → Option Kept
kept_with n None = None
kept_with n (Some f) = Some (record { number = n; frontier = f })

-- of the open times: how many, and their frontier
abbrev pub kept_by : List ℕ → Option Kept
kept_by ts = kept_with (length ts) (corners_of (least_of ts))

-- the corners before place n, and those from it on, by a time's ignition
pub record PartedAt (corners : List ℕ) (t n : ℕ) : Type 0 where
  pub within : n ≤ length corners
  pub early : (k : ℕ) → k < n → ignition (get_or corners k 0) ≤ ignition t
  pub late : (k : ℕ) → n ≤ k → k < length corners → ignition t < ignition (get_or corners k 0)

-- the last corner with an ignition at or below a time's, or the first one
pub record LastAt (corners : List ℕ) (t n : ℕ) : Type 0 where
  pub within : n < length corners
  pub early : 0 < n → ignition (get_or corners n 0) ≤ ignition t
  pub late : (k : ℕ) → n < k → k < length corners → ignition t < ignition (get_or corners k 0)

-- earlier in ignition and higher in tick
pub record Stair (a b : ℕ) : Type 0 where
  pub right : ignition a < ignition b
  pub down : tick b < tick a

-- the corners before place n are stairs down to a time, and those from it on are not of a lower ignition
pub record Before (corners : List ℕ) (t n : ℕ) : Type 0 where
  pub within : n ≤ length corners
  pub early : (k : ℕ) → k < n → Stair (get_or corners k 0) t
  pub late : (k : ℕ) → n ≤ k → k < length corners → ignition t ≤ ignition (get_or corners k 0)

-- from one place to another no corner's tick is below a time's, and there it is, or the corners end
pub record Passed (corners : List ℕ) (t n end : ℕ) : Type 0 where
  pub onward : n ≤ end
  pub within : end ≤ length corners
  pub high : (k : ℕ) → n ≤ k → k < end → tick t ≤ tick (get_or corners k 0)
  pub low : end < length corners → tick (get_or corners end 0) < tick t

-- so many corners, in order, at the front of 128 places, those past them zero
pub record Standing (corners : List ℕ) (count : ℕ) : Type 0 where
  pub within : count ≤ most
  pub size : length corners ≡ most
  pub filled : corners ≡ places (take count corners)
  pub stairs : ordered (take count corners) ≡ true

-- a time among corners, in the place of those that it is at or below
abbrev pub joined : ℕ → List ℕ → List ℕ
joined t corners = insert_time t (keep (λ (s : ℕ). not (at_or_below t s)) corners)

-- their count, and that they stand in the places, where there is room
pub record Joined (t : ℕ) (corners : List ℕ) (count : ℕ) (after : List ℕ) : Type 0 where
  pub number : count ≡ length (joined t corners)
  pub standing : count ≤ most → after ≡ places (joined t corners)
