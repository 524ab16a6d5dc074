-- Frontiers (document 01): corners with ignitions rising strictly and ticks falling strictly.
use Rattle.std.specs.Prelude.{ℕ, ◌-◌, Bool, true, false, not, cond, ◌&&◌, ◌||◌, leb, ltb, eqb, length, take, replicate}
use mathlib.Core.List.{List, [], ◌∷◌, ◌++◌, foldr}
use Rattle.chunk.specs.Entry.{ignition, tick, keep}
use Rattle.chunk.specs.Time.{at_or_below}

-- the most corners that a frontier holds
abbrev pub most : ℕ
most = 128

-- some item passes the test
unfoldable pub any : (ℕ → Bool) → List ℕ → Bool
any p [] = false
any p (a ∷ l) = p a || any p l

-- a time is open if some corner is at or below it
unfoldable pub is_open : List ℕ → ℕ → Bool
unfolding any
is_open corners t = any (λ c. at_or_below c t) corners

-- ignitions rise strictly and ticks fall strictly
unfoldable pub ordered : List ℕ → Bool
ordered [] = true
ordered (a ∷ []) = true
ordered (a ∷ b ∷ l) = (ltb (ignition a) (ignition b) && ltb (tick b) (tick a)) && ordered (b ∷ l)

-- a frontier as it comes in: a count and 128 places, of which those past the count are ignored
unfoldable pub sound : ℕ → List ℕ → Bool
unfolding ordered
sound count places = leb count most && ordered (take count places)

-- and as it is answered: those past the count read zero
abbrev pub places : List ℕ → List ℕ
places corners = corners ++ replicate (most - length corners) 0

-- a time into an ascending list, each once
unfoldable pub insert_time : ℕ → List ℕ → List ℕ
insert_time t [] = t ∷ []
insert_time t (a ∷ l) = cond (ltb t a) (t ∷ a ∷ l) (cond (eqb t a) (a ∷ l) (a ∷ insert_time t l))

-- the times with no different one at or below them in both coordinates, ascending, each once
unfoldable pub least_of : List ℕ → List ℕ
unfolding keep insert_time any
least_of ts = foldr insert_time [] (keep (λ t. not (any (λ s. not (eqb s t) && at_or_below s t) ts)) ts)
