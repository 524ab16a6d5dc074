-- Survey (document 01), key layer: how two rising lists of keys interleave.
use Rattle.std.specs.Prelude.{ℕ, zero, suc, ◌+◌, cond, List, [], ◌∷◌, ltb, eqb, length, drop}
use Rattle.chunk.specs.Words.{nk}
use Rattle.chunk.specs.Refusal.{first, refuse, malformed, unsettled, empty}

-- a run of one input's keys, the "to" excluded, or a shared key's two indices
pub data Report : Type 0 where
  this : ℕ → ℕ → Report
  that : ℕ → ℕ → Report
  both : ℕ → ℕ → Report

-- how many from the front are below x
unfoldable pub below : ℕ → List ℕ → ℕ
below x [] = 0
below x (a ∷ l) = cond (ltb a x) (suc (below x l)) 0

-- one run of all that is left of one input, if anything is
unfoldable pub rest_of : (ℕ → ℕ → Report) → ℕ → List ℕ → List Report
rest_of side i [] = []
rest_of side i (a ∷ l) = side i (i + length (a ∷ l)) ∷ []

-- from index i of the first and j of the second; the first number is how many reports there can be at most
unfoldable pub reports_from : ℕ → ℕ → ℕ → List ℕ → List ℕ → List Report
unfolding below rest_of
reports_from zero i j xs ys = []
reports_from (suc n) i j [] ys = rest_of that j ys
reports_from (suc n) i j (x ∷ xs) [] = rest_of this i (x ∷ xs)
reports_from (suc n) i j (x ∷ xs) (y ∷ ys) =
    cond (eqb x y) (both i j ∷ reports_from n (suc i) (suc j) xs ys)
    (cond (ltb x y)
    (this i (i + below y (x ∷ xs)) ∷ reports_from n (i + below y (x ∷ xs)) j (drop (below y (x ∷ xs)) (x ∷ xs)) (y ∷ ys))
    (that j (j + below x (y ∷ ys)) ∷ reports_from n i (j + below x (y ∷ ys)) (x ∷ xs) (drop (below x (y ∷ ys)) (y ∷ ys))))

-- the reports of two lists, from their fronts on
unfoldable pub reports : List ℕ → List ℕ → List Report
unfolding reports_from
reports xs ys = reports_from (length xs + length ys) 0 0 xs ys

-- 5, 6, 7 for each, then 12
unfoldable pub survey_number : List ℕ → List ℕ → ℕ → ℕ
unfolding first
survey_number a b lent =
    first (
    malformed a ∷ unsettled a ∷ empty a
    ∷ malformed b ∷ unsettled b ∷ empty b
    ∷ refuse 12 (ltb lent (nk a + nk b))
    ∷ [])
