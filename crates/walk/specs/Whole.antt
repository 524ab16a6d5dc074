-- A whole walk (document 01, "Walk"): it gives the records one by one, then says done and stays.
use Rattle.std.specs.Prelude.{ℕ, zero, suc, ◌-◌, true, ◌≡◌, List, [], ◌∷◌, ◌++◌, map, length, take, replicate}
use Rattle.chunk.specs.Entry.{Entry, stands, keep}
use Rattle.chunk.specs.Words.{well_formed, entries}
use Rattle.walk.specs.Walk.{Place, Went, gave, done, refused, step, start}

-- what a step says, its place left out
pub data Said : Type 0 where
  given : Entry → Said
  finished : Said
  malformed : Said

-- the same of each answer
abbrev pub said : Went → Said
said (gave e p) = given e
said done = finished
said refused = malformed

-- where the walker is after a step: done and a refusal leave it where it was
abbrev pub after : Place → Went → Place
after p (gave e q) = q
after p done = p
after p refused = p

-- what n steps say, one after another
unfoldable pub walk : ℕ → List ℕ → Place → List Said
walk zero w p = []
walk (suc n) w p = said (step w p) ∷ walk n w (after p (step w p))

-- the records of a chunk: its entries that have a diff
abbrev pub records : List ℕ → List Entry
records w = keep stands (entries w)

-- from the start of a chunk that is well formed, however many steps are taken: first its records, all of them and in order, and
-- then done each time
abbrev pub WalkGivesRecords : Type 0
WalkGivesRecords =
    (w : List ℕ) → well_formed w ≡ true → (n : ℕ)
    → walk n w (start w) ≡ take n (map given (records w)) ++ replicate (n - length (records w)) finished
