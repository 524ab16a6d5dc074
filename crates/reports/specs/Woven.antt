-- Reports that name every item of two rising lists, each once and in the order of both together.
use Rattle.std.specs.Prelude.{ℕ, suc, ◌-◌, ◌<◌, ◌≤◌, Bool, true, not, ◌&&◌, ◌≡◌, List, [], ◌∷◌, length, get_or, take, drop}
use Rattle.chunk.specs.Entry.{Entry, every}
use Rattle.reports.specs.Survey.{Report, this, that, both}

-- what stands for an item that isn't there
abbrev pub no_entry : Entry
no_entry = record { key = 0; val = 0; time = 0; diff = 0 }

-- before the head of a list, if it has one
abbrev pub ahead : (Entry → Entry → Bool) → List Entry → Entry → Bool
ahead lt [] x = true
ahead lt (f ∷ fs) x = lt x f

-- from index i of the first and j of the second on: a run of one comes before what is left of the other, a shared item is the same in both
abbrev pub Woven : (Entry → Entry → Bool) → (Entry → Entry → Bool) → List Entry → List Entry → ℕ → ℕ → List Report → Type 0
Woven lt eq es fs i j [] = (i ≡ length es) × (j ≡ length fs)
Woven lt eq es fs i j (this l h ∷ rs) =
    (l ≡ i) × (l < h) × (h ≤ length es) × (every (ahead lt (drop j fs)) (take (h - l) (drop l es)) ≡ true) × Woven lt eq es fs h j rs
Woven lt eq es fs i j (that l h ∷ rs) =
    (l ≡ j) × (l < h) × (h ≤ length fs) × (every (ahead lt (drop i es)) (take (h - l) (drop l fs)) ≡ true) × Woven lt eq es fs i h rs
Woven lt eq es fs i j (both a b ∷ rs) =
    (a ≡ i) × (b ≡ j) × (i < length es) × (j < length fs) × (eq (get_or es i no_entry) (get_or fs j no_entry) ≡ true)
    × Woven lt eq es fs (suc i) (suc j) rs

-- shared lists are the same in both
abbrev pub Level : (Entry → Entry → Bool) → List Entry → List Entry → List Report → Type 0
Level same es fs [] = Unit {0}
Level same es fs (this l h ∷ rs) = Level same es fs rs
Level same es fs (that l h ∷ rs) = Level same es fs rs
Level same es fs (both i j ∷ rs) = (same (get_or es i no_entry) (get_or fs j no_entry) ≡ true) × Level same es fs rs

-- no two neighbours are alike
unfoldable pub apart : (Entry → Entry → Bool) → List Entry → Bool
apart same [] = true
apart same (a ∷ []) = true
apart same (a ∷ b ∷ es) = not (same a b) && apart same (b ∷ es)
