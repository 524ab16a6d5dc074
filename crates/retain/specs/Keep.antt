-- Which records stay (document 01): of a filter all that have a diff; of an extract the open ones ("a time is open if some corner of the
-- frontier is at or below it in ignition AND in tick"), or the others.
use Rattle.std.specs.Prelude.{ℕ, Bool, true, not, ◌&&◌, List, get_or}
use Rattle.chunk.specs.Entry.{Entry}
use Rattle.chunk.specs.Words.{entries, val_end_body, time_end_body, time_body, diff_end_body}
use Rattle.retain.specs.declared.Keep.{Keep}
use Rattle.retain.specs.declared.Keep.TheVariants.{All, Open, Shut}
use Rattle.retain.specs.Frontier.{is_open}
use Rattle.retain.specs.Layers.{has_diff, ListsLeft}
use Rattle.laws.specs.Picked.{list_kept, pick}

-- every time
abbrev pub all_times : ℕ → Bool
all_times t = true

-- the times that are not open
abbrev pub is_shut : List ℕ → ℕ → Bool
is_shut corners t = not (is_open corners t)

-- whether a time stays, if it has a diff
abbrev pub keeps : Keep → ℕ → Bool
keeps All t = true
keeps (Open corners) t = is_open corners.times.now t
keeps (Shut corners) t = is_shut corners.times.now t

-- whether time i passes a test
abbrev pub time_passes : (ℕ → Bool) → List ℕ → ℕ → Bool
time_passes p times i = p (get_or times i 0)

-- whether it has a diff too
abbrev pub time_kept : (ℕ → Bool) → List ℕ → List ℕ → ℕ → Bool
time_kept p times diff_ends i = has_diff diff_ends i && time_passes p times i

-- the entries of a chunk that stay, by the test of their times
unfoldable pub retained_of : (ℕ → Bool) → List ℕ → List Entry
unfolding entries pick
retained_of p w = pick (time_kept p (time_body w) (diff_end_body w)) 0 (entries w)

-- how many keys and values of a chunk have an entry that stays
abbrev pub ListsOf : (ℕ → Bool) → List ℕ → ℕ → ℕ → Type 0
ListsOf p w k v = ListsLeft (list_kept (time_kept p (time_body w) (diff_end_body w)) (time_end_body w)) (val_end_body w) k v
