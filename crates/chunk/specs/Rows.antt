-- Keys with one value, one time and one diff each: each body has a word for each of them, and ends that count up.
use Rattle.std.specs.Prelude.{ℕ, ◌<◌, ◌≤◌, Bool, true, ◌≡◌, List, length}
use Rattle.chunk.specs.declared.Contents.{Contents}
use Rattle.chunk.specs.Words.{ends_rise, limit, all_or_none}

-- ends that rise to their own count, so that they are 1, 2 and so on
abbrev pub counts_up : List ℕ → Bool
counts_up ends = ends_rise 0 ends (length ends)

-- as many words in each body, and some
pub record Rows (keys val_ends time_ends diff_ends diffs : List ℕ) : Type 0 where
  pub some : 0 < length keys
  pub vals : length val_ends ≡ length keys
  pub times : length time_ends ≡ length keys
  pub ends : length diff_ends ≡ length keys
  pub changes : length diffs ≡ length keys

-- contents of as many keys, values, times and diffs, and some
pub record Level (c : Contents) : Type 0 where
  pub some : 0 < c.nk
  pub vals : c.nk ≡ c.nv
  pub times : c.nv ≡ c.nt
  pub diffs : c.nt ≡ c.nd

-- counts that a chunk can have
pub record Counted (c : Contents) : Type 0 where
  pub few : c.nt ≤ limit
  pub alike : all_or_none c.nk c.nv c.nt ≡ true
