-- The first pass of `form`, which counts by tests alone: the pending entry is counted when another position comes after it, and two tests
-- say whether an entry with its key, and one with its key and value, was counted before it.
use Rattle.std.specs.Prelude.{ℕ, ◌+◌, ◌≤◌, Bool, false, cond, not, ◌&&◌, ◌||◌, List, [], ◌∷◌, ◌==◌}
use Rattle.chunk.specs.Entry.{Entry, same_list, same, stands}
use Rattle.sort.specs.Sort.{entry_of}
use Rattle.form.specs.declared.Sizes.{Sizes}
use Rattle.form.specs.declared.Tally.{Tally}
use Rattle.form.specs.Pass.{update_of, no_update, next_pending}

-- 1 where a test holds, else 0
abbrev pub bit : Bool → ℕ
bit b = cond b 1 0

-- nothing counted
abbrev pub no_sizes : Sizes
no_sizes = record { nk = 0; nv = 0; nt = 0 }

-- the start of the pass
abbrev pub no_tally : Tally
no_tally = record { sizes = no_sizes; pending = no_update; keyed = false; valued = false }

-- at most n of each
pub record Sized (n : ℕ) (s : Sizes) : Type 0 where
  pub keys : s.nk ≤ n
  pub vals : s.nv ≤ n
  pub times : s.nt ≤ n

-- the sizes with the pending entry, where it ends
abbrev pub sizes_after : Tally → Bool → Sizes
sizes_after t ends =
    record {
      nk = t.sizes.nk + bit (ends && not t.keyed);
      nv = t.sizes.nv + bit (ends && not t.valued);
      nt = t.sizes.nt + bit ends;
    }

-- a pending entry that stands ends at another position
abbrev pub ends_at : Entry → Entry → Bool
ends_at a b = not (same a b) && stands a

-- the pass after one update more
abbrev pub tallied : Tally → Entry → Tally
tallied t u =
    let a : Entry = entry_of t.pending in
    record {
      sizes = sizes_after t (ends_at a u);
      pending = update_of (next_pending a u);
      keyed = a.key == u.key && (t.keyed || ends_at a u);
      valued = same_list a u && (t.valued || ends_at a u);
    }

-- after all of these, with the entry that is pending then
unfoldable pub tally_from : Tally → List Entry → Sizes
tally_from t [] = sizes_after t (stands (entry_of t.pending))
tally_from t (e ∷ es) = tally_from (tallied t e) es
