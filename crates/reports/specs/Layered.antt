-- Reports of the three layers of two lists of entries that lie under each other, and the bodies of the entries that the lowest of them name.
use Rattle.std.specs.Prelude.{◌≤◌, true, ◌≡◌, List, length}
use Rattle.chunk.specs.Entry.{Entry, same_list}
use Rattle.chunk.specs.Words.{limit}
use Rattle.chunk.specs.Bodies.{lasts_of, same_key, keys, vals, val_ends, time_ends}
use Rattle.reports.specs.Survey.{Report}
use Rattle.reports.specs.Write.{Inside, Under, items_by, entries_by, ends_by, widths}
use Rattle.reports.specs.Woven.{Level, apart}

-- reports of keys, of values and of times: each layer under the one above, shared lists the same in both, neighbouring lists unlike
pub record Layered (es fs : List Entry) (ks vs ts : List Report) : Type 0 where
  pub vals_under : Under (val_ends es) (val_ends fs) ks vs
  pub times_under : Under (time_ends es) (time_ends fs) vs ts
  pub keys_inside : Inside 0 (length (keys es)) 0 (length (keys fs)) ks
  pub vals_inside : Inside 0 (length (vals es)) 0 (length (vals fs)) vs
  pub keys_level : Level same_key (lasts_of same_key es) (lasts_of same_key fs) ks
  pub vals_level : Level same_list (lasts_of same_list es) (lasts_of same_list fs) vs
  pub keys-apart : apart same_key (items_by (lasts_of same_key es) (lasts_of same_key fs) ks) ≡ true
  pub vals-apart : apart same_list (items_by (lasts_of same_list es) (lasts_of same_list fs) vs) ≡ true
  pub few-vals : widths vs ≤ limit
  pub few-times : widths ts ≤ limit
  pub few0 : length es ≤ limit
  pub few1 : length fs ≤ limit

-- the bodies of the entries that the reports of times name are those that the reports of their own layers name
pub record BodiesBy (es fs : List Entry) (ks vs ts : List Report) : Type 0 where
  pub keys_by : keys (entries_by es fs ts) ≡ items_by (keys es) (keys fs) ks
  pub val_ends_by : val_ends (entries_by es fs ts) ≡ ends_by (val_ends es) (val_ends fs) 0 ks vs
  pub vals_by : vals (entries_by es fs ts) ≡ items_by (vals es) (vals fs) vs
  pub time_ends_by : time_ends (entries_by es fs ts) ≡ ends_by (time_ends es) (time_ends fs) 0 vs ts
