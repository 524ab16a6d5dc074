-- A walk over any words with any walker, as the Rust's three loops go on whole numbers (document 01, "Walk"): a step moves the
-- indices until each stands inside its list, and gives the record there.
use Rattle.std.specs.Prelude.{ℕ, zero, suc, Bool, cond, ◌&&◌, List, ltb, length, get_or}
use Rattle.chunk.specs.Entry.{Entry}
use Rattle.chunk.specs.Words.{nk, nv, nt, nd, table_fits, key_body, val_end_body, val_body, time_end_body, time_body, diff_end_body, diff_body}

-- the four indices, and the ends of the lists that v, t and d stand in
pub record Place : Type 0 where
  pub k : ℕ
  pub v : ℕ
  pub t : ℕ
  pub d : ℕ
  pub val_end : ℕ
  pub time_end : ℕ
  pub diff_end : ℕ

-- what a step says: a record and where the walker then is; done; or 5
pub data Went : Type 0 where
  gave : Entry → Place → Went
  done : Went
  refused : Went

-- where a move leads, or that it must read past the end of a body
pub data Moved : Type 0 where
  moved : Place → Moved
  past : Moved

-- one move after another, unless the first went past
abbrev pub and_then : Moved → (Place → Moved) → Moved
and_then (moved p) f = f p
and_then past f = past

-- turns until the place is inside, n of them at most
unfoldable pub until : ℕ → (Place → Bool) → (Place → Moved) → Place → Moved
until zero inside turn p = cond (inside p) (moved p) past
until (suc n) inside turn p = cond (inside p) (moved p) (and_then (turn p) (until n inside turn))

-- the place with another key, and the end of its values
abbrev pub at_key : Place → ℕ → ℕ → Place
at_key p k val_end = record { k = k; v = p.v; t = p.t; d = p.d; val_end = val_end; time_end = p.time_end; diff_end = p.diff_end }

-- the place with another end of a value's times
abbrev pub with_time_end : Place → ℕ → Place
with_time_end p e = record { k = p.k; v = p.v; t = p.t; d = p.d; val_end = p.val_end; time_end = e; diff_end = p.diff_end }

-- the place with another end of a time's diffs
abbrev pub with_diff_end : Place → ℕ → Place
with_diff_end p e = record { k = p.k; v = p.v; t = p.t; d = p.d; val_end = p.val_end; time_end = p.time_end; diff_end = e }

-- the next value
abbrev pub val_on : Place → Place
val_on p = record { k = p.k; v = suc p.v; t = p.t; d = p.d; val_end = p.val_end; time_end = p.time_end; diff_end = p.diff_end }

-- the next time
abbrev pub time_on : Place → Place
time_on p = record { k = p.k; v = p.v; t = suc p.t; d = p.d; val_end = p.val_end; time_end = p.time_end; diff_end = p.diff_end }

-- the next diff
abbrev pub diff_on : Place → Place
diff_on p = record { k = p.k; v = p.v; t = p.t; d = suc p.d; val_end = p.val_end; time_end = p.time_end; diff_end = p.diff_end }

-- whether v stands before the end of its key's values
abbrev pub in_key : Place → Bool
in_key p = ltb p.v p.val_end

-- whether t stands before the end of its value's times
abbrev pub in_val : Place → Bool
in_val p = ltb p.t p.time_end

-- whether d stands before the end of its time's diffs
abbrev pub in_time : Place → Bool
in_time p = ltb p.d p.diff_end

-- the next key, and the end of its values
abbrev pub next_key : List ℕ → Place → Moved
next_key val_ends p = cond (ltb (suc p.k) (length val_ends)) (moved (at_key p (suc p.k) (get_or val_ends (suc p.k) 0))) past

-- keys on, until v stands in the key's list. A turn takes the next end, so there are no more turns than ends; and so below
unfoldable pub to_key : List ℕ → Place → Moved
unfolding until
to_key val_ends p = until (length val_ends) in_key (next_key val_ends) p

-- the end of value v's times
abbrev pub read_time_end : List ℕ → Place → Moved
read_time_end time_ends p = cond (ltb p.v (length time_ends)) (moved (with_time_end p (get_or time_ends p.v 0))) past

-- the end of time t's diffs
abbrev pub read_diff_end : List ℕ → Place → Moved
read_diff_end diff_ends p = cond (ltb p.t (length diff_ends)) (moved (with_diff_end p (get_or diff_ends p.t 0))) past

-- the next value, in its key, and the end of its times
abbrev pub next_val : List ℕ → List ℕ → Place → Moved
next_val val_ends time_ends p = and_then (to_key val_ends (val_on p)) (read_time_end time_ends)

-- values on, until t stands in the value's list
unfoldable pub to_val : List ℕ → List ℕ → Place → Moved
unfolding until to_key
to_val val_ends time_ends p = until (length time_ends) in_val (next_val val_ends time_ends) p

-- the next time, in its value, and the end of its diffs
abbrev pub next_time : List ℕ → List ℕ → List ℕ → Place → Moved
next_time val_ends time_ends diff_ends p = and_then (to_val val_ends time_ends (time_on p)) (read_diff_end diff_ends)

-- times on, until d stands in the time's list
unfoldable pub to_time : List ℕ → List ℕ → List ℕ → Place → Moved
unfolding until to_val
to_time val_ends time_ends diff_ends p = until (length diff_ends) in_time (next_time val_ends time_ends diff_ends) p

-- whether there is a record at these indices
abbrev pub in_bodies : List ℕ → Place → Bool
in_bodies w p = ltb p.k (nk w) && (ltb p.v (nv w) && (ltb p.t (nt w) && ltb p.d (nd w)))

-- the record at these indices
abbrev pub record_at : List ℕ → Place → Entry
record_at w p =
    record {
      key = get_or (key_body w) p.k 0;
      val = get_or (val_body w) p.v 0;
      time = get_or (time_body w) p.t 0;
      diff = get_or (diff_body w) p.d 0;
    }

-- the record where the moves led
abbrev pub read : List ℕ → Moved → Went
read w past = refused
read w (moved p) = cond (in_bodies w p) (gave (record_at w p) (diff_on p)) refused

-- one step: done where the diff index is at or past nd, before anything is read
unfoldable pub step : List ℕ → Place → Went
unfolding to_time
step w p =
    cond (table_fits w)
    (cond (ltb p.d (nd w)) (read w (to_time (val_end_body w) (time_end_body w) (diff_end_body w) p)) done)
    refused

-- all indices 0, with the end of each body's list 0, or 0 where there is none
abbrev pub start : List ℕ → Place
start w = record { k = 0; v = 0; t = 0; d = 0; val_end = get_or (val_end_body w) 0 0; time_end = get_or (time_end_body w) 0 0; diff_end = get_or (diff_end_body w) 0 0 }
