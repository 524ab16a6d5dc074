-- The walk's definitions at words that a reader can follow by hand.
use Prim.Native.Nat.{ℕ, ◌-◌, ◌^◌}
use mathlib.Core.Path.{◌≡◌, refl}
use mathlib.Core.List.{List, [], ◌∷◌}
use Rattle.chunk.specs.Entry.{Entry}
use Rattle.walk.specs.Walk.{done, refused, until, to_key, to_val, to_time, step, start}
use Rattle.walk.specs.Whole.{given, finished, walk}

abbrev entry : ℕ → ℕ → ℕ → ℕ → Entry
entry k v t d = record { key = k; val = v; time = t; diff = d }

-- chunk A of document 01
abbrev A : List ℕ
A =
    2 ∷ 3 ∷ 4 ∷ 4
    ∷ 7 ∷ 9
    ∷ 2 ∷ 3
    ∷ 3 ∷ 4 ∷ 3
    ∷ 2 ∷ 3 ∷ 4
    ∷ 4294967301 ∷ 4294967305 ∷ 8589934592 ∷ 4294967301
    ∷ 1 ∷ 2 ∷ 3 ∷ 4
    ∷ 1 ∷ 18446744073709551615 ∷ 1 ∷ 2
    ∷ []

four_then_done : walk 6 A (start A)
    ≡ given (entry 7 3 4294967301 1)
    ∷ given (entry 7 3 4294967305 18446744073709551615)
    ∷ given (entry 7 4 8589934592 1)
    ∷ given (entry 9 3 4294967301 2)
    ∷ finished
    ∷ finished
    ∷ []
unfolding walk step until to_key to_val to_time
four_then_done = refl

-- A merged with B: the second time has an empty diff list, and no record
abbrev merged : List ℕ
merged = 1 ∷ 2 ∷ 3 ∷ 2 ∷ 7 ∷ 2 ∷ 3 ∷ 4 ∷ 2 ∷ 3 ∷ 4294967301 ∷ 4294967305 ∷ 4294967296 ∷ 1 ∷ 1 ∷ 2 ∷ 1 ∷ 1 ∷ []

empty_list_skipped : walk 3 merged (start merged) ≡ given (entry 7 3 4294967301 1) ∷ given (entry 7 4 4294967296 1) ∷ finished ∷ []
unfolding walk step until to_key to_val to_time
empty_list_skipped = refl

-- one time and no diff: the first ends are there all the same, where the Rust starts from 0, 0, 0
abbrev undone : List ℕ
undone = 1 ∷ 1 ∷ 1 ∷ 0 ∷ 7 ∷ 1 ∷ 3 ∷ 1 ∷ 5 ∷ 0 ∷ []

start_without_diffs : start undone ≡ record { k = 0; v = 0; t = 0; d = 0; val_end = 1; time_end = 1; diff_end = 0 }
start_without_diffs = refl

-- indices at the top of 64 bits, which must move
abbrev top : ℕ
top = 2 ^ 64 - 1

never_wraps : step A (record { k = top; v = top; t = top; d = 0; val_end = 0; time_end = 0; diff_end = 0 }) ≡ refused
unfolding step until to_key to_val to_time
never_wraps = refl

-- done is said before anything is read
done_first : step A (record { k = top; v = top; t = top; d = 4; val_end = 0; time_end = 0; diff_end = 0 }) ≡ done
unfolding step until to_key to_val to_time
done_first = refl
