-- Form (document 01): "Updates are four words each: key, value, time, diff. Diffs with equal (key, value, time) are added, zero sums
-- dropped, and the settled chunk written", with its refusals in the order 1, 2, 3, 4, 13, and the room 4 + 7 × updates.
use Rattle.std.specs.Prelude.{◌≡◌, ℕ, zero, suc, ◌+◌, ◌-◌, ◌*◌, ◌/◌, ◌%◌, ◌^◌, Bool, false, cond, not, ◌&&◌, ◌||◌, List, [], ◌∷◌, length, pos, negsuc, ◌==◌, int_le, nat_lt}
use Rattle.chunk.specs.Entry.{Entry, change, before, same, stands, every}
use Rattle.sort.specs.Sort.{updates, words_of, sort}
use Rattle.chunk.specs.Sums.{plus, with_diff}
use Rattle.chunk.specs.Words.{limit}
use Rattle.chunk.specs.Refusal.{first, refuse, written}

-- from a pending entry on: equal positions that follow each other added, zero sums dropped
unfoldable pub consolidated : Entry → List Entry → List Entry
consolidated a [] = cond (stands a) (a ∷ []) []
consolidated a (b ∷ es) =
    cond (same a b) (consolidated (with_diff a (plus a.diff b.diff)) es)
    (cond (stands a) (a ∷ consolidated b es) (consolidated b es))

-- the entries that updates form
unfoldable pub formed : List Entry → List Entry
unfolding consolidated
formed [] = []
formed (a ∷ es) = consolidated a es

-- a position falls somewhere
unfoldable pub falls : List Entry → Bool
falls [] = false
falls (a ∷ []) = false
falls (a ∷ b ∷ es) = before b a || falls (b ∷ es)

-- a diff from −2^40 to 2^40
abbrev pub in_range : Entry → Bool
in_range e = int_le (negsuc (2 ^ 40 - 1)) (change e.diff) && int_le (change e.diff) (pos (2 ^ 40))

-- the room asked of the output, whatever the data
abbrev pub room : List ℕ → ℕ
room us = 4 + 7 * (length us / 4)

-- the number of `form`: the first test that fails, 0 where none does
unfoldable pub form_number : List ℕ → List ℕ → ℕ
unfolding first falls every updates
form_number us out =
    first (
    refuse 1 (not (length us % 4 == 0))
    ∷ refuse 2 (nat_lt limit (length us / 4))
    ∷ refuse 3 (falls (updates us))
    ∷ refuse 4 (not (every in_range (updates us)))
    ∷ refuse 13 (nat_lt (length out) (room us))
    ∷ [])

-- what `form` leaves in the output
unfoldable pub form_out : List ℕ → List ℕ → List ℕ
unfolding form_number written formed updates
form_out us out = written (form_number us out) (formed (updates us)) out

-- the number of `form_unsorted`, which takes updates in any order
unfoldable pub unsorted_number : List ℕ → List ℕ → ℕ
unfolding first every updates
unsorted_number us out =
    first (
    refuse 1 (not (length us % 4 == 0))
    ∷ refuse 2 (nat_lt limit (length us / 4))
    ∷ refuse 4 (not (every in_range (updates us)))
    ∷ refuse 13 (nat_lt (length out) (room us))
    ∷ [])

-- what `form_unsorted` leaves in the output
unfoldable pub unsorted_out : List ℕ → List ℕ → List ℕ
unfolding unsorted_number written formed sort updates
unsorted_out us out = written (unsorted_number us out) (formed (sort (updates us))) out

-- the new words where a call is accepted, the old ones where it is refused
abbrev pub kept : ℕ → List ℕ → List ℕ → List ℕ
kept zero new us = new
kept (suc n) new us = us

-- the lent updates afterwards: sorted by key, value, time, then signed diff where the call is accepted
unfoldable pub unsorted_updates : List ℕ → List ℕ → List ℕ
unfolding unsorted_number sort updates words_of
unsorted_updates us out = kept (unsorted_number us out) (words_of (sort (updates us))) us

-- what `form` answers and leaves in `out`
pub record FormAnswers (us out : List ℕ) (r : ℕ) (after : List ℕ) : Type 0 where
  pub number : r ≡ form_number us out
  pub written : after ≡ form_out us out

-- what `form_unsorted` answers and leaves in `out` and in its updates
pub record UnsortedAnswers (us out : List ℕ) (r : ℕ) (after out_after : List ℕ) : Type 0 where
  pub number : r ≡ unsorted_number us out
  pub kept : after ≡ unsorted_updates us out
  pub written : out_after ≡ unsorted_out us out
