-- Each call's ordered tests, as its definition has them.
use Prim.Native.Nat.{ℕ, ◌+◌, ◌-◌, ◌/◌, ◌%◌}
use mathlib.Core.Path.{◌≡◌, refl}
use mathlib.Core.Bool.{not}
use mathlib.Core.List.{List, [], ◌∷◌}
use lib.Dec.{eqb, ltb}
use lib.ListN.{length, take}
use Rattle.chunk.specs.Entry.{every}
use Rattle.chunk.specs.Words.{entries, size, nk, nt, limit}
use Rattle.chunk.specs.Refusal.{Test, first, refuse, malformed, unsettled, empty}
use Rattle.sort.specs.Sort.{updates}
use Rattle.form.specs.Form.{falls, in_range, room, form_number, unsorted_number}
use Rattle.reports.specs.Merge.{Place, sound_at, overflows, scratch_room, merge_number, suffix_number}
use Rattle.reports.specs.Survey.{survey_number}
use Rattle.retain.specs.Frontier.{most, sound}
use Rattle.retain.specs.Cut.{filter_number}
use Rattle.split.specs.Cut.{split_number}
use Rattle.retain.specs.Extract.{frontier_of, extract_number}
use Rattle.meld.specs.Meld.{follows, meld_number}

abbrev pub form_tests : List ℕ → List ℕ → List Test
form_tests us out =
    refuse 1 (not (eqb (length us % 4) 0))
    ∷ refuse 2 (ltb limit (length us / 4))
    ∷ refuse 3 (falls (updates us))
    ∷ refuse 4 (not (every in_range (updates us)))
    ∷ refuse 13 (ltb (length out) (room us))
    ∷ []

pub form_first : (us out : List ℕ) → form_number us out ≡ first (form_tests us out)
unfolding form_number
form_first us out = refl

abbrev pub unsorted_tests : List ℕ → List ℕ → List Test
unsorted_tests us out =
    refuse 1 (not (eqb (length us % 4) 0))
    ∷ refuse 2 (ltb limit (length us / 4))
    ∷ refuse 4 (not (every in_range (updates us)))
    ∷ refuse 13 (ltb (length out) (room us))
    ∷ []

pub unsorted_first : (us out : List ℕ) → unsorted_number us out ≡ first (unsorted_tests us out)
unfolding unsorted_number
unsorted_first us out = refl

abbrev pub merge_tests : List ℕ → List ℕ → List ℕ → List ℕ → List Test
merge_tests a b scratch out =
    malformed a ∷ unsettled a ∷ empty a
    ∷ malformed b ∷ unsettled b ∷ empty b
    ∷ refuse 2 (ltb limit (nt a + nt b))
    ∷ refuse 12 (ltb (length scratch) (scratch_room a b))
    ∷ refuse 13 (ltb (length out) (size a + size b - 4))
    ∷ refuse 14 (overflows (entries a) (entries b))
    ∷ []

pub merge_first : (a b scratch out : List ℕ) → merge_number a b scratch out ≡ first (merge_tests a b scratch out)
unfolding merge_number
merge_first a b scratch out = refl

abbrev pub survey_tests : List ℕ → List ℕ → ℕ → List Test
survey_tests a b lent =
    malformed a ∷ unsettled a ∷ empty a
    ∷ malformed b ∷ unsettled b ∷ empty b
    ∷ refuse 12 (ltb lent (nk a + nk b))
    ∷ []

pub survey_first : (a b : List ℕ) (lent : ℕ) → survey_number a b lent ≡ first (survey_tests a b lent)
unfolding survey_number
survey_first a b lent = refl

abbrev pub filter_tests : List ℕ → List ℕ → List Test
filter_tests w out = malformed w ∷ refuse 13 (ltb (length out) (size w)) ∷ []

pub filter-first : (w out : List ℕ) → filter_number w out ≡ first (filter_tests w out)
unfolding filter_number
filter-first w out = refl

abbrev pub suffix_tests : Place → List ℕ → List ℕ → List Test
suffix_tests p w out =
    malformed w ∷ unsettled w ∷ empty w
    ∷ refuse 8 (not (sound_at (entries w) p))
    ∷ refuse 13 (ltb (length out) (size w))
    ∷ []

pub suffix_first : (p : Place) (w out : List ℕ) → suffix_number p w out ≡ first (suffix_tests p w out)
unfolding suffix_number
suffix_first p w out = refl

abbrev pub split_tests : List ℕ → List ℕ → List ℕ → List Test
split_tests w one two = malformed w ∷ unsettled w ∷ refuse 13 (ltb (length one) (size w)) ∷ refuse 13 (ltb (length two) (size w)) ∷ []

pub split_first_lem : (w one two : List ℕ) → split_number w one two ≡ first (split_tests w one two)
unfolding split_number
split_first_lem w one two = refl

abbrev pub extract_tests : ℕ → List ℕ → List ℕ → List ℕ → List ℕ → List Test
extract_tests count corners w kept shipped =
    refuse 9 (not (sound count corners))
    ∷ malformed w ∷ unsettled w
    ∷ refuse 13 (ltb (length kept) (size w)) ∷ refuse 13 (ltb (length shipped) (size w))
    ∷ refuse 10 (ltb most (length (frontier_of (take count corners) (entries w))))
    ∷ []

pub extract_first : (count : ℕ) (corners w kept shipped : List ℕ) → extract_number count corners w kept shipped ≡ first (extract_tests count corners w kept shipped)
unfolding extract_number
extract_first count corners w kept shipped = refl

abbrev pub meld_tests : List ℕ → List ℕ → List ℕ → List Test
meld_tests a b out =
    malformed a ∷ unsettled a ∷ malformed b ∷ unsettled b
    ∷ refuse 2 (ltb limit (nt a + nt b))
    ∷ refuse 11 (not (follows (entries a) (entries b)))
    ∷ refuse 13 (ltb (length out) (size a + size b - 4))
    ∷ []

pub meld_first : (a b out : List ℕ) → meld_number a b out ≡ first (meld_tests a b out)
unfolding meld_number
meld_first a b out = refl
