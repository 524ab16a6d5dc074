-- The yard examples of document 01 that are marked P, as theorems about the definitions that the promises cite.
use mathlib.Core.Path.{◌≡◌, refl}
use mathlib.Core.List.{[], ◌∷◌, ◌++◌, flat_map, zip_with}
use Rattle.chunk.specs.Entry.{keep, every}
use Rattle.chunk.specs.Bodies.{times, chunk_of, lasts_of, ends_of, diff_ends_from}
use Rattle.chunk.specs.Words.{entries, well_formed, lists, head_or_0, ends_rise, ends_step, rises, rises_from}
use Rattle.chunk.specs.Refusal.{first, written}
use Rattle.sort.specs.Sort.{updates}
use Rattle.form.specs.Form.{formed, consolidated, falls, form_number, form_out}
use Rattle.reports.specs.Merge.{merge_number, merge_out, merged, union, insert_add, last_or, overflows, overflows_at, survivor, the_first, place_at, suffix_number, suffix_out, sound_at}
use Rattle.retain.specs.Cut.{filter_number, filter_out}
use Rattle.split.specs.Cut.{split_number, split_first, split_rest}
use Rattle.retain.specs.Frontier.{is_open, any, ordered, sound, least_of, insert_time}
use Rattle.retain.specs.Extract.{kept_of, shipped_of, frontier_of, extract_number, kept_out, shipped_out, verdict, mixed}
use Rattle.meld.specs.Meld.{meld_number, follows, last_before}
use Rattle.ledger.specs.Yard.{four_updates, A, cancelling, none, two_updates, B, AB, clean_ab, survives_at, suffix_a, two_corners, one_corner, kept_a, shipped_a, five}

-- no updates give the empty chunk
pub form_none : form_out [] (five 4) ≡ none
unfolding form_out form_number written formed consolidated updates first falls every chunk_of lasts_of ends_of diff_ends_from keep
form_none = refl

-- +1 and −1 at one position give it too
pub form_cancelled : form_out cancelling (five 20) ≡ none ++ five 16
unfolding form_out form_number written formed consolidated updates first falls every chunk_of lasts_of ends_of diff_ends_from keep
form_cancelled = refl

-- A
pub form_A : form_out four_updates (five 32) ≡ A ++ five 6
unfolding form_out form_number written formed consolidated updates first falls every chunk_of lasts_of ends_of diff_ends_from keep
form_A = refl

-- B
pub form_B : form_out two_updates (five 18) ≡ B ++ five 2
unfolding form_out form_number written formed consolidated updates first falls every chunk_of lasts_of ends_of diff_ends_from keep
form_B = refl

-- A merged with B
pub merge_AB : merge_out A B (five 48) (five 40) ≡ AB ++ five 22
unfolding merge_out merge_number merged union insert_add last_or overflows overflows_at written entries chunk_of keep first well_formed ends_rise ends_step rises rises_from lists every head_or_0 flat_map zip_with lasts_of ends_of diff_ends_from
merge_AB = refl

-- A survives it
pub survivor-AB : survivor (entries A) (entries B) ≡ the_first survives_at
unfolding survivor place_at keep last_or lasts_of entries lists head_or_0 flat_map zip_with
survivor-AB = refl

-- the merge filtered
pub filter-AB : filter_out AB (five 18) ≡ clean_ab ++ five 2
unfolding filter_out filter_number written entries chunk_of keep first well_formed ends_rise ends_step rises rises_from lists every head_or_0 flat_map zip_with lasts_of ends_of diff_ends_from
filter-AB = refl

-- A's suffix from where it survives
pub suffix_A : suffix_out survives_at A (five 26) ≡ suffix_a ++ five 8
unfolding suffix_out suffix_number sound_at place_at written entries chunk_of keep first well_formed ends_rise ends_step rises rises_from lists every head_or_0 flat_map zip_with lasts_of ends_of diff_ends_from
suffix_A = refl

-- A extracted at two corners: the kept times
pub extract_kept : times (kept_of two_corners (entries A)) ≡ two_corners
unfolding kept_of is_open any keep entries lists head_or_0 flat_map zip_with
extract_kept = refl

-- and their frontier
pub extract_frontier : frontier_of two_corners (entries A) ≡ two_corners
unfolding frontier_of kept_of least_of insert_time is_open any keep entries lists head_or_0 flat_map zip_with
extract_frontier = refl

-- some kept, some shipped
pub extract_verdict : verdict two_corners (entries A) ≡ mixed
unfolding verdict kept_of shipped_of is_open any keep entries lists head_or_0 flat_map zip_with
extract_verdict = refl

-- the chunk of the kept
pub extract_kept_out : kept_out 2 (two_corners ++ five 126) A (five 26) (five 26) ≡ kept_a ++ five 10
unfolding kept_out kept_of extract_number sound ordered frontier_of least_of insert_time is_open any written entries chunk_of keep first well_formed ends_rise ends_step rises rises_from lists every head_or_0 flat_map zip_with lasts_of ends_of diff_ends_from
extract_kept_out = refl

-- and of the shipped
pub extract_shipped_out : shipped_out 2 (two_corners ++ five 126) A (five 26) (five 26) ≡ shipped_a ++ five 8
unfolding shipped_out shipped_of kept_of extract_number sound ordered frontier_of least_of insert_time is_open any written entries chunk_of keep first well_formed ends_rise ends_step rises rises_from lists every head_or_0 flat_map zip_with lasts_of ends_of diff_ends_from
extract_shipped_out = refl

-- at (1,9) alone only (1,9) is kept
pub extract_one_kept : times (kept_of one_corner (entries A)) ≡ one_corner
unfolding kept_of is_open any keep entries lists head_or_0 flat_map zip_with
extract_one_kept = refl

-- and (2,0) is shipped
pub extract_one_shipped : times (shipped_of one_corner (entries A)) ≡ 4294967301 ∷ 8589934592 ∷ 4294967301 ∷ []
unfolding shipped_of is_open any keep entries lists head_or_0 flat_map zip_with
extract_one_shipped = refl

-- A split at 4 is A
pub split_first_lem : split_first A 4 (five 26) (five 26) ≡ A
unfolding split_first split_number written entries chunk_of keep first well_formed ends_rise ends_step rises rises_from lists every head_or_0 flat_map zip_with lasts_of ends_of diff_ends_from
split_first_lem = refl

-- and the empty chunk
pub split_rest_lem : split_rest A 4 (five 26) (five 26) ≡ none ++ five 22
unfolding split_rest split_number written entries chunk_of keep first well_formed ends_rise ends_step rises rises_from lists every head_or_0 flat_map zip_with lasts_of ends_of diff_ends_from
split_rest_lem = refl

-- A melded with itself
pub meld_itself : meld_number A A (five 60) ≡ 11
unfolding meld_number follows last_before first well_formed ends_rise ends_step rises rises_from every entries lists head_or_0 flat_map zip_with
meld_itself = refl
