-- Merge with its zero filter and the survivor's suffix, in one call: it is those three (document 01, "Merge", "Filter", "Suffix"). The first
-- refusal ends it; what the parts accepted before it wrote stays.
use Rattle.std.specs.Prelude.{ℕ, zero, suc, ◌≡◌, List}
use Rattle.chunk.specs.Words.{entries}
use Rattle.merge.specs.declared.Survivor.{Survivor}
use Rattle.merge.specs.declared.Survivor.TheVariants.{Nobody, First, Second}
use Rattle.reports.specs.Merge.{Survives, nobody, the_first, the_second, survivor, merge_number, merge_out, suffix_number, suffix_out}
use Rattle.merge.specs.Outcome.{Joined, answer_by}
use Rattle.merge.specs.Suffix.{place_of}
use Rattle.reports.specs.Refusals.{Refused}
use Rattle.retain.specs.Cut.{filter_number, filter_out}

-- one part's number, and the next one's where it is 0
abbrev pub and_then : ℕ → ℕ → ℕ
and_then zero n = n
and_then (suc m) n = suc m

-- what a slice holds, where the parts before are accepted, and where one is refused
abbrev pub once_done : ℕ → List ℕ → List ℕ → List ℕ
once_done zero new old = new
once_done (suc n) new old = old

-- ---- the survivor's suffix

-- its number; nobody has none to refuse
unfoldable pub rest_number : Survives → List ℕ → List ℕ → List ℕ → ℕ
rest_number nobody a b rest = 0
rest_number (the_first p) a b rest = suffix_number p a rest
rest_number (the_second p) a b rest = suffix_number p b rest

-- what its output holds afterwards; nobody's is as it was
unfoldable pub rest_out : Survives → List ℕ → List ℕ → List ℕ → List ℕ
rest_out nobody a b rest = rest
rest_out (the_first p) a b rest = suffix_out p a rest
rest_out (the_second p) a b rest = suffix_out p b rest

-- who survives, as the call said it
abbrev pub survives_of : Survivor → Survives
survives_of Nobody = nobody
survives_of (First c) = the_first (place_of c)
survives_of (Second c) = the_second (place_of c)

-- ---- the three

-- who survives the merge
abbrev pub survives : List ℕ → List ℕ → Survives
survives a b = survivor (entries a) (entries b)

-- the number: the merge's, else the filter's of what the merge wrote, else the suffix's
unfoldable pub whole_number : List ℕ → List ℕ → List ℕ → List ℕ → List ℕ → List ℕ → ℕ
unfolding rest_number
whole_number a b scratch out clean rest =
    and_then (merge_number a b scratch out)
    (and_then (filter_number (merge_out a b scratch out) clean) (rest_number (survives a b) a b rest))

-- what the filter's output holds afterwards
unfoldable pub clean_out : List ℕ → List ℕ → List ℕ → List ℕ → List ℕ → List ℕ
clean_out a b scratch out clean = once_done (merge_number a b scratch out) (filter_out (merge_out a b scratch out) clean) clean

-- and the suffix's
unfoldable pub left_out : List ℕ → List ℕ → List ℕ → List ℕ → List ℕ → List ℕ → List ℕ
unfolding rest_out
left_out a b scratch out clean rest =
    once_done (and_then (merge_number a b scratch out) (filter_number (merge_out a b scratch out) clean)) (rest_out (survives a b) a b rest) rest

-- the answer and the three outputs; and the scratch afterwards, which a refusal of the merge other than 14 leaves as it was
pub record WholeAnswers (a b scratch out clean rest : List ℕ) (answer : Joined) (after cleaned left used : List ℕ) : Type 0 where
  pub answers : answer ≡ answer_by (whole_number a b scratch out clean rest) (survives a b)
  pub merges : after ≡ merge_out a b scratch out
  pub filters : cleaned ≡ clean_out a b scratch out clean
  pub leaves : left ≡ left_out a b scratch out clean rest
  pub untouched : Refused (merge_number a b scratch out) → used ≡ scratch
