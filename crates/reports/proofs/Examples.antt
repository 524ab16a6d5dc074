-- The yard examples of merge and suffix hold by computation.
use mathlib.Core.Path.{refl}
use Rattle.reports.specs.Merge.{merge_number, merge_out, survivor, insert_add, suffix_number, suffix_out}
use Rattle.chunk.specs.Words.{entries, well_formed}
use Rattle.chunk.specs.Bodies.{chunk_of, lasts_of, ends_of, diff_ends_from}
use Rattle.chunk.specs.Entry.{keep}
use Rattle.reports.specs.Examples.{MergedAB, SuffixA}

pub merged_a_b : MergedAB
unfolding merge_number merge_out survivor insert_add entries well_formed chunk_of lasts_of ends_of diff_ends_from keep
merged_a_b = record { number = refl; out = refl; survives = refl }

pub suffix_example : SuffixA
unfolding suffix_number suffix_out entries well_formed chunk_of lasts_of ends_of diff_ends_from keep
suffix_example = record { number = refl; out = refl }
