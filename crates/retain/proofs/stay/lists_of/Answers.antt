-- `retain::stay::lists_of` meets its contract: the bodies are the chunk's.
use mathlib.Core.Path.{sym}
use mathlib.Core.Bool.{true}
use Rattle.retain.proofs.Retained.{its_bodies, standing_lists, rises_as}
use Rattle.retain.proofs.stay.lists_of.Goals as goal

pub count_lists-requires : goal.count_lists-requires
count_lists-requires c =
    let b = its_bodies c.args.chunk.words.now c.requires (λ i. true) in
    rw (c.diff_ends.ensures, c.time_ends.ensures, c.val_ends.ensures) (b.diffs_step, (rises_as _ _ _ b.over_times.rises (sym b.time_rows), rises_as _ _ _ b.over_vals.rises b.over_times.rows))

pub returns : goal.returns
returns c = standing_lists c.args.chunk.words.now c.requires _ _ (rw (c.diff_ends.ensures, c.time_ends.ensures, c.val_ends.ensures) at c.count_lists.ensures)
