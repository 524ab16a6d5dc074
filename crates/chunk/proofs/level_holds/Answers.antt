-- `chunk::level_holds` meets its contract: a chunk whose contents are level is well formed where its rows hold.
use mathlib.Core.Path.{◌∙◌}
use Rattle.chunk.proofs.Rowing.{level_rows, level_well}
use Rattle.chunk.proofs.level_holds.Goals as goal

pub rows_hold-requires : goal.rows_hold-requires
rows_hold-requires c =
    let h = c.args.chunk in
    rw (c.keys.ensures, c.val_ends.ensures, c.time_ends.ensures, c.diff_ends.ensures, c.diffs.ensures) (level_rows h.contents h.words.now h.placed c.requires.0 c.requires.1)

pub returns : goal.returns
returns c =
    let h = c.args.chunk in
    c.rows_hold.ensures ∙ rw (c.keys.ensures, c.val_ends.ensures, c.time_ends.ensures, c.diff_ends.ensures, c.diffs.ensures) (level_well h.contents h.words.now h.placed c.requires.0 c.requires.1)
