-- `meld::first_position` meets its contract: each layer's first item is that of the entries' body.
use Rattle.std.proofs.Common.{ap, ◌∙◌}
use Rattle.chunk.specs.Words.{head_or_0}
use Rattle.meld.specs.Seam.{first_position}
use Rattle.meld.proofs.Read.{bodied}
use Rattle.meld.proofs.first_position.Goals as goal

pub returns : goal.returns
unfolding first_position
returns c =
    let b = bodied c.args.chunk.words.now c.requires in
    rw (
      c.first.ensures ∙ ap head_or_0 (c.keys.ensures ∙ b.keys_in),
      c.first-2.ensures ∙ ap head_or_0 (c.vals.ensures ∙ b.vals_in),
      c.first-3.ensures ∙ ap head_or_0 (c.times.ensures ∙ b.times_in),
    )
