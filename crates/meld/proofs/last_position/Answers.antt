-- `meld::last_position` meets its contract: each layer's last item is that of the entries' body.
use Rattle.std.proofs.Common.{ap, ◌∙◌}
use Rattle.meld.specs.Seam.{last_or_0, last_position}
use Rattle.meld.proofs.Read.{bodied}
use Rattle.meld.proofs.last_position.Goals as goal

pub returns : goal.returns
unfolding last_position
returns c =
    let b = bodied c.args.chunk.words.now c.requires in
    rw (
      c.last.ensures ∙ ap last_or_0 (c.keys.ensures ∙ b.keys_in),
      c.last-2.ensures ∙ ap last_or_0 (c.vals.ensures ∙ b.vals_in),
      c.last-3.ensures ∙ ap last_or_0 (c.times.ensures ∙ b.times_in),
    )
