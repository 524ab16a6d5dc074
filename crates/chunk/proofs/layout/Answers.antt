-- `chunk::layout` meets its contract: by the test of the counts.
use mathlib.Core.Path.{◌∙◌, ap}
use Rattle.std.specs.Prelude.{Bool, Some}
use Rattle.chunk.specs.Contents.{layout_of, layout_within, where_true}
use Rattle.chunk.proofs.layout.Goals as goal

pub returns-then-each_within : goal.returns-then-each_within
unfolding layout_within
returns-then-each_within c = ap Some c.summed.ensures ∙ ap (λ (b : Bool). where_true b (layout_of c.args.nk c.args.nv c.args.nt c.args.nd)) c.if-each_within.ensures

pub returns : goal.returns
unfolding layout_within
returns c = ap (λ (b : Bool). where_true b (layout_of c.args.nk c.args.nv c.args.nt c.args.nd)) c.if-each_within.ensures
