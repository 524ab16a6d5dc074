-- `chunk::places` meets its contract: by the test of the counts.
use mathlib.Core.Path.{◌∙◌, ap}
use Rattle.std.specs.Prelude.{Bool, cond}
use Rattle.chunk.specs.Contents.{layout_of, layout_near}
use Rattle.chunk.proofs.places.Goals as goal

pub returns-then-each_within-clause-value : goal.returns-then-each_within-clause-value
unfolding layout_near
returns-then-each_within-clause-value c = c.summed.ensures ∙ ap (λ (b : Bool). cond b (layout_of c.args.nk c.args.nv c.args.nt c.args.nd) (layout_of 0 0 0 0)) c.if-each_within.ensures

pub returns-clause-value : goal.returns-clause-value
unfolding layout_near
returns-clause-value c = c.summed-2.ensures ∙ ap (λ (b : Bool). cond b (layout_of c.args.nk c.args.nv c.args.nt c.args.nd) (layout_of 0 0 0 0)) c.if-each_within.ensures
