use Rattle.std.proofs.Common.{◌≡◌, refl, ◌∙◌}
use Rattle.reports.specs.Scratch.{placed}
use Rattle.merge.proofs.Suffixing.{left_words, left_weft, left-written}
use Rattle.merge.proofs.write_suffix.Goals as goal

pub write_from_surveys-requires : goal.write_from_surveys-requires
unfolding placed
write_from_surveys-requires c =
    let e : c.write-3.new.scratch ≡ left_words c.args.chunk.contents c.args.cursor = c.write-3.ensures ∙ rw (c.this-3.ensures, c.write-2.ensures, c.this-2.ensures, c.write.ensures, c.this.ensures) refl in
    rw e (left_weft _ _ _ _ c.requires _ refl)

pub returns : goal.returns
unfolding placed
returns c =
    let e : c.write-3.new.scratch ≡ left_words c.args.chunk.contents c.args.cursor = c.write-3.ensures ∙ rw (c.this-3.ensures, c.write-2.ensures, c.this-2.ensures, c.write.ensures, c.this.ensures) refl in
    left-written _ _ _ _ c.requires _ (rw e at c.write_from_surveys.ensures)
