-- `split::ranges::retain_cut` meets its contract: by how long the range is.
use Prim.Native.Nat.{ℕ, ◌<◌, ◌≤◌}
use mathlib.Core.Path.{◌≡◌, refl, sym, ◌∙◌, ap}
use mathlib.Core.List.{List}
use native.Mathlib.Omega.{arith}
use Rattle.chunk.specs.Entry.{Entry}
use Rattle.chunk.specs.Bodies.{chunk_of}
use Rattle.chunk.specs.Words.{entries, over, size}
use Rattle.laws.specs.Picked.{part}
use Rattle.laws.proofs.Whole.{of_none}
use Rattle.meld.specs.Copy.{copied}
use Rattle.meld.proofs.Copy.{copied_chunk}
use Rattle.split.proofs.Cuts.{part-all, part_none}
use Rattle.split.proofs.ranges.retain_cut.Goals as goal

apart : (a b : ℕ) → a ≤ b → (a ≡ b → ⊥) → a < b
apart a b h n = omega (arith, n)

pub returns-then-range : goal.returns-then-range
returns-then-range c =
    let r = c.args.range in
    let es = part r.lower r.upper (entries c.args.chunk.words.now) in
    c.write_table.ensures ∙ of_none es c.args.out.now (part_none r.lower r.upper (entries c.args.chunk.words.now) c.if-range.true) (omega (arith, c.requires.lower_le_upper.1.1))

pub returns-then-range-chunk : goal.returns-then-range-chunk
returns-then-range-chunk c =
    let r = c.args.range in
    let p = c.args.chunk.placed in
    let w = c.args.chunk.words.now in
    let f = c.requires.words_value.0 in
    let within = c.requires.lower_le_upper in
    c.copy_into.ensures ∙ ap (copied c.args.out.now) c.whole.ensures
    ∙ copied_chunk w f c.args.out.now (size w) refl p.within within.1.1
    ∙ ap (λ (es : List Entry). over (chunk_of es) c.args.out.now) (sym (part-all w f r.lower r.upper c.args.chunk.contents.nt p.time_count c.if-range-chunk.true within.1.0 (apart _ _ within.0 c.if-range.false)))
