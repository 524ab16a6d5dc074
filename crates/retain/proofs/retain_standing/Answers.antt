-- `retain::retain_standing` meets its contract: by how many have a diff.
use Prim.Native.Nat.{ℕ}
use mathlib.Core.Path.{◌≡◌, sym, ◌∙◌, ap}
use mathlib.Core.Bool.{true}
use mathlib.Core.List.{List, []}
use native.Mathlib.Omega.{arith}
use lib.ListN.{length}
use Rattle.chunk.specs.Words.{well_formed, nd}
use Rattle.retain.specs.Keep.{all_times, retained_of}
use Rattle.retain.proofs.Picks.{retained_all}
use Rattle.retain.proofs.Retained.{stand_count}
use Rattle.retain.proofs.Whole.{whole_chunk, no_chunk}
use Rattle.retain.proofs.retain_standing.Goals as goal

counted : (w : List ℕ) (n : ℕ) → well_formed w ≡ true → n ≡ nd w → n ≡ length (retained_of all_times w)
counted w n f e = e ∙ sym (stand_count w f (λ i. true)) ∙ ap length (sym (retained_all w f []))

pub returns-then-nd-all : goal.returns-then-nd-all
returns-then-nd-all c =
    let h = c.args.chunk in
    let p = h.placed in
    let w = h.words.now in
    c.copy_into.ensures ∙ whole_chunk all_times w c.requires.0 c.args.out.now _ (sym (counted w h.contents.nd c.requires.0 p.diff_count) ∙ c.if-nd-all.true ∙ p.time_count) c.whole.ensures p.within c.requires.1

pub returns-then-nd-eq0 : goal.returns-then-nd-eq0
returns-then-nd-eq0 c =
    let h = c.args.chunk in
    let p = h.placed in
    let w = h.words.now in
    c.write_table.ensures ∙ no_chunk all_times w c.requires.0 c.args.out.now (sym (counted w h.contents.nd c.requires.0 p.diff_count) ∙ c.if-nd-eq0.true) (omega (arith, c.requires.1))

pub retain_items-requires : goal.retain_items-requires
retain_items-requires c =
    let h = c.args.chunk in
    record { formed = c.requires.0; room = c.requires.1; counted = (counted h.words.now h.contents.nd c.requires.0 h.placed.diff_count, c.lists_of.ensures) }
