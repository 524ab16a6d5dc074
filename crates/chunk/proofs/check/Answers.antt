-- `chunk::check` meets its contract.
use Prim.Native.Nat.{ℕ}
use mathlib.Core.Path.{◌≡◌}
use mathlib.Core.Bool.{Bool, true}
use mathlib.Core.List.{List}
use Rattle.std.specs.Prelude.{Result, Ok}
use Rattle.std.proofs.lemmas.Result.{err_from_is_err_and}
use Rattle.chunk.specs.declared.Contents.{Contents}
use Rattle.chunk.specs.declared.Checked.{Checked}
use Rattle.chunk.specs.declared.Refusal.{Refusal}
use Rattle.chunk.specs.Words.{well_formed, settled}
use Rattle.chunk.specs.Contents.{contents_in}
use Rattle.chunk.specs.Check.{checked_of}
use Rattle.chunk.proofs.Placed.{laid_by, settles_by}
use Rattle.chunk.proofs.check.Goals as goal

accepted : (w : List ℕ) (n : Contents) (b : Bool) → n ≡ contents_in w → b ≡ settled w → well_formed w ≡ true → ◌≡◌ {A = Result Checked Refusal} (Ok (record { settled = b; contents = n })) (checked_of w)
unfolding checked_of
accepted w n b h l k = rw (k, l, h)

pub returns-in_err-contents : goal.returns-in_err-contents
unfolding checked_of
returns-in_err-contents c =
    let e = c.in_err-contents.ensures in
    let p = err_from_is_err_and c.from_residual.result c.from_residual.ensures.1 in
    rw (p.1, p.2) (simp (e.0, e.1))

pub returns : goal.returns
returns c =
    let e = c.in_ok-contents.ensures in
    let h = c.in_ok-contents.field-0 in
    accepted _ _ _ (rw e.0 at (laid_by h.contents h.words.now h.placed)) (rw e.0 at (settles_by h.contents h.words.now h.placed)) e.1
