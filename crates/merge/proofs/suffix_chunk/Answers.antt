use Rattle.std.proofs.Common.{◌≡◌, sym, ap, ◌∙◌, arith}
use Rattle.std.proofs.lemmas.Result.{err_from_is_err_and}
use Rattle.chunk.specs.Words.{size}
use Rattle.reports.proofs.Refusing.{not_taken, not_sound, no_room, taken}
use Rattle.merge.proofs.Clauses.{value-out_after}
use Rattle.merge.proofs.Lent.{read_by}
use Rattle.merge.proofs.suffix_chunk.Goals as goal

pub returns-in_err-chunk : goal.returns-in_err-chunk
returns-in_err-chunk c =
    let p = err_from_is_err_and c.from_residual.result c.from_residual.ensures.1 in
    rw (p.1, p.2) (value-out_after (not_taken _ _ _ _ c.in_err-chunk.ensures))

pub sound_at-requires : goal.sound_at-requires
sound_at-requires c = let e = c.in_ok-chunk.ensures in rw e.0 (read_by _ _ _ c.in_ok-chunk.chunk.placed e.0 e.1)

pub returns-then-not-sound_at : goal.returns-then-not-sound_at
returns-then-not-sound_at c =
    let e = c.in_ok-chunk.ensures in
    value-out_after (not_sound _ _ _ e.1 e.2 (λ z. absurd (omega (arith, e.3, z))) (rw e.0 at (sym c.sound_at.ensures ∙ c.if-not-sound_at.true)))

pub returns-then-out-chunk : goal.returns-then-out-chunk
returns-then-out-chunk c =
    let e = c.in_ok-chunk.ensures in
    let z : c.in_ok-chunk.chunk.contents.size ≡ size c.args.words.now = c.in_ok-chunk.chunk.placed.sized ∙ ap size e.0 in
    value-out_after (no_room _ _ _ e.1 e.2 (λ z. absurd (omega (arith, e.3, z))) (rw e.0 at (sym c.sound_at.ensures ∙ c.if-not-sound_at.false)) (rw z at c.if-out-chunk.true))

pub write_suffix-requires : goal.write_suffix-requires
write_suffix-requires c =
    let e = c.in_ok-chunk.ensures in
    let z : c.in_ok-chunk.chunk.contents.size ≡ size c.args.words.now = c.in_ok-chunk.chunk.placed.sized ∙ ap size e.0 in
    rw e.0 (record { chunk = read_by _ _ _ c.in_ok-chunk.chunk.placed e.0 e.1; settles = e.2; sound = rw e.0 at (sym c.sound_at.ensures ∙ c.if-not-sound_at.false); room = rw z at c.if-out-chunk.false })

pub returns : goal.returns
returns c =
    let e = c.in_ok-chunk.ensures in
    let z : c.in_ok-chunk.chunk.contents.size ≡ size c.args.words.now = c.in_ok-chunk.chunk.placed.sized ∙ ap size e.0 in
    value-out_after (taken _ _ _ _ e.1 e.2 (λ z. absurd (omega (arith, e.3, z))) (rw e.0 at (sym c.sound_at.ensures ∙ c.if-not-sound_at.false)) (rw z at c.if-out-chunk.false) (rw e.0 at c.write_suffix.ensures))
