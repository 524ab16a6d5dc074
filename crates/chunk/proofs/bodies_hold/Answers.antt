-- `chunk::bodies_hold` meets its contract: counts that no chunk has are refused, and else the bodies tell.
use Prim.Native.Nat.{◌≤◌}
use mathlib.Core.Path.{sym, ◌∙◌}
use native.Mathlib.Omega.{arith}
use borrow.Author.Tests.{leb-true}
use Rattle.chunk.specs.Words.{nt, limit}
use Rattle.chunk.proofs.Tests.{true-not-false}
use Rattle.chunk.proofs.WellFormed.{refuted}
use Rattle.chunk.proofs.bodies_hold.Goals.{then-found-gt-LIMIT-via-then-found-gt-LIMIT, then-found-gt-LIMIT-via-else-found-gt-LIMIT+then-not-all_or_none}
use Rattle.chunk.proofs.bodies_hold.Goals as goal

pub returns-then-found-gt-LIMIT : goal.returns-then-found-gt-LIMIT
returns-then-found-gt-LIMIT c =
    let w = c.args.chunk.words.now in
    let p = c.args.chunk.placed in
    elim c.then-found-gt-LIMIT.branch [
      | then-found-gt-LIMIT-via-then-found-gt-LIMIT v ↦ refuted w (λ q. let h : nt w ≤ limit = leb-true _ _ q.few in omega (arith, p.time_count))
      | then-found-gt-LIMIT-via-else-found-gt-LIMIT+then-not-all_or_none v ↦ refuted w (λ q. true-not-false (sym q.counts ∙ rw (sym p.key_count, sym p.val_count, sym p.time_count) (sym v.all_or_none.ensures ∙ v.if-not-all_or_none.true)))
    ]

pub level_holds-requires : goal.level_holds-requires
level_holds-requires c = (record { few = c.if-found-gt-LIMIT.false; alike = sym c.all_or_none.ensures ∙ c.if-not-all_or_none.false }, c.is_level.ensures c.if-is_level.true)

pub layers_hold-requires : goal.layers_hold-requires
layers_hold-requires c = record { few = c.if-found-gt-LIMIT.false; alike = sym c.all_or_none.ensures ∙ c.if-not-all_or_none.false }
