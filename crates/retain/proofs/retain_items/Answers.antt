-- `retain::retain_items` meets its contract: the bodies are the chunk's, and what is written of them is the chunk of what stays.
use mathlib.Core.Path.{◌∙◌, ap}
use mathlib.Core.Bool.{true}
use mathlib.Core.List.{List}
use Prim.Native.Nat.{ℕ}
use Rattle.chunk.specs.Words.{over}
use Rattle.retain.specs.Keep.{keeps, time_kept}
use Rattle.retain.specs.Layers.{layers_out}
use Rattle.retain.proofs.Retained.{its_bodies, left_in, written_of}
use Rattle.retain.proofs.retain_items.Goals as goal

pub invariant_of-source : goal.invariant_of-source
invariant_of-source c =
    record { together = rw (c.keys.ensures, c.val_ends.ensures, c.vals.ensures, c.time_ends.ensures, c.times.ensures, c.diff_ends.ensures, c.diffs.ensures) (its_bodies c.args.chunk.words.now c.requires.formed (λ i. true)) }

pub write_bodies-requires-clause-left : goal.write_bodies-requires-clause-left
write_bodies-requires-clause-left c =
    let q = c.requires in
    rw (c.keys.ensures, c.val_ends.ensures, c.vals.ensures, c.time_ends.ensures, c.times.ensures, c.diff_ends.ensures) ((left_in c.args.chunk.words.now q.formed (keeps c.args.keep) _ _ _ _ q.counted.1 q.counted.0 q.room).0)

pub write_bodies-requires-clause-room : goal.write_bodies-requires-clause-room
write_bodies-requires-clause-room c = let q = c.requires in (left_in c.args.chunk.words.now q.formed (keeps c.args.keep) _ _ _ _ q.counted.1 q.counted.0 q.room).1

pub returns : goal.returns
returns c =
    let a = c.args in
    let q = c.requires in
    c.write_bodies.ensures
    ∙ (λ j. over (layers_out (time_kept (keeps a.keep) (c.times.ensures j) (c.diff_ends.ensures j)) (c.keys.ensures j) (c.val_ends.ensures j) (c.vals.ensures j) (c.time_ends.ensures j) (c.times.ensures j) (c.diff_ends.ensures j) (c.diffs.ensures j) a.lists.keys a.lists.vals a.nt) a.out.now)
    ∙ ap (λ (x : List ℕ). over x c.args.out.now) (written_of c.args.chunk.words.now q.formed (keeps c.args.keep) _ _ _ q.counted.1 q.counted.0)
