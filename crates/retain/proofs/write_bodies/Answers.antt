-- `retain::write_bodies` meets its contract: the layers stand behind the table.
use Prim.Native.Nat.{ℕ, ◌+◌}
use mathlib.Core.Path.{sym, ◌∙◌, ap}
use native.Mathlib.Omega.{arith}
use Rattle.chunk.specs.Contents.{table_of}
use Rattle.laws.proofs.Parts.{out_cuts, whole_size, table_front, put_one}
use Rattle.retain.proofs.Weaving.{length-bodies_out}
use Rattle.retain.proofs.write_bodies.Goals as goal

pub returns : goal.returns
returns c =
    let a = c.args in
    let f = c.requires.left in
    let s = a.source in
    let l = c.places-to.result in
    let u = out_cuts _ a.lists.keys a.lists.vals a.nt _ (c.places-to.ensures.near (omega (arith, f.few_keys), omega (arith, f.few_vals), omega (arith, f.few_times), omega (arith, f.few_times))) f.few_keys f.few_vals f.few_times c.requires.room in
    put_one a.out.now _ (table_of a.lists.keys a.lists.vals a.nt a.nt) _ _ l.keys_at l.size
    (c.write_table.ensures ∙ table_front a.lists.keys a.lists.vals a.nt a.nt a.out.now u.table_in) c.write_layers.ensures u.keys_placed
    (whole_size _ _ _ _ _ u ∙ ap (λ (n : ℕ). l.keys_at + n) (sym (length-bodies_out _ s.keys.now s.val_ends.now s.vals.now s.time_ends.now s.times.now s.diff_ends.now s.diffs.now a.lists.keys a.lists.vals a.nt f)))
