-- `split::ranges::write_ranges` meets its contract: each part starts where the one before it ends.
use Prim.Native.Nat.{ℕ, ◌+◌, ◌-◌}
use mathlib.Core.Path.{sym, ◌∙◌, ap}
use native.Mathlib.Omega.{arith}
use Rattle.chunk.specs.Contents.{table_of}
use Rattle.chunk.specs.Words.{key_body, val_end_body, val_body, time_end_body, time_body, diff_body}
use Rattle.split.specs.Ranges.{range_out}
use Rattle.laws.proofs.Parts.{within_as, table_front, put_all, part_length}
use Rattle.split.proofs.Sliced.{its_layers}
use Rattle.split.proofs.Spans.{length-range_out, run_out, run_written, length-run_out, range_cuts}
use Rattle.split.proofs.ranges.write_ranges.Goals as goal

pub slice_bounds-write_run-end-3 : goal.slice_bounds-write_run-end-3
slice_bounds-write_run-end-3 c =
    let f = c.requires.words_value in
    let u = range_cuts (its_layers c.args.chunk.words.now f.0 f.1) c.requires.ranged c.places-to.ensures.near in
    within_as _ _ _ u.times_in (omega arith)

pub returns : goal.returns
returns c =
    let v = c.args in
    let w = v.chunk.words.now in
    let p = its_layers w c.requires.words_value.0 c.requires.words_value.1 in
    let q = c.requires.ranged in
    let u = range_cuts p q c.places-to.ensures.near in
    let l = c.places-to.result in
    let rows = p.diffs_all ∙ sym p.times_all in
    let within = within_as _ _ _ q.times_in p.times_all in
    put_all v.out.now _ (table_of (v.keys_in.upper - v.keys_in.lower) (v.vals_in.upper - v.vals_in.lower) (v.times_in.upper - v.times_in.lower) (v.times_in.upper - v.times_in.lower))
    (range_out (key_body w) (val_end_body w) v.vals_in v.keys_in) (range_out (val_body w) (time_end_body w) v.times_in v.vals_in) (run_out (time_body w) (diff_body w) v.times_in) _ _ _ l.keys_at l.vals_at l.times_at l.size
    (c.write_table.ensures ∙ table_front _ _ _ _ v.out.now u.table_in)
    (rw (c.keys.ensures, c.val_ends.ensures) at c.write_range.ensures)
    (rw (c.vals.ensures, c.time_ends.ensures) at c.write_range-2.ensures)
    (run_written (time_body w) (diff_body w) v.times_in rows within _ _ (part_length _ _ _ _ u.times (within_as _ _ _ u.times_in (omega arith))) (rw (c.times.ensures, c.diffs.ensures) at c.write_run.ensures))
    u.keys_placed
    (u.keys ∙ ap (λ (n : ℕ). l.keys_at + n) (sym (length-range_out (key_body w) (val_end_body w) v.vals_in v.keys_in p.over_vals.rows q.keys_in)))
    (u.vals ∙ ap (λ (n : ℕ). l.vals_at + n) (sym (length-range_out (val_body w) (time_end_body w) v.times_in v.vals_in p.over_times.rows q.vals_in)))
    (u.times ∙ ap (λ (n : ℕ). l.times_at + n) (sym (length-run_out (time_body w) (diff_body w) v.times_in rows within)))
