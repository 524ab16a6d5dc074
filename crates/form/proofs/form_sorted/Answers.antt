-- `form::form_sorted` meets its contract: the places are those of the counts, and all entries stored there are the chunk.
use Rattle.std.proofs.Common.{ℕ, ◌^◌, ◌≡◌, ◌≤◌, List, length, sym, ap, ◌∙◌, subst, arith}
use Rattle.chunk.specs.Entry.{Entry}
use Rattle.chunk.specs.declared.Contents.{Contents}
use Rattle.chunk.specs.Contents.{layout_of, with_table}
use Rattle.sort.specs.Sort.{updates}
use Rattle.form.specs.Form.{formed}
use Rattle.form.specs.declared.Sizes.{Sizes}
use Rattle.form.specs.Pass.{Accepts, sizes_of, final_counts, write_from, no_counts}
use Rattle.form.proofs.Formed.{formed-stands}
use Rattle.form.proofs.Chunk.{chunk_written}
use Rattle.form.proofs.Whole.{final_keys, final_vals, final_times, size_fits, tabled}
use Rattle.form.proofs.form_sorted.Goals as goal

-- the counts are few, so their places are summed up
near : (es : List Entry) (out : List ℕ) (s : Sizes) → s ≡ sizes_of (final_counts es) → Accepts es out → (s.nk ≤ 2 ^ 60) × (s.nv ≤ 2 ^ 60) × (s.nt ≤ 2 ^ 60) × (s.nt ≤ 2 ^ 60)
near es out s e a =
    rw e
    (omega (arith, a.few, final_keys es), omega (arith, a.few, final_vals es), omega (arith, a.few, final_times es), omega (arith, a.few, final_times es))

pub write_entries-requires : goal.write_entries-requires
write_entries-requires c =
    let es = updates c.args.words.now in
    let out = c.args.out.now in
    let laid = c.places.ensures.near (near es out _ c.requires.sizes_value c.requires.accepts) ∙ ap (λ (s : Sizes). layout_of s.nk s.nv s.nt s.nt) c.requires.sizes_value in
    record {
      laid = laid;
      room = subst (λ (n : ℕ). c.places.result.size ≤ n) (sym c.write_table.auto.out) (subst (λ (p : Contents). p.size ≤ length out) (sym laid) (size_fits es out c.requires.accepts));
    }

pub returns : goal.returns
returns c =
    let es = updates c.args.words.now in
    let out = c.args.out.now in
    let f = final_counts es in
    let laid = c.places.ensures.near (near es out _ c.requires.sizes_value c.requires.accepts) ∙ ap (λ (s : Sizes). layout_of s.nk s.nv s.nt s.nt) c.requires.sizes_value in
    let table = c.write_table.ensures ∙ ap (λ (s : Sizes). with_table s.nk s.nv s.nt s.nt out) c.requires.sizes_value ∙ tabled f.nk f.nv f.nt f.nt out (omega (arith, c.requires.accepts.room)) in
    c.write_entries.ensures
    ∙ ap (λ (p : Contents). write_from p no_counts (formed es) c.write_table.new.out) laid
    ∙ ap (λ (o : List ℕ). write_from (layout_of f.nk f.nv f.nt f.nt) no_counts (formed es) o) table
    ∙ chunk_written (formed es) out (formed-stands es) (size_fits es out c.requires.accepts)
