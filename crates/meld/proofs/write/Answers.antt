-- `meld::write` meets its contract: the table, then seven bodies in their places.
use Rattle.std.proofs.Common.{◌≡◌, ℕ, ◌-◌, take, refl, ap, ◌∙◌, arith}
use Rattle.chunk.specs.declared.Contents.{Contents}
use Rattle.meld.specs.Laid.{laid_at, places_of}
use Rattle.meld.proofs.Place.{next_body}
use Rattle.meld.proofs.write.Goals as goal

pub returns : goal.returns
unfolding laid_at
returns c =
    let v = c.args in
    let a = v.front.words.now in
    let b = v.back.words.now in
    let p = v.front.placed in
    let q = v.back.placed in
    let few = c.requires.counted in
    let to : c.places-to.result ≡ places_of v.seam a b = c.places-to.ensures.near (omega (arith, p.key_count, q.key_count, few.keys_few), omega (arith, p.val_count, q.val_count, few.vals_few), omega (arith, p.time_count, q.time_count, few.times_few), omega (arith, p.diff_count, q.diff_count, few.diffs_few))
    ∙ rw (p.key_count, p.val_count, p.time_count, p.diff_count, q.key_count, q.val_count, q.time_count, q.diff_count) in
    let keys = ap (λ (n : ℕ). n - v.seam.keys) p.key_count in
    let vals = ap (λ (n : ℕ). n - v.seam.vals) p.val_count in
    next_body _ refl
    (next_body _ p.diff_count
    (next_body _ refl
    (next_body _ p.time_count
    (next_body _ refl
    (next_body _ vals
    (next_body _ refl c.write_table.ensures (λ i. take (keys i) (c.keys.ensures i)) c.keys-2.ensures c.write_body.ensures)
    (λ i. take (keys i) (c.val_ends.ensures i))
    c.val_ends-2.ensures
    c.write_body-2.ensures)
    (λ i. take (vals i) (c.vals.ensures i))
    c.vals-2.ensures
    c.write_body-3.ensures)
    (λ i. take (vals i) (c.time_ends.ensures i))
    c.time_ends-2.ensures
    c.write_body-4.ensures)
    c.times.ensures
    c.times-2.ensures
    c.write_body-5.ensures)
    c.diff_ends.ensures
    c.diff_ends-2.ensures
    c.write_body-6.ensures)
    c.diffs.ensures
    c.diffs-2.ensures
    c.write_body-7.ensures
    ∙ ap (λ (k : Contents). laid_at k v.seam a b v.out.now) to
