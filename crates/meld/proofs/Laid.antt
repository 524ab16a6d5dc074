-- The meld, body by body, is the chunk of the first entries and then the second.
use Rattle.std.proofs.Common.{◌≡◌, ℕ, ◌+◌, ◌-◌, ◌*◌, ◌≤◌, List, ◌++◌, length, sym, refl, ap, ◌∙◌, append_assoc, arith, length-append, take, le-leb}
use lib.ListN.{length-map}
use Rattle.chunk.specs.declared.Contents.{Contents}
use Rattle.chunk.specs.Entry.{Entry, same_list}
use Rattle.chunk.specs.Bodies.{chunk_of, lasts_of, same_key, keys, vals, times, diffs, val_ends, time_ends, diff_ends}
use Rattle.chunk.specs.Words.{over, table_size, limit, nk, nv, nt, nd, key_body, val_end_body, val_body, time_end_body, time_body, diff_end_body, diff_body}
use Rattle.chunk.specs.Contents.{layout_of, with_table, table_of}
use Rattle.meld.specs.declared.Seam.{Seam}
use Rattle.meld.specs.Copy.{gone, placed}
use Rattle.meld.specs.Seam.{shared, cut}
use Rattle.meld.specs.Laid.{laid, laid_at, places_of, keys_kept, vals_kept, Counted}
use Rattle.meld.proofs.Place.{over_next}
use Rattle.meld.proofs.Append.{keys-append, vals-append, times-append, diffs-append, time_ends-append, diff_ends-append}
use Rattle.meld.proofs.ValEnds.{val_ends-append}
use Rattle.meld.proofs.Counts.{val_ends_count, time_ends_count, diff_ends_count, times-count, keys_fewer, vals_fewer, diffs_fewer, keys_count, vals_count, diffs-count, shared_within, val_ends-gone, time_ends-gone, diff_ends-gone}
use Rattle.meld.proofs.Read.{Bodied}
use Rattle.meld.proofs.Meeting.{Met}

-- the next words of a front that has room for them
next : (at : ℕ) (p x out : List ℕ) {w : List ℕ} → w ≡ over p out → at ≡ length p → length p + length x ≤ length out → placed at x w ≡ over (p ++ x) out
next at p x out e q h = rw e (over_next at p x out q)

tabled : (k v t d : ℕ) (out : List ℕ) → table_size ≤ length out → with_table k v t d out ≡ over (table_of k v t d) out
unfolding with_table
tabled k v t d out h = rw (le-leb table_size (length out) h)

regroup : (a b c d e f g h : List ℕ) → ((((((a ++ b) ++ c) ++ d) ++ e) ++ f) ++ g) ++ h ≡ a ++ (b ++ (c ++ (d ++ (e ++ (f ++ (g ++ h))))))
regroup a b c d e f g h = simp append_assoc

-- the table and seven bodies in the places that their counts give
seven : (k ve v te t de d out : List ℕ) → length ve ≡ length k → length te ≡ length v → length de ≡ length t
    → (layout_of (length k) (length v) (length t) (length d)).size ≤ length out
    → (let to : Contents = layout_of (length k) (length v) (length t) (length d) in
    placed to.diffs_at d
    (placed to.diff_ends_at de
    (placed to.times_at t
    (placed to.time_ends_at te
    (placed to.vals_at v
    (placed to.val_ends_at ve
    (placed to.keys_at k (with_table to.nk to.nv to.nt to.nd out))))))))
    ≡ over (table_of (length k) (length v) (length t) (length d) ++ (k ++ (ve ++ (v ++ (te ++ (t ++ (de ++ d))))))) out
seven k ve v te t de d out hv ht hd h =
    let p0 = table_of (length k) (length v) (length t) (length d) in
    let p1 = p0 ++ k in
    let n1 : length p1 ≡ table_size + length k = length-append p0 k in
    let p2 = p1 ++ ve in
    let n2 : length p2 ≡ table_size + 2 * length k = omega (arith, length-append p1 ve) in
    let p3 = p2 ++ v in
    let n3 : length p3 ≡ table_size + 2 * length k + length v = omega (arith, length-append p2 v) in
    let p4 = p3 ++ te in
    let n4 : length p4 ≡ table_size + 2 * length k + 2 * length v = omega (arith, length-append p3 te) in
    let p5 = p4 ++ t in
    let n5 : length p5 ≡ table_size + 2 * length k + 2 * length v + length t = omega (arith, length-append p4 t) in
    let p6 = p5 ++ de in
    let n6 : length p6 ≡ table_size + 2 * length k + 2 * length v + 2 * length t = omega (arith, length-append p5 de) in
    let w0 = tabled (length k) (length v) (length t) (length d) out (omega arith) in
    let w1 = next table_size p0 k out w0 refl (omega arith) in
    let w2 = next (table_size + length k) p1 ve out w1 (sym n1) (omega arith) in
    let w3 = next (table_size + 2 * length k) p2 v out w2 (sym n2) (omega arith) in
    let w4 = next (table_size + 2 * length k + length v) p3 te out w3 (sym n3) (omega arith) in
    let w5 = next (table_size + 2 * length k + 2 * length v) p4 t out w4 (sym n4) (omega arith) in
    let w6 = next (table_size + 2 * length k + 2 * length v + length t) p5 de out w5 (sym n5) (omega arith) in
    next (table_size + 2 * length k + 2 * length v + 2 * length t) p6 d out w6 (sym n6) (omega arith)
    ∙ ap (λ (l : List ℕ). over l out) (regroup p0 k ve v te t de d)

-- a body without its last lists
body-cut : (n s : ℕ) (w x : List ℕ) → w ≡ x → n ≡ length x → take (n - s) w ≡ cut s x
body-cut n s w x h k = rw (h, k)

-- one body of the output
body_joined : (by : ℕ) {p q x y g z : List ℕ} → p ≡ x → q ≡ y → gone by y ≡ g → z ≡ x ++ g → p ++ gone by q ≡ z
body_joined by e f h k = rw (e, f, h, k)

gone-none : (l : List ℕ) → gone 0 l ≡ l
unfolding gone
gone-none l = refl

-- two chunks that meet so, within the limit together
module _ (seam : Seam) (a b : List ℕ) (es fs : List Entry) (f : Bodied a es) (g : Bodied b fs) (met : Met seam es fs) (few : length es + length fs ≤ limit) where
  keys_kept_lem : keys_kept seam a ≡ length (keys es) - shared same_key es fs
  keys_kept_lem = rw (f.key_count, met.keys_shared)

  vals_kept_lem : vals_kept seam a ≡ length (vals es) - shared same_list es fs
  vals_kept_lem = rw (f.val_count, met.vals_shared)

  pub counted : Counted seam a b
  counted =
      record {
        keys_within = omega (arith, met.keys_shared, f.key_count, shared_within same_key es fs, length-map (lasts_of same_key es) (λ (e : Entry). e.key));
        vals_within = omega (arith, met.vals_shared, f.val_count, shared_within same_list es fs, length-map (lasts_of same_list es) (λ (e : Entry). e.val));
        keys_few = omega (arith, f.key_count, g.key_count, keys_fewer es, keys_fewer fs);
        vals_few = omega (arith, f.val_count, g.val_count, vals_fewer es, vals_fewer fs);
        times_few = omega (arith, f.time_count, g.time_count);
        diffs_few = omega (arith, f.diff_count, g.diff_count, diffs_fewer es, diffs_fewer fs);
      }

  keys_are : keys_kept seam a + nk b ≡ length (keys (es ++ fs))
  keys_are = rw (keys_kept_lem, g.key_count) (sym (keys_count es fs))

  vals_are : vals_kept seam a + nv b ≡ length (vals (es ++ fs))
  vals_are = rw (vals_kept_lem, g.val_count) (sym (vals_count es fs))

  times_are : nt a + nt b ≡ length (times (es ++ fs))
  times_are = rw (f.time_count, g.time_count) (sym (times-count (es ++ fs) ∙ length-append es fs))

  diffs_are : nd a + nd b ≡ length (diffs (es ++ fs))
  diffs_are = rw (f.diff_count, g.diff_count) (sym (diffs-count es fs))

  places_are : places_of seam a b ≡ layout_of (length (keys (es ++ fs))) (length (vals (es ++ fs))) (length (times (es ++ fs))) (length (diffs (es ++ fs)))
  places_are = rw (keys_are, vals_are, times_are, diffs_are)

  keys_in_joined : take (keys_kept seam a) (key_body a) ++ gone 0 (key_body b) ≡ keys (es ++ fs)
  keys_in_joined =
      body_joined 0 (body-cut _ _ (key_body a) (keys es) f.keys_in f.key_count) g.keys_in (gone-none (keys fs)) (rw met.keys_shared (keys-append es fs))

  val_ends_in_joined : take (keys_kept seam a) (val_end_body a) ++ gone (vals_kept seam a) (val_end_body b) ≡ val_ends (es ++ fs)
  val_ends_in_joined =
      body_joined (vals_kept seam a)
      (body-cut _ _ (val_end_body a) (val_ends es) f.val_ends_in (f.key_count ∙ sym (val_ends_count es)))
      g.val_ends_in
      (val_ends-gone (vals_kept seam a) limit fs (omega arith) (omega (arith, vals_kept_lem, vals_fewer es)))
      (rw (met.keys_shared, vals_kept_lem) (val_ends-append es fs))

  vals_in_joined : take (vals_kept seam a) (val_body a) ++ gone 0 (val_body b) ≡ vals (es ++ fs)
  vals_in_joined =
      body_joined 0 (body-cut _ _ (val_body a) (vals es) f.vals_in f.val_count) g.vals_in (gone-none (vals fs)) (rw met.vals_shared (vals-append es fs))

  time_ends_in_joined : take (vals_kept seam a) (time_end_body a) ++ gone (nt a) (time_end_body b) ≡ time_ends (es ++ fs)
  time_ends_in_joined =
      body_joined (nt a)
      (body-cut _ _ (time_end_body a) (time_ends es) f.time_ends_in (f.val_count ∙ sym (time_ends_count es)))
      g.time_ends_in
      (time_ends-gone (nt a) limit fs (omega arith) (omega (arith, f.time_count)))
      (rw (met.vals_shared, f.time_count) (time_ends-append es fs))

  times_in_joined : time_body a ++ gone 0 (time_body b) ≡ times (es ++ fs)
  times_in_joined = body_joined 0 f.times_in g.times_in (gone-none (times fs)) (times-append es fs)

  diff_ends_in_joined : diff_end_body a ++ gone (nd a) (diff_end_body b) ≡ diff_ends (es ++ fs)
  diff_ends_in_joined =
      body_joined (nd a) f.diff_ends_in g.diff_ends_in
      (diff_ends-gone (nd a) limit fs (omega arith) (omega (arith, f.diff_count, diffs_fewer es)))
      (rw f.diff_count (diff_ends-append es fs))

  diffs_in_joined : diff_body a ++ gone 0 (diff_body b) ≡ diffs (es ++ fs)
  diffs_in_joined = body_joined 0 f.diffs_in g.diffs_in (gone-none (diffs fs)) (diffs-append es fs)

  -- the bodies and the table, laid out, are the chunk of both
  pub laid_chunk : (out : List ℕ) → (layout_of (length (keys (es ++ fs))) (length (vals (es ++ fs))) (length (times (es ++ fs))) (length (diffs (es ++ fs)))).size ≤ length out
      → laid seam a b out ≡ over (chunk_of (es ++ fs)) out
  unfolding laid_at chunk_of
  laid_chunk out room =
      ap (λ (to : Contents). laid_at to seam a b out) places_are
      ∙ rw (keys_in_joined, val_ends_in_joined, vals_in_joined, time_ends_in_joined, times_in_joined, diff_ends_in_joined, diffs_in_joined)
      (seven (keys (es ++ fs)) (val_ends (es ++ fs)) (vals (es ++ fs)) (time_ends (es ++ fs)) (times (es ++ fs)) (diff_ends (es ++ fs)) (diffs (es ++ fs)) out
      (val_ends_count (es ++ fs)) (time_ends_count (es ++ fs)) (diff_ends_count (es ++ fs)) room)
