-- `retain::extract_open` meets its contract: the corners, the verdict and both outputs go by the open entries.
use Prim.Native.Nat.{ℕ, ◌-◌, ◌≤◌}
use mathlib.Core.Path.{◌≡◌, refl, sym, ◌∙◌, ap}
use mathlib.Core.Bool.{true}
use mathlib.Core.List.{List}
use native.Mathlib.Omega.{arith}
use lib.ListN.{length, length-map}
use Rattle.chunk.specs.declared.lent.Chunk.{Chunk}
use Rattle.chunk.specs.Entry.{Entry, keep, every, stands}
use Rattle.chunk.specs.Bodies.{chunk_of, times}
use Rattle.chunk.specs.Words.{well_formed, settled, entries, over, time_body}
use Rattle.laws.proofs.OneChunk.{settled_stands, front_is_chunk}
use Rattle.std.specs.Prelude.{Option, None, Some}
use Rattle.retain.specs.declared.Frontier.{Frontier}
use Rattle.retain.specs.declared.Kept.{Kept}
use Rattle.retain.specs.Frontier.{is_open, least_of}
use Rattle.retain.specs.Extract.{kept_of, shipped_of, frontier_of}
use Rattle.retain.specs.Keep.{is_shut, retained_of}
use Rattle.retain.specs.Found.{corners_of, kept_with, kept_by}
use Rattle.retain.proofs.Answers.{keep-times, lengths, too_long, taken}
use Rattle.retain.proofs.Picks.{retained_open, retained_shut}
use Rattle.laws.proofs.Bodies.{times_in_lem}
use Rattle.retain.proofs.extract_open.Goals as goal

got : Kept → Option Kept → Kept
got k None = k
got k (Some l) = l

-- where there is a frontier its number is that, and where there is none it is none
kept_some : (n : ℕ) (o : Option Frontier) (k : Kept) → Some k ≡ kept_with n o → (Some k.frontier ≡ o) × (k.number ≡ n)
unfolding got
kept_some n None k e = let f : ◌≡◌ {A = Option Kept} (Some k) None = e in absurd cc
kept_some n (Some f) k e = let q : k ≡ record { number = n; frontier = f } = ap (got k) e in (λ i. Some (q i).frontier, λ i. (q i).number)

kept_none : (n : ℕ) (o : Option Frontier) → None ≡ kept_with n o → None ≡ o
kept_none n None e = refl
kept_none n (Some f) e = let g : ◌≡◌ {A = Option Kept} None (Some (record { number = n; frontier = f })) = e in absurd cc

module _ (chunk : Chunk) (formed : well_formed chunk.words.now ≡ true) (settles : settled chunk.words.now ≡ true) (corners : List ℕ) where
  abbrev w : List ℕ
  w = chunk.words.now

  stand : every stands (entries w) ≡ true
  stand = sym (settled_stands w formed) ∙ settles

  kept-times : keep (is_open corners) (time_body w) ≡ times (kept_of corners (entries w))
  unfolding kept_of
  kept-times = ap (keep (is_open corners)) (sym (times_in_lem w formed)) ∙ sym (keep-times (is_open corners) (entries w))

  -- what is kept of the times is kept of the entries
  its_kept : kept_by (keep (is_open corners) (time_body w)) ≡ kept_with (length (kept_of corners (entries w))) (corners_of (frontier_of corners (entries w)))
  unfolding frontier_of
  its_kept =
      ap kept_by kept-times
      ∙ ap (λ (n : ℕ). kept_with n (corners_of (least_of (times (kept_of corners (entries w)))))) (length-map (kept_of corners (entries w)) (λ (x : Entry). x.time))

  none_kept : None ≡ kept_by (keep (is_open corners) (time_body w)) → None ≡ corners_of (frontier_of corners (entries w))
  none_kept e = kept_none _ _ (e ∙ its_kept)

  -- the corners found, and how many are open
  found_corners : (r : Kept) → Some r ≡ kept_by (keep (is_open corners) (time_body w)) → Some r.frontier ≡ corners_of (frontier_of corners (entries w))
  found_corners r e = (kept_some _ _ r (e ∙ its_kept)).0

  opened : (r : Kept) → Some r ≡ kept_by (keep (is_open corners) (time_body w)) → r.number ≡ length (kept_of corners (entries w))
  opened r e = (kept_some _ _ r (e ∙ its_kept)).1

  stays : (r : Kept) → Some r ≡ kept_by (keep (is_open corners) (time_body w)) → r.number ≡ length (retained_of (is_open corners) w)
  stays r e = opened r e ∙ sym (ap length (retained_open w formed corners stand))

  number : chunk.contents.nt ≡ length (entries w)
  number = chunk.placed.time_count ∙ sym (front_is_chunk w formed).counted

  -- those that are not open are the others
  others : (r : Kept) → Some r ≡ kept_by (keep (is_open corners) (time_body w)) → (r.number ≤ chunk.contents.nt) × (chunk.contents.nt - r.number ≡ length (retained_of (is_shut corners) w))
  others r e =
      let k = opened r e in
      let s : length (retained_of (is_shut corners) w) ≡ length (shipped_of corners (entries w)) = ap length (retained_shut w formed corners stand) in
      let l = lengths corners (entries w) (entries w) in
      let m = number in
      (omega arith, omega arith)

pub returns-in_default : goal.returns-in_default
returns-in_default c =
    let h = c.args.chunk in
    let q = c.requires in
    too_long c.args.corners.times.now (entries h.words.now) c.args.kept.now c.args.shipped.now (none_kept h q.sound.0 q.sound.1 c.args.corners.times.now (rw c.times.ensures at c.in_default.ensures))

pub retain_both-requires : goal.retain_both-requires
retain_both-requires c =
    let h = c.args.chunk in
    let q = c.requires in
    let k = rw c.times.ensures at c.in-Some.ensures in
    record { sound = q.sound; room = q.room; counted = (stays h q.sound.0 q.sound.1 c.args.corners.times.now _ k, others h q.sound.0 q.sound.1 c.args.corners.times.now _ k) }

pub returns : goal.returns
returns c =
    let h = c.args.chunk in
    let q = c.requires in
    let v = stand h q.sound.0 q.sound.1 c.args.corners.times.now in
    let k = rw c.times.ensures at c.in-Some.ensures in
    taken c.args.corners.times.now (entries h.words.now) _ _ _ _ c.args.kept.now c.args.shipped.now _ _
    (found_corners h q.sound.0 q.sound.1 c.args.corners.times.now _ k)
    (opened h q.sound.0 q.sound.1 c.args.corners.times.now _ k) (number h q.sound.0 q.sound.1 c.args.corners.times.now) c.verdict_of-verdict.ensures
    (c.retain_both.ensures.0 ∙ ap (λ (es : List Entry). over (chunk_of es) c.args.kept.now) (retained_open h.words.now q.sound.0 c.args.corners.times.now v))
    (c.retain_both.ensures.1 ∙ ap (λ (es : List Entry). over (chunk_of es) c.args.shipped.now) (retained_shut h.words.now q.sound.0 c.args.corners.times.now v))
