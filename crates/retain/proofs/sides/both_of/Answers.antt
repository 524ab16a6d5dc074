-- `retain::sides::both_of` meets its contract: the bodies are the chunk's, where each time has a diff.
use Prim.Native.Nat.{ℕ}
use mathlib.Core.Path.{◌≡◌}
use mathlib.Core.Bool.{Bool, true}
use mathlib.Core.List.{List}
use lib.ListN.{length}
use Rattle.chunk.specs.Words.{well_formed, settled, time_body, time_end_body, val_end_body, diff_end_body}
use Rattle.laws.specs.Picked.{list_kept, RisesTo}
use Rattle.retain.specs.Frontier.{is_open}
use Rattle.retain.specs.Keep.{is_shut, time_passes, ListsOf}
use Rattle.retain.specs.Layers.{ListsLeft}
use Rattle.retain.proofs.Parting.{settled_lists}
use Rattle.retain.proofs.Retained.{its_bodies, settled_diffs, rises_as}
use Rattle.retain.proofs.sides.both_of.Goals as goal

module _ (w : List ℕ) (f : well_formed w ≡ true) (s : settled w ≡ true) where
  rising : RisesTo (time_end_body w) (length (time_body w)) × RisesTo (val_end_body w) (length (time_end_body w))
  rising = let b = its_bodies w f (λ i. true) in (b.over_times.rises, rises_as _ _ _ b.over_vals.rises b.over_times.rows)

  lists : (p : ℕ → Bool) (l c : ℕ) → ListsLeft (list_kept (time_passes p (time_body w)) (time_end_body w)) (val_end_body w) l c → ListsOf p w l c
  lists p l c q = settled_lists p (time_body w) (diff_end_body w) (time_end_body w) (val_end_body w) (settled_diffs w f s) rising.0 rising.1 l c q

pub count_both-requires : goal.count_both-requires
count_both-requires c = rw (c.times.ensures, c.time_ends.ensures, c.val_ends.ensures) (rising c.args.chunk.words.now c.requires.0 c.requires.1)

pub returns : goal.returns
returns c =
    let w = c.args.chunk.words.now in
    let e = c.count_both.ensures in
    record {
      open_lists = lists w c.requires.0 c.requires.1 (is_open c.args.corners.times.now) _ _ (rw (c.times.ensures, c.time_ends.ensures, c.val_ends.ensures) at e.open_lists);
      shut_lists = lists w c.requires.0 c.requires.1 (is_shut c.args.corners.times.now) _ _ (rw (c.times.ensures, c.time_ends.ensures, c.val_ends.ensures) at e.shut_lists);
    }
