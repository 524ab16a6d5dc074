-- The ways of a step, and its answer by what is read.
use Prim.Native.Nat.{ℕ, ◌≤◌, ◌<◌}
use mathlib.Core.Path.{◌≡◌, refl, ap}
use mathlib.Core.Bool.{true, false}
use mathlib.Core.List.{List}
use borrow.Author.Tests.{lt-ltb, le-ltb}
use Rattle.std.specs.Prelude.{Option, Some, None, Ok, Err}
use Rattle.laws.proofs.Tests.{by_test}
use Rattle.chunk.specs.declared.Refusal.TheVariants.{Malformed}
use Rattle.chunk.specs.Words.{nd, table_fits, val_end_body, time_end_body, diff_end_body}
use Rattle.walk.specs.Walk.{Place, Went, gave, done, refused, Moved, moved, past, in_bodies, step, read, to_time}
use Rattle.walk.specs.declared.Walker.{Walker}
use Rattle.walk.specs.declared.Record.{Record}
use Rattle.walk.specs.Answer.{Stepped, given_by, stepped_by}

module _ (w : List ℕ) (p : Place) where
  pub step_misfit : table_fits w ≡ false → step w p ≡ refused
  unfolding step
  step_misfit h = rw h

  pub step-done : table_fits w ≡ true → nd w ≤ p.d → step w p ≡ done
  unfolding step
  step-done h k = rw (h, le-ltb p.d (nd w) k)

  pub step_reads : table_fits w ≡ true → p.d < nd w → step w p ≡ read w (to_time (val_end_body w) (time_end_body w) (diff_end_body w) p)
  unfolding step
  step_reads h k = rw (h, lt-ltb p.d (nd w) k)

-- what is read is a record, or it is refused
pub read_none : (w : List ℕ) (m : Moved) → None ≡ given_by (read w m) → ◌≡◌ {A = Stepped} (Err Malformed) (stepped_by (read w m))
read_none w past e = refl
read_none w (moved p) e = by_test (in_bodies w p) (λ h. absurd (let n : None ≡ Some _ = rw h at e in cc)) (λ h. rw h)

pub read_some : (g : Went) (x : Record × Walker) → Some x ≡ given_by g → ◌≡◌ {A = Stepped} (Ok (Some x)) (stepped_by g)
read_some (gave e p) x h = ap (λ (o : Option (Record × Walker)). Ok o) h
read_some done x h = cc
read_some refused x h = cc
