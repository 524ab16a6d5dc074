-- Runs written one after another: a run in its place, and one turn of the loop over reports.
use Prim.Native.Nat.{ℕ, zero, suc, ◌+◌, ◌-◌, ◌<◌, ◌≤◌}
use mathlib.Core.Path.{◌≡◌, refl, sym, ◌∙◌, ap}
use mathlib.Core.List.{List, [], ◌∷◌}
use native.Mathlib.Omega.{arith}
use lib.ListN.{length, get_or, take, drop, length-drop, length-map}
use lib.Seq.{length-take-le}
use borrow.Rule.Slice.PartMut.{put_mid}
use Rattle.meld.specs.Copy.{copied, shifted, shifted_all}
use Rattle.meld.proofs.Place.{put_copied}
use Rattle.reports.specs.Survey.{Report, this, that, both}
use Rattle.reports.specs.Scratch.{placed}
use Rattle.reports.specs.Write.{named, items_by, width, widths, Serves, RunRoom, RunsRoom}
use Rattle.reports.proofs.Placing.{placed-none, placed_twice, length-placed}

-- the two ways to say that words are placed
pub placed_alike : (at : ℕ) (new out : List ℕ) → Rattle.meld.specs.Copy.placed at new out ≡ placed at new out
unfolding placed Rattle.meld.specs.Copy.placed
placed_alike at new out = refl

-- a range as long as it says
pub length_range : {A : Type 0} (from to : ℕ) (l : List A) → from ≤ to → to ≤ length l → length (take (to - from) (drop from l)) ≡ to - from
length_range from to l h k = length-take-le (to - from) (drop from l) (simp length-drop (omega arith))

-- words copied into the part of the output from `at` to their end
pub put_items_placed : (at end : ℕ) (new out p : List ℕ) → end ≡ at + length new → end ≤ length out → p ≡ copied (take (end - at) (drop at out)) new
    → put_mid at (end - at) out p ≡ placed at new out
put_items_placed at end new out p e h q = put_copied at end out new p e h q ∙ placed_alike at new out

pub put_ends_placed : (at end by : ℕ) (ends out p : List ℕ) → end ≡ at + length ends → end ≤ length out
    → p ≡ copied (take (end - at) (drop at out)) (shifted_all by ends) → put_mid at (end - at) out p ≡ placed at (shifted_all by ends) out
put_ends_placed at end by ends out p e h q = put_items_placed at end (shifted_all by ends) out p (omega (arith, length-map ends (shifted by))) h q

-- one item
pub one_item : (a : List ℕ) (i : ℕ) → i < length a → get_or a i 0 ∷ [] ≡ take 1 (drop i a)
one_item [] i h = absurd (omega arith)
one_item (x ∷ a) zero h = refl
one_item (x ∷ a) (suc i) h = one_item a i (omega arith)

-- a report names as many items as it is wide
pub length-named : {A : Type 0} (a b : List A) (r : Report) → Serves (length a) (length b) r → length (named a b r) ≡ width r
length-named a b (this l h) s = length_range l h a s.0 s.1
length-named a b (that l h) s = length_range l h b s.0 s.1
length-named a b (both i j) s = length-take-le 1 (drop i a) (simp length-drop (omega (arith, s.0)))

-- the reports still to be written, their room, and that with them the output is whole
pub record Writing (a b goal out₀ out : List ℕ) (rs : List Report) (at : ℕ) : Type 0 where
  pub room : RunsRoom (length a) (length b) rs at (length out₀)
  pub same : length out ≡ length out₀
  pub whole : placed at (items_by a b rs) out ≡ goal

module _ (a b goal out₀ out : List ℕ) (at : ℕ) where
  -- the next one
  pub next_room : (r : Report) (rs : List Report) → Writing a b goal out₀ out (r ∷ rs) at → RunRoom (length a) (length b) r at (length out)
  unfolding widths
  next_room r rs w = record { serves = w.room.serves.0; fits = omega (arith, w.room.fits, w.same) }

  pub next_writing : (r : Report) (rs : List Report) {out' : List ℕ} {at' : ℕ} → Writing a b goal out₀ out (r ∷ rs) at
      → at' ≡ at + width r → out' ≡ placed at (named a b r) out → Writing a b goal out₀ out' rs at'
  unfolding widths items_by
  next_writing r rs w e f =
      let n : length (named a b r) ≡ width r = length-named a b r w.room.serves.0 in
      let fit : at + length (named a b r) ≤ length out = omega (arith, w.room.fits, w.same) in
      rw (e, f)
      (record {
        room = record { serves = w.room.serves.1; fits = omega (arith, w.room.fits) };
        same = length-placed at out (named a b r) fit ∙ w.same;
        whole =
            ap (λ (m : ℕ). placed (at + m) (items_by a b rs) (placed at (named a b r) out)) (sym n)
            ∙ placed_twice at out (named a b r) (items_by a b rs) fit
            ∙ w.whole;
      })

  pub no_more : Writing a b goal out₀ out [] at → out ≡ goal
  unfolding items_by
  no_more w = sym (placed-none at out) ∙ w.whole
