-- The chunk of the entries that stay, where all do or none does.
use Prim.Native.Nat.{ℕ, suc, ◌≤◌}
use mathlib.Core.Path.{◌≡◌, refl, sym, ◌∙◌, ap}
use mathlib.Core.Bool.{Bool, true}
use mathlib.Core.List.{List, [], ◌∷◌}
use native.Mathlib.Omega.{arith}
use lib.ListN.{length, take}
use Rattle.chunk.specs.Entry.{Entry}
use Rattle.chunk.specs.Bodies.{chunk_of}
use Rattle.chunk.specs.Words.{well_formed, entries, over, size, nt, time_body, diff_end_body}
use Rattle.chunk.specs.Contents.{with_table}
use Rattle.laws.proofs.Tests.{by_test}
use Rattle.laws.proofs.OneChunk.{front_is_chunk}
use Rattle.laws.proofs.Whole.{of_none}
use Rattle.meld.specs.Copy.{copied}
use Rattle.meld.proofs.Copy.{copied_chunk}
use Rattle.retain.specs.Keep.{time_kept, retained_of}
use Rattle.laws.specs.Picked.{pick}
use Rattle.retain.proofs.Filtered.{length-pick}
use Rattle.retain.proofs.Counts.{count_most}

pick_whole : {A : Type 0} (m : ℕ → Bool) (i : ℕ) (l : List A) → length (pick m i l) ≡ length l → pick m i l ≡ l
unfolding pick
pick_whole m i [] h = refl
pick_whole m i (x ∷ l) h =
    by_test (m i)
    (λ k. let q : suc (length (pick m (suc i) l)) ≡ suc (length l) = simp k at h in simp k (ap (λ (r : List _). x ∷ r) (pick_whole m (suc i) l (omega arith))))
    (λ k. let q : length (pick m (suc i) l) ≡ suc (length l) = simp k at h in
    let e = length-pick m (suc i) l in let b = count_most m (suc i) (length l) in absurd (omega arith))

module _ (p : ℕ → Bool) (w : List ℕ) (formed : well_formed w ≡ true) where
  all_stay : length (retained_of p w) ≡ nt w → retained_of p w ≡ entries w
  unfolding retained_of
  all_stay h = pick_whole (time_kept p (time_body w) (diff_end_body w)) 0 (entries w) (h ∙ sym (front_is_chunk w formed).counted)

  -- all stay: the front of the words as it is
  pub whole_chunk : (out src : List ℕ) → length (retained_of p w) ≡ nt w → src ≡ take (size w) w → size w ≤ length w → size w ≤ length out
      → copied out src ≡ over (chunk_of (retained_of p w)) out
  whole_chunk out src h e a b = ap (copied out) e ∙ copied_chunk w formed out (size w) refl a b ∙ ap (λ (es : List Entry). over (chunk_of es) out) (sym (all_stay h))

  -- none stays: the empty table
  pub no_chunk : (out : List ℕ) → length (retained_of p w) ≡ 0 → 4 ≤ length out → with_table 0 0 0 0 out ≡ over (chunk_of (retained_of p w)) out
  no_chunk out h b = of_none (retained_of p w) out h b
