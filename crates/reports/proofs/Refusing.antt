-- The answers of `suffix_chunk`: each refusal in its order, and the chunk that is written where there is none.
use Prim.Native.Nat.{ℕ, zero, suc, ◌<◌, ◌≤◌}
use mathlib.Core.Path.{◌≡◌, refl, sym, ◌∙◌}
use mathlib.Core.Bool.{true, false, not}
use mathlib.Core.List.{List, [], ◌∷◌}
use native.Mathlib.Omega.{arith}
use lib.Dec.{ltb}
use lib.ListN.{length, drop}
use borrow.Author.Tests.{lt-ltb, le-ltb, ne_eqb}
use Rattle.chunk.specs.Words.{well_formed, settled, entries, size, nt, over}
use Rattle.chunk.specs.Bodies.{chunk_of}
use Rattle.chunk.specs.Entry.{Entry}
use Rattle.chunk.specs.Answer.{number_of}
use Rattle.chunk.specs.Refusal.{first, refuse, malformed, unsettled, empty, written}
use Rattle.chunk.specs.declared.Refusal.{Refusal}
use Rattle.chunk.proofs.Refusals.{number_above, refused_by}
use Rattle.reports.specs.Merge.{Place, sound_at, suffix_number, suffix_out}

-- a number above 0 leaves what was there
pub written_none : (n : ℕ) (es : List Entry) (out : List ℕ) → 0 < n → written n es out ≡ out
unfolding written
written_none zero es out h = absurd (omega arith)
written_none (suc n) es out h = refl

module _ (p : Place) (w out : List ℕ) where
  -- a number that is not 0 leaves the output as it was
  abbrev pub Answers : ℕ → List ℕ → Type 0
  Answers n last = (n ≡ suffix_number p w out) × (last ≡ suffix_out p w out)

  refused : (n : ℕ) → suc n ≡ suffix_number p w out → Answers (suc n) out
  unfolding suffix_out written
  refused n e = (e, rw (← e))

  -- words that are no settled chunk with something in it
  pub not_taken : (r : Refusal) → number_of r ≡ first (malformed w ∷ unsettled w ∷ empty w ∷ []) → Answers (number_of r) out
  unfolding suffix_number suffix_out
  not_taken r e =
      let q : number_of r ≡ suffix_number p w out =
      refused_by r (malformed w ∷ unsettled w ∷ empty w ∷ []) (refuse 8 (not (sound_at (entries w) p)) ∷ refuse 13 (ltb (length out) (size w)) ∷ []) e in
      (q, rw (← q) (sym (written_none (number_of r) (drop p.t (entries w)) out (number_above r))))

  pub not_sound : well_formed w ≡ true → settled w ≡ true → (nt w ≡ 0 → ⊥) → sound_at (entries w) p ≡ false → Answers 8 out
  unfolding suffix_number first
  not_sound h k z s = refused 7 (rw (h, k, ne_eqb (nt w) 0 z, s))

  pub no_room : well_formed w ≡ true → settled w ≡ true → (nt w ≡ 0 → ⊥) → sound_at (entries w) p ≡ true → length out < size w → Answers 13 out
  unfolding suffix_number first
  no_room h k z s r = refused 12 (rw (h, k, ne_eqb (nt w) 0 z, s, lt-ltb (length out) (size w) r))

  pub taken : (last : List ℕ) → well_formed w ≡ true → settled w ≡ true → (nt w ≡ 0 → ⊥) → sound_at (entries w) p ≡ true → size w ≤ length out
      → last ≡ over (chunk_of (drop p.t (entries w))) out → Answers 0 last
  unfolding suffix_out suffix_number first written
  taken last h k z s r e = (sym none, e ∙ (rw none))
    where
      none : suffix_number p w out ≡ 0
      none = rw (h, k, ne_eqb (nt w) 0 z, s, le-ltb (length out) (size w) r)
