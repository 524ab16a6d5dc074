-- The numbers of a meld, by its tests in their order, and what the output holds with each.
use Rattle.std.proofs.Common.{◌≡◌, ℕ, zero, suc, ◌+◌, ◌-◌, ◌<◌, ◌≤◌, true, false, List, [], ◌∷◌, ◌++◌, length, sym, refl, ◌∙◌, arith, le-ltb, lt-ltb}
use Rattle.chunk.specs.declared.Refusal.{Refusal}
use Rattle.chunk.specs.Answer.{number_of}
use Rattle.chunk.specs.Bodies.{chunk_of}
use Rattle.chunk.specs.Entry.{Entry}
use Rattle.chunk.specs.Words.{well_formed, settled, entries, size, nt, limit, table_size, over}
use Rattle.chunk.specs.Refusal.{Test, first, malformed, unsettled, written}
use Rattle.chunk.proofs.Refusals.{number_above, refused_by}
use Rattle.meld.specs.Meld.{follows, pair_tests, pair_number, meld_number, meld_out, Melded, PairMelded}

module _ (a b out : List ℕ) where
  -- with a number, the output stays
  refused_pair : (n : ℕ) → pair_number a b out ≡ suc n → PairMelded a b out (suc n) out
  unfolding written
  refused_pair n h = record { number = sym h; output = rw h }

  pub many : limit < nt a + nt b → PairMelded a b out 2 out
  unfolding pair_number first
  many h = refused_pair 1 (rw (lt-ltb limit (nt a + nt b) h))

  pub behind : nt a + nt b ≤ limit → follows (entries a) (entries b) ≡ false → PairMelded a b out 11 out
  unfolding pair_number first
  behind h k = refused_pair 10 (rw (le-ltb limit (nt a + nt b) h, k))

  pub short : nt a + nt b ≤ limit → follows (entries a) (entries b) ≡ true → length out < size a + size b - table_size → PairMelded a b out 13 out
  unfolding pair_number first
  short h k l = refused_pair 12 (rw (le-ltb limit (nt a + nt b) h, k, lt-ltb (length out) (size a + size b - table_size) l))

  pub taken : {after : List ℕ} → nt a + nt b ≤ limit → follows (entries a) (entries b) ≡ true → size a + size b - table_size ≤ length out
      → after ≡ over (chunk_of (entries a ++ entries b)) out → PairMelded a b out 0 after
  unfolding pair_number first written
  taken h k l e =
      let number : pair_number a b out ≡ 0 = rw (le-ltb limit (nt a + nt b) h, k, le-ltb (length out) (size a + size b - table_size) l) in
      record { number = sym number; output = rw number e }

-- a settled chunk is not refused by its own tests
passed_by : (w : List ℕ) (ts : List Test) → well_formed w ≡ true → settled w ≡ true → first (malformed w ∷ unsettled w ∷ ts) ≡ first ts
unfolding first
passed_by w ts f s = rw (f, s)

-- an output that a refusal leaves as it was
pub kept : (n : ℕ) (es : List Entry) (out : List ℕ) → 0 < n → out ≡ written n es out
unfolding written
kept zero es out h = absurd (omega arith)
kept (suc n) es out h = refl

refused : (a b out : List ℕ) (r : Refusal) → number_of r ≡ meld_number a b out → Melded a b out (number_of r) out
unfolding meld_out
refused a b out r e = record { number = e; output = kept (meld_number a b out) (entries a ++ entries b) out (rw e at (number_above r)) }

-- what is promised, where a chunk is refused and where none is
pub first_out : (a b out : List ℕ) (r : Refusal) → number_of r ≡ first (malformed a ∷ unsettled a ∷ []) → Melded a b out (number_of r) out
unfolding meld_number
first_out a b out r e = refused a b out r (refused_by r (malformed a ∷ unsettled a ∷ []) (malformed b ∷ unsettled b ∷ pair_tests a b out) e)

pub second_out : (a b out : List ℕ) (r : Refusal) → well_formed a ≡ true → settled a ≡ true → number_of r ≡ first (malformed b ∷ unsettled b ∷ []) → Melded a b out (number_of r) out
unfolding meld_number
second_out a b out r f s e =
    let ts = malformed b ∷ unsettled b ∷ pair_tests a b out in
    refused a b out r (refused_by r (malformed b ∷ unsettled b ∷ []) (pair_tests a b out) e ∙ sym (passed_by a ts f s))

pub of_pair : (a b out : List ℕ) (n : ℕ) (after : List ℕ) → well_formed a ≡ true → settled a ≡ true → well_formed b ≡ true → settled b ≡ true → PairMelded a b out n after → Melded a b out n after
unfolding meld_number meld_out pair_number
of_pair a b out n after f s g t p =
    let h : meld_number a b out ≡ pair_number a b out = passed_by a (malformed b ∷ unsettled b ∷ pair_tests a b out) f s ∙ passed_by b (pair_tests a b out) g t in
    record { number = p.number ∙ sym h; output = p.output ∙ rw h }
