-- Two chunks and an output: what each test of a meld says of them, and that with none refused the chunk of both is written.
use Rattle.std.proofs.Common.{◌≡◌, ℕ, ◌+◌, ◌-◌, ◌<◌, ◌≤◌, Bool, true, false, not, List, ◌++◌, length, sym, refl, ap, ◌∙◌, arith, length-append, ltb-true, ltb-false}
use Rattle.std.specs.Prelude.{Option, Some, None, is_some, is_none}
use Rattle.chunk.specs.declared.Contents.{Contents}
use Rattle.chunk.specs.Bodies.{keys, vals, times, diffs}
use Rattle.chunk.specs.Words.{well_formed, entries, nt, limit, size, table_size}
use Rattle.chunk.specs.Contents.{layout_of, layout_within}
use Rattle.laws.proofs.Parts.{too_many_times}
use Rattle.meld.specs.declared.Seam.{Seam}
use Rattle.meld.specs.Meld.{PairMelded}
use Rattle.meld.specs.Laid.{laid, Counted}
use Rattle.meld.proofs.Read.{bodied}
use Rattle.meld.proofs.Counts.{keys_count, vals_count, diffs-count, times-count}
use Rattle.meld.proofs.Laid.{counted, laid_chunk}
use Rattle.meld.proofs.Meeting.{Met}
use Rattle.meld.proofs.Numbers.{short, taken}

none_is : (o : Option Contents) (b : Bool) → is_some o ≡ not b → b ≡ is_none o
none_is None true h = refl
none_is None false h = cc
none_is (Some x) true h = cc
none_is (Some x) false h = refl

-- there is no layout for so many times exactly where they are too many
pub times_many : {n m : ℕ} {o : Option Contents} {b : Bool} → o ≡ layout_within 0 0 n 0 → is_some o ≡ not b → n ≡ m → b ≡ true → limit < m
times_many {n} {m} {o} {b} e h q k = rw q at (ltb-true limit n (sym (none_is o b h ∙ ap is_none e ∙ too_many_times n) ∙ k))

pub times_few : {n m : ℕ} {o : Option Contents} {b : Bool} → o ≡ layout_within 0 0 n 0 → is_some o ≡ not b → n ≡ m → b ≡ false → m ≤ limit
times_few {n} {m} {o} {b} e h q k = rw q at (ltb-false limit n (sym (none_is o b h ∙ ap is_none e ∙ too_many_times n) ∙ k))

module _ (a b out : List ℕ) (ha : well_formed a ≡ true) (hb : well_formed b ≡ true) (few : nt a + nt b ≤ limit) (seam : Seam) (met : Met seam (entries a) (entries b)) where
  few-entries : length (entries a) + length (entries b) ≤ limit
  few-entries = omega (arith, (bodied a ha).time_count, (bodied b hb).time_count)

  pub no_room : length out < size a + (size b - table_size) → PairMelded a b out 13 out
  no_room l = short a b out few met.past (omega arith)

  pub counts : Counted seam a b
  counts = counted seam a b (entries a) (entries b) (bodied a ha) (bodied b hb) met few-entries

  room : size a + (size b - table_size) ≤ length out
      → (layout_of (length (keys (entries a ++ entries b))) (length (vals (entries a ++ entries b))) (length (times (entries a ++ entries b))) (length (diffs (entries a ++ entries b)))).size ≤ length out
  room l =
      let f = bodied a ha in
      let g = bodied b hb in
      omega (
        arith,
        keys_count (entries a) (entries b),
        vals_count (entries a) (entries b),
        diffs-count (entries a) (entries b),
        times-count (entries a ++ entries b),
        length-append (entries a) (entries b),
      )

  pub melded : {after : List ℕ} → size a + (size b - table_size) ≤ length out → after ≡ laid seam a b out → PairMelded a b out 0 after
  melded l e =
      taken a b out few met.past (omega arith)
      (e ∙ laid_chunk seam a b (entries a) (entries b) (bodied a ha) (bodied b hb) met few-entries out (room l))
