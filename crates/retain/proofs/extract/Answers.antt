-- `retain::extract` meets its contract: each refusal comes in its turn and leaves both outputs, and the rest is what the corners part.
use Prim.Native.Nat.{ℕ, zero, suc, ◌<◌, ◌≤◌}
use mathlib.Core.Path.{◌≡◌, refl, ◌∙◌, ap}
use mathlib.Core.Bool.{true, false}
use mathlib.Core.List.{List, [], ◌∷◌}
use native.Mathlib.Omega.{arith}
use lib.ListN.{length, take}
use lib.Dec.{ltb}
use borrow.Author.Tests.{lt-ltb, le-ltb}
use Rattle.std.specs.Prelude.{Result, Err}
use Rattle.std.proofs.lemmas.Result.{err_from_is_err_and}
use Rattle.chunk.specs.declared.Refusal.{Refusal}
use Rattle.chunk.specs.Answer.{number_of}
use Rattle.chunk.specs.Entry.{Entry}
use Rattle.chunk.specs.Words.{well_formed, settled, entries, size}
use Rattle.chunk.specs.Refusal.{first, refuse, malformed, unsettled, written}
use Rattle.chunk.proofs.Refusals.{number_above, refused_by}
use Rattle.laws.proofs.Tests.{by_test}
use Rattle.retain.specs.declared.Extracted.{Extracted}
use Rattle.retain.specs.Frontier.{sound, most}
use Rattle.retain.specs.Extract.{extract_number, kept_of, shipped_of, frontier_of, kept_out, shipped_out}
use Rattle.retain.specs.Answer.{Extraction, Parted, too_many}
use Rattle.retain.proofs.extract.Goals as goal
use Rattle.retain.proofs.extract.Goals.{then-kept-size-via-then-kept-size, then-kept-size-via-else-kept-size+then-shipped-size}

-- a refusal leaves an output
left_alone : (n : ℕ) (es : List Entry) (out : List ℕ) → 0 < n → out ≡ written n es out
unfolding written
left_alone zero es out h = absurd (omega arith)
left_alone (suc n) es out h = refl

module _ (count : ℕ) (corners w kept shipped : List ℕ) where
  refusal : (r : Refusal) → number_of r ≡ extract_number count corners w kept shipped → Extraction (Err r) kept shipped count corners w kept shipped
  unfolding kept_out shipped_out
  refusal r e =
      let h : 0 < extract_number count corners w kept shipped = rw e at (number_above r) in
      record { number = e; answer = tt; keeps = left_alone _ _ kept h; ships = left_alone _ _ shipped h }

  unsound : sound count corners ≡ false → 9 ≡ extract_number count corners w kept shipped
  unfolding extract_number first
  unsound h = simp h

  -- a chunk that isn't well formed or settled
  unfit : (r : Refusal) → sound count corners ≡ true → number_of r ≡ first (malformed w ∷ unsettled w ∷ []) → number_of r ≡ extract_number count corners w kept shipped
  unfolding extract_number first
  unfit r h e =
      refused_by r (malformed w ∷ unsettled w ∷ []) (refuse 13 (ltb (length kept) (size w)) ∷ refuse 13 (ltb (length shipped) (size w)) ∷ refuse 10 (ltb most (length (frontier_of (take count corners) (entries w)))) ∷ []) e
      ∙ simp h

  module _ (h : sound count corners ≡ true) (k : well_formed w ≡ true) (s : settled w ≡ true) where
    short_kept : length kept < size w → 13 ≡ extract_number count corners w kept shipped
    unfolding extract_number first
    short_kept l = simp (h, k, s, lt-ltb (length kept) (size w) l)

    short_shipped : length shipped < size w → 13 ≡ extract_number count corners w kept shipped
    unfolding extract_number first
    short_shipped l = by_test (ltb (length kept) (size w)) (λ m. simp (h, k, s, m)) (λ m. simp (h, k, s, m, lt-ltb (length shipped) (size w) l))

    module _ (l : size w ≤ length kept) (m : size w ≤ length shipped) where
      roomy : too_many (take count corners) (entries w) ≡ extract_number count corners w kept shipped
      unfolding extract_number first
      roomy = simp (h, k, s, le-ltb (length kept) (size w) l, le-ltb (length shipped) (size w) m)

      accepted : (r : Result Extracted Refusal) (kept_after shipped_after : List ℕ)
          → Parted r kept_after shipped_after (take count corners) (entries w) kept shipped → Extraction r kept_after shipped_after count corners w kept shipped
      unfolding kept_out shipped_out
      accepted r kept_after shipped_after p =
          record {
            number = p.number ∙ roomy;
            answer = p.answer;
            keeps = p.keeps ∙ ap (λ (n : ℕ). written n (kept_of (take count corners) (entries w)) kept) roomy;
            ships = p.ships ∙ ap (λ (n : ℕ). written n (shipped_of (take count corners) (entries w)) shipped) roomy;
          }

pub returns-in_default : goal.returns-in_default
returns-in_default c =
    let a = c.args in
    refusal a.upper.count a.upper.corners a.words.now a.kept.now a.shipped.now _ (unsound a.upper.count a.upper.corners a.words.now a.kept.now a.shipped.now c.in_default.ensures)

pub returns-in_err-chunk : goal.returns-in_err-chunk
returns-in_err-chunk c =
    let a = c.args in
    let p = err_from_is_err_and c.from_residual.result c.from_residual.ensures.1 in
    rw (p.1, p.2) (refusal a.upper.count a.upper.corners a.words.now a.kept.now a.shipped.now _ (unfit a.upper.count a.upper.corners a.words.now a.kept.now a.shipped.now _ c.in-Some.ensures.0 c.in_err-chunk.ensures))

pub returns-then-kept-size : goal.returns-then-kept-size
returns-then-kept-size c =
    let a = c.args in
    let o = c.in-Some.ensures.0 in
    let e = c.in_ok-chunk.ensures in
    let z : c.in_ok-chunk.chunk.contents.size ≡ size a.words.now = c.in_ok-chunk.chunk.placed.sized ∙ ap size e.0 in
    refusal a.upper.count a.upper.corners a.words.now a.kept.now a.shipped.now _
    (elim c.then-kept-size.branch [
      | then-kept-size-via-then-kept-size w ↦ short_kept a.upper.count a.upper.corners a.words.now a.kept.now a.shipped.now o e.1 e.2 (omega arith)
      | then-kept-size-via-else-kept-size+then-shipped-size w ↦ short_shipped a.upper.count a.upper.corners a.words.now a.kept.now a.shipped.now o e.1 e.2 (omega arith)
    ])

pub extract_open-requires : goal.extract_open-requires
extract_open-requires c =
    let e = c.in_ok-chunk.ensures in
    let z : c.in_ok-chunk.chunk.contents.size ≡ size c.in_ok-chunk.chunk.words.now = c.in_ok-chunk.chunk.placed.sized in
    record { sound = (ap well_formed e.0 ∙ e.1, ap settled e.0 ∙ e.2); room = (omega arith, omega arith) }

pub returns : goal.returns
returns c =
    let a = c.args in
    let o = c.in-Some.ensures in
    let e = c.in_ok-chunk.ensures in
    let z : c.in_ok-chunk.chunk.contents.size ≡ size a.words.now = c.in_ok-chunk.chunk.placed.sized ∙ ap size e.0 in
    accepted a.upper.count a.upper.corners a.words.now a.kept.now a.shipped.now o.0 e.1 e.2 (omega arith) (omega arith) _ _ _ (rw (o.1, e.0) at c.extract_open.ensures)
