-- `split::split_at` meets its contract: each refusal leaves both outputs, and what is retained is what is below n, and the rest.
use Prim.Native.Nat.{ℕ, ◌<◌, ◌≤◌}
use mathlib.Core.Path.{◌≡◌, ◌∙◌, ap}
use mathlib.Core.Bool.{true}
use mathlib.Core.List.{List, [], ◌∷◌}
use lib.ListN.{length, take, drop}
use lib.Dec.{ltb}
use borrow.Author.Tests.{lt-ltb, le-ltb}
use Rattle.std.proofs.lemmas.Result.{err_from_is_err_and}
use Rattle.chunk.specs.declared.Refusal.{Refusal}
use Rattle.chunk.specs.declared.Refusal.TheVariants.{OutputShort}
use Rattle.chunk.specs.Answer.{number_of}
use Rattle.chunk.specs.Entry.{Entry}
use Rattle.chunk.specs.Bodies.{chunk_of}
use Rattle.chunk.specs.Words.{well_formed, settled, entries, size, over}
use Rattle.chunk.specs.Refusal.{first, refuse, malformed, unsettled, written}
use Rattle.chunk.proofs.Refusals.{number_above, refused_by}
use Rattle.meld.proofs.Numbers.{kept}
use Rattle.split.specs.Cut.{Split, split_number, split_first, split_rest}
use Rattle.split.proofs.Cuts.{first_part, rest_part}
use Rattle.split.proofs.split_at.Goals as goal
use Rattle.split.proofs.split_at.Goals.{then-first-size-via-then-first-size, then-first-size-via-else-first-size+then-rest-size}

refused : (w : List ℕ) (n : ℕ) (one two : List ℕ) (r : Refusal) → number_of r ≡ split_number w one two → Split (number_of r) one two w n one two
unfolding split_first split_rest
refused w n one two r e =
    let above = rw e at (number_above r) in
    record { number = e; first = kept (split_number w one two) (take n (entries w)) one above; rest = kept (split_number w one two) (drop n (entries w)) two above }

not_chunk : (w : List ℕ) (n : ℕ) (one two : List ℕ) (r : Refusal) → number_of r ≡ first (malformed w ∷ unsettled w ∷ []) → Split (number_of r) one two w n one two
unfolding split_number
not_chunk w n one two r e =
    refused w n one two r (refused_by r (malformed w ∷ unsettled w ∷ []) (refuse 13 (ltb (length one) (size w)) ∷ refuse 13 (ltb (length two) (size w)) ∷ []) e)

short_first : (w : List ℕ) (n : ℕ) (one two : List ℕ) → well_formed w ≡ true → settled w ≡ true → length one < size w → Split 13 one two w n one two
unfolding split_number first
short_first w n one two h s k = refused w n one two OutputShort (simp (h, s, lt-ltb (length one) (size w) k))

short_rest : (w : List ℕ) (n : ℕ) (one two : List ℕ) → well_formed w ≡ true → settled w ≡ true → size w ≤ length one → length two < size w → Split 13 one two w n one two
unfolding split_number first
short_rest w n one two h s j k = refused w n one two OutputShort (simp (h, s, le-ltb (length one) (size w) j, lt-ltb (length two) (size w) k))

accepted : (w : List ℕ) (n : ℕ) (one two one_after two_after : List ℕ) → well_formed w ≡ true → settled w ≡ true → size w ≤ length one → size w ≤ length two
    → one_after ≡ over (chunk_of (take n (entries w))) one → two_after ≡ over (chunk_of (drop n (entries w))) two → Split 0 one_after two_after w n one two
unfolding split_number split_first split_rest first written
accepted w n one two one_after two_after h s j k d e =
    let p = le-ltb (length one) (size w) j in let q = le-ltb (length two) (size w) k in
    record { number = simp (h, s, p, q); first = d ∙ simp (h, s, p, q); rest = e ∙ simp (h, s, p, q) }

pub returns-in_err-chunk : goal.returns-in_err-chunk
returns-in_err-chunk c =
    let a = c.args in
    let p = err_from_is_err_and c.from_residual.result c.from_residual.ensures.1 in
    rw (p.1, p.2) (not_chunk a.words.now a.n a.first.now a.rest.now _ c.in_err-chunk.ensures)

pub returns-then-first-size : goal.returns-then-first-size
returns-then-first-size c =
    let a = c.args in
    let e = c.in_ok-chunk.ensures in
    let z : c.in_ok-chunk.chunk.contents.size ≡ size a.words.now = c.in_ok-chunk.chunk.placed.sized ∙ ap size e.0 in
    elim c.then-first-size.branch [
      | then-first-size-via-then-first-size w ↦ short_first a.words.now a.n a.first.now a.rest.now e.1 e.2 (rw z at w.if-first-size.true)
      | then-first-size-via-else-first-size+then-rest-size w ↦ short_rest a.words.now a.n a.first.now a.rest.now e.1 e.2 (rw z at w.if-first-size.false) (rw z at w.if-rest-size.true)
    ]

pub returns : goal.returns
returns c =
    let a = c.args in
    let e = c.in_ok-chunk.ensures in
    let p = c.in_ok-chunk.chunk.placed in
    let n = rw e.0 at p.time_count in
    let z = rw e.0 at p.sized in
    accepted a.words.now a.n a.first.now a.rest.now _ _ e.1 e.2 (rw z at c.if-first-size.false) (rw z at c.if-rest-size.false)
    ((rw e.0 at c.retain_cut.ensures) ∙ ap (λ (es : List Entry). over (chunk_of es) a.first.now) (first_part a.words.now e.1 a.n _ _ n c.min-cut.ensures))
    ((rw e.0 at c.retain_cut-2.ensures) ∙ ap (λ (es : List Entry). over (chunk_of es) a.rest.now) (rest_part a.words.now e.1 a.n _ _ n c.min-cut.ensures))
