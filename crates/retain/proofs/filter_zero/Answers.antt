-- `retain::filter_zero` meets its contract: each refusal leaves the output, and what is retained is what stands.
use Prim.Native.Nat.{ℕ, ◌<◌, ◌≤◌}
use mathlib.Core.Path.{◌≡◌, ◌∙◌, ap}
use mathlib.Core.Bool.{true, false}
use mathlib.Core.List.{List, []}
use native.Mathlib.Omega.{arith}
use lib.ListN.{length}
use borrow.Author.Tests.{lt-ltb, le-ltb}
use Rattle.std.proofs.lemmas.Result.{err_from_is_err_and}
use Rattle.chunk.specs.Entry.{Entry, keep, stands}
use Rattle.chunk.specs.Bodies.{chunk_of}
use Rattle.chunk.specs.Words.{well_formed, entries, size, over}
use Rattle.chunk.specs.Refusal.{first, written}
use Rattle.retain.specs.Cut.{filter_number, filter_out}
use Rattle.retain.proofs.Picks.{retained_all}
use Rattle.retain.proofs.filter_zero.Goals as goal

malformed : (w out : List ℕ) → well_formed w ≡ false → (5 ≡ filter_number w out) × (out ≡ filter_out w out)
unfolding filter_number filter_out first written
malformed w out h = (simp h, simp h)

short : (w out : List ℕ) → well_formed w ≡ true → length out < size w → (13 ≡ filter_number w out) × (out ≡ filter_out w out)
unfolding filter_number filter_out first written
short w out h k = let q = lt-ltb (length out) (size w) k in (simp (h, q), simp (h, q))

accepted : (w out : List ℕ) → well_formed w ≡ true → size w ≤ length out → (0 ≡ filter_number w out) × (over (chunk_of (keep stands (entries w))) out ≡ filter_out w out)
unfolding filter_number filter_out first written
accepted w out h k = let q = le-ltb (length out) (size w) k in (simp (h, q), simp (h, q))

pub returns-in_err-chunk : goal.returns-in_err-chunk
returns-in_err-chunk c =
    let e = c.in_err-chunk.ensures in
    let p = err_from_is_err_and c.from_residual.result c.from_residual.ensures.1 in
    let m = malformed c.args.words.now c.args.out.now e.1 in
    rw (p.1, p.2, e.0) (record { number = m.0; written = m.1 })

pub returns-then-out-chunk : goal.returns-then-out-chunk
returns-then-out-chunk c =
    let e = c.in_ok-chunk.ensures in
    let m = short c.args.words.now c.args.out.now e.1 (omega (arith, c.if-out-chunk.true, c.in_ok-chunk.chunk.placed.sized, ap size e.0)) in
    record { number = m.0; written = m.1 }

pub retain_standing-requires : goal.retain_standing-requires
retain_standing-requires c = let e = c.in_ok-chunk.ensures in (ap well_formed e.0 ∙ e.1, omega (arith, c.if-out-chunk.false, c.in_ok-chunk.chunk.placed.sized))

pub returns : goal.returns
returns c =
    let e = c.in_ok-chunk.ensures in
    let w = c.args.words.now in
    let m = accepted w c.args.out.now e.1 (omega (arith, c.if-out-chunk.false, c.in_ok-chunk.chunk.placed.sized, ap size e.0)) in
    record {
      number = m.0;
      written = (rw e.0 at c.retain_standing.ensures) ∙ ap (λ (es : List Entry). over (chunk_of es) c.args.out.now) (retained_all w e.1 []) ∙ m.1;
    }
