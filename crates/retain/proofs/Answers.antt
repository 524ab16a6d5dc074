-- The answer of extract, from what its parts found.
use Prim.Native.Nat.{ℕ, ◌+◌}
use mathlib.Core.Path.{◌≡◌, refl, sym, ◌∙◌, ap}
use mathlib.Core.Bool.{Bool, true, false}
use mathlib.Core.List.{List, [], ◌∷◌}
use native.Mathlib.Omega.{arith}
use lib.Dec.{eqb, ltb, leb}
use lib.ListN.{length}
use borrow.Author.Tests.{eq-eqb, ne_eqb, eqb-true, eqb-false, leb-true, leb-false, lt-ltb, le-ltb}
use Rattle.chunk.specs.Entry.{Entry, keep}
use Rattle.chunk.specs.Bodies.{times, chunk_of}
use Rattle.chunk.specs.Words.{over}
use Rattle.chunk.specs.Refusal.{written}
use Rattle.laws.proofs.Tests.{by_test}
use Rattle.std.specs.Prelude.{Option, None, Some, Ok, Err}
use Rattle.chunk.specs.declared.Refusal.TheVariants.{TooManyCorners}
use Rattle.retain.specs.declared.Frontier.{Frontier}
use Rattle.retain.specs.declared.Verdict.{Verdict}
use Rattle.retain.specs.Frontier.{is_open, most}
use Rattle.retain.specs.Extract.{kept_of, shipped_of, frontier_of, verdict}
use Rattle.retain.specs.Found.{corners_of, frontier_with}
use Rattle.retain.specs.Answer.{verdict_as, verdict_by, extracted_of, Parted}

none-some : (f : Frontier) → ◌≡◌ {A = Option Frontier} None (Some f) → ⊥
none-some f h = cc

-- what is there, or f
abbrev got : Frontier → Option Frontier → Frontier
got f None = f
got f (Some g) = g

pub keep-times : (q : ℕ → Bool) (es : List Entry) → times (keep (λ (e : Entry). q e.time) es) ≡ keep q (times es)
unfolding keep
keep-times q [] = refl
keep-times q (e ∷ es) = by_test (q e.time) (λ h. simp (h, keep-times q es)) (λ h. simp (h, keep-times q es))

module _ (corners : List ℕ) (es : List Entry) where
  -- kept and shipped are all
  pub lengths : (fs : List Entry) → length (kept_of corners fs) + length (shipped_of corners fs) ≡ length fs
  unfolding kept_of shipped_of keep
  lengths [] = refl
  lengths (e ∷ fs) =
      let ih : length (kept_of corners fs) + length (shipped_of corners fs) ≡ length fs = lengths fs in
      by_test (is_open corners e.time) (λ h. simp h (omega arith)) (λ h. simp h (omega arith))

  pub its_verdict : (kept all : ℕ) → kept ≡ length (kept_of corners es) → all ≡ length es → verdict_by kept all ≡ verdict_as (verdict corners es)
  unfolding verdict
  its_verdict kept all hk ha =
      let l = lengths es in
      by_test (eqb kept all)
      (λ e. let q : kept ≡ all = eqb-true _ _ e in
      let s : eqb (length (shipped_of corners es)) 0 ≡ true = eq-eqb _ _ (let z : length (shipped_of corners es) ≡ 0 = omega arith in z) in simp (e, s))
      (λ e. let q : kept ≡ all → ⊥ = eqb-false _ _ e in
      let s : eqb (length (shipped_of corners es)) 0 ≡ false = ne_eqb _ _ (λ (z : length (shipped_of corners es) ≡ 0). q (omega arith)) in
      let k : eqb kept 0 ≡ eqb (length (kept_of corners es)) 0 = ap (λ (x : ℕ). eqb x 0) hk in
      by_test (eqb (length (kept_of corners es)) 0) (λ g. simp (e, s, k, g)) (λ g. simp (e, s, k, g)))

  pub too_long : (kept shipped : List ℕ) → None ≡ corners_of (frontier_of corners es) → Parted (Err TooManyCorners) kept shipped corners es kept shipped
  unfolding written
  too_long kept shipped e =
      let b : leb (length (frontier_of corners es)) most ≡ false = by_test (leb (length (frontier_of corners es)) most) (λ h. absurd (none-some (frontier_with (frontier_of corners es)) (simp h at e))) (λ h. h) in
      let m : ltb most (length (frontier_of corners es)) ≡ true = lt-ltb most (length (frontier_of corners es)) (leb-false (length (frontier_of corners es)) most b) in
      record { number = simp m; answer = tt; keeps = simp m; ships = simp m }

  pub taken : (f : Frontier) (opened all : ℕ) (v : Verdict) (kept shipped kept_after shipped_after : List ℕ)
      → Some f ≡ corners_of (frontier_of corners es) → opened ≡ length (kept_of corners es) → all ≡ length es → v ≡ verdict_by opened all
      → kept_after ≡ over (chunk_of (kept_of corners es)) kept → shipped_after ≡ over (chunk_of (shipped_of corners es)) shipped
      → Parted (Ok (record { verdict = v; frontier = f })) kept_after shipped_after corners es kept shipped
  unfolding extracted_of written
  taken f opened all v kept shipped kept_after shipped_after e ho ha hv hk hs =
      let b : leb (length (frontier_of corners es)) most ≡ true = by_test (leb (length (frontier_of corners es)) most) (λ h. h) (λ h. absurd (none-some f (sym (simp h at e)))) in
      let m : ltb most (length (frontier_of corners es)) ≡ false = le-ltb most (length (frontier_of corners es)) (leb-true (length (frontier_of corners es)) most b) in
      let q : f ≡ frontier_with (frontier_of corners es) = ap (got f) (simp b at e) in
      record {
        number = simp m;
        answer = λ i. record { verdict = (hv ∙ its_verdict opened all ho ha) i; frontier = q i };
        keeps = hk ∙ simp m;
        ships = hs ∙ simp m;
      }
