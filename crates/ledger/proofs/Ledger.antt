-- The ledger: after any calls every held chunk is settled, the held changes add up to what forms took in, and a chunk that alone is
-- non-empty is the one settled chunk of that sum.
use Prim.Native.Nat.{ℕ, suc, ◌<◌, ◌+◌}
use mathlib.Core.Path.{◌≡◌, refl, sym, ap, ◌∙◌}
use mathlib.Core.Bool.{true, false, ◌&&◌}
use mathlib.Core.List.{List, [], ◌∷◌, ◌++◌}
use native.Mathlib.Omega.{arith}
use lib.Dec.{eqb, ltb}
use borrow.Author.Tests.{ltb-true, ltb-false, eqb-true}
use lib.ListN.{length, take, drop, get_or, get_or-eq_default}
use lib.Seq.{split_at}
use lib.IntN.{ℤ, pos, ◌+ℤ◌, +ℤ_idr}
use Rattle.chunk.specs.Entry.{every}
use Rattle.chunk.specs.Words.{entries, nt, well_formed, settled}
use Rattle.chunk.specs.Sums.{total}
use Rattle.laws.specs.OneChunk.{fits}
use Rattle.laws.proofs.Lists.{every_imp, no_length}
use Rattle.laws.proofs.OneChunk.{front_is_chunk, settled_once}
use Rattle.laws.proofs.Tests.{by_test, and_left, and_right, true-not-false}
use Rattle.ledger.specs.Ledger.{State, start, at, without, run, held_total, standing, ChunkOfSum, Kept, Ledger}
use Rattle.ledger.proofs.Lists.{every-get_or}
use Rattle.ledger.proofs.Clean.{Clean, sound, clean_of, counted_of}
use Rattle.ledger.proofs.Held.{every-without, held_without}
use Rattle.ledger.proofs.Steps.{Inv, run_inv, start_inv}

-- ---- how many are non-empty

standing-append : (a b : List (List ℕ)) → standing (a ++ b) ≡ standing a + standing b
unfolding standing
standing-append [] b = omega arith
standing-append (w ∷ a) b =
    let ih : standing (a ++ b) ≡ standing a + standing b = standing-append a b in
    by_test (eqb (nt w) 0) (λ q. simp q ih) (λ q. simp q (omega arith))

-- without a non-empty one there is one fewer
standing-without : (i : ℕ) (l : List (List ℕ)) → i < length l → eqb (nt (get_or l i [])) 0 ≡ false → standing l ≡ suc (standing (without i l))
unfolding standing
standing-without i l h e =
    let w : List ℕ = get_or l i [] in
    let b : List (List ℕ) = drop (suc i) l in
    let one : standing (w ∷ b) ≡ suc (standing b) = simp e in
    let all : standing l ≡ standing (take i l ++ (w ∷ b)) = ap standing (split_at l i [] h) in
    omega (arith, standing-append (take i l) (w ∷ b), standing-append (take i l) b)

-- an empty chunk says nothing
none_said : (k v t : ℕ) (w : List ℕ) → sound w ≡ true → eqb (nt w) 0 ≡ true → total k v t (entries w) ≡ pos 0
unfolding total
none_said k v t w h e = rw (no_length (entries w) (counted_of w h ∙ eqb-true (nt w) 0 e))

none-held : (k v t : ℕ) (l : List (List ℕ)) → every sound l ≡ true → standing l ≡ 0 → held_total k v t l ≡ pos 0
unfolding every standing held_total
none-held k v t [] h z = refl
none-held k v t (w ∷ l) h z =
    by_test (eqb (nt w) 0)
    (λ q. let y : standing l ≡ 0 = simp q at z in
    simp (none_said k v t w (and_left (sound w) (every sound l) h) q, none-held k v t l (and_right (sound w) _ h) y))
    (λ q. let y : suc (standing l) ≡ 0 = simp q at z in absurd (omega arith))

-- the only non-empty chunk
alone : (s : State) (i : ℕ) → Inv s → standing s.held ≡ 1 → eqb (nt (at s i)) 0 ≡ false → ChunkOfSum (λ k v t. total k v t s.taken) (at s i)
alone s i c h e =
    by_test (ltb i (length s.held))
    (λ q. let r : i < length s.held = ltb-true _ _ q in
    let w : List ℕ = at s i in
    let here : sound w ≡ true = every-get_or sound s.held i [] c.sounds r in
    let good : Clean (entries w) = clean_of w here in
    let left : every sound (without i s.held) ≡ true = every-without sound i s.held c.sounds in
    let none : standing (without i s.held) ≡ 0 = omega (arith, standing-without i s.held r e) in
    let sums : (k v t : ℕ) → total k v t (entries w) ≡ total k v t s.taken =
    λ k v t. sym (+ℤ_idr (total k v t (entries w))) ∙ ap (λ (x : ℤ). total k v t (entries w) +ℤ x) (sym (none-held k v t (without i s.held) left none))
    ∙ sym (held_without k v t i s.held r) ∙ c.sum k v t in
    record {
      es = entries w;
      settles = record { rises = good.rise; stand = good.stand; fit = good.fit; sums = sums };
      only = λ fs f. settled_once fs (entries w) f.rises f.stand f.fit good.rise good.stand good.fit (λ k v t. f.sums k v t ∙ sym (sums k v t));
      words = (front_is_chunk w (and_left (well_formed w) (settled w && every fits (entries w)) here)).front;
    })
    (λ q. let d : at s i ≡ [] = get_or-eq_default s.held [] (ltb-false _ _ q) in
    absurd (true-not-false (sym (ap (λ (x : List ℕ). eqb (nt x) 0) d) ∙ e)))

kept : (s : State) → Inv s → Kept s
kept s i =
    record {
      formed = every_imp sound well_formed (λ w h. and_left (well_formed w) (settled w && every fits (entries w)) h) s.held i.sounds;
      settles = every_imp sound settled (λ w h. and_left (settled w) (every fits (entries w)) (and_right (well_formed w) _ h)) s.held i.sounds;
      sum = i.sum;
      one = λ h n e. alone s n i h e;
    }

pub ledger : Ledger
ledger cs f = kept (run start cs) (run_inv start cs start_inv f)
