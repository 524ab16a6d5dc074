-- Ordered tests: what an answer says of them, and how they go by the rows of a table.
use Prim.Native.Nat.{ℕ}
use mathlib.Core.Path.{◌≡◌, refl, sym, ◌∙◌}
use mathlib.Core.Logic.{inl, inr}
use mathlib.Core.Bool.{Bool, true, false, not}
use mathlib.Core.List.{List, [], ◌∷◌, ◌++◌}
use lib.Dec.{eqb}
use borrow.Author.Tests.{eqb-false, not-true}
use Rattle.chunk.specs.Entry.{every}
use Rattle.chunk.specs.Refusal.{Test, first}
use Rattle.laws.proofs.Tests.{by_test, and_left, and_right}
use Rattle.whole.specs.Whole.{and_then}
use Rattle.whole.proofs.Parts.{ends}
use Rattle.ledger.specs.Refusals.{Row, Given, NoneHolds, GoesBy}

-- none of the tests holds
abbrev pub Passed : List Test → Type 0
Passed [] = Unit {0}
Passed (t ∷ ts) = (t.fails ≡ false) × Passed ts

-- no test has the number 0
abbrev pub numbered : List Test → Bool
numbered ts = every (λ (t : Test). not (eqb t.number 0)) ts

not-zero : (t : Test) (ts : List Test) → numbered (t ∷ ts) ≡ true → t.number ≡ 0 → ⊥
unfolding every
not-zero t ts n z = eqb-false t.number 0 (not-true _ (and_left _ _ n)) z

numbered_rest : (t : Test) (ts : List Test) → numbered (t ∷ ts) ≡ true → numbered ts ≡ true
unfolding every
numbered_rest t ts n = and_right (not (eqb t.number 0)) _ n

-- an answer of 0 is that no test holds
pub passed : (ts : List Test) → numbered ts ≡ true → first ts ≡ 0 → Passed ts
unfolding first
passed [] n h = tt
passed (t ∷ ts) n h =
    by_test t.fails
    (λ f. absurd (not-zero t ts n (simp f at h)))
    (λ f. (f, passed ts (numbered_rest t ts n) (simp f at h)))

-- tests after others: the first that holds of those, else of these
pub first-append : (ts us : List Test) → numbered ts ≡ true → first (ts ++ us) ≡ and_then (first ts) (first us)
unfolding first
first-append [] us n = refl
first-append (t ∷ ts) us n =
    by_test t.fails
    (λ f. simp f (sym (ends t.number (first us) (not-zero t ts n))))
    (λ f. simp f (first-append ts us (numbered_rest t ts n)))

-- where none of the tests before holds
pub passes : (ts us : List Test) → Passed ts → first (ts ++ us) ≡ first us
unfolding first
passes [] us p = refl
passes (t ∷ ts) us p = simp p.0 (passes ts us p.1)

-- ---- tests that decide rows

-- a test holds exactly where a row does
pub record Decides (t : Test) (r : Row) : Type 0 where
  pub number : t.number ≡ r.number
  pub yes_holds : t.fails ≡ true → r.holds
  pub no_holds : t.fails ≡ false → r.holds → ⊥

-- each test decides its row where those before it failed to hold
abbrev pub Decide : List Test → List Row → Type 0
Decide [] [] = Unit {0}
Decide [] (r ∷ rs) = ⊥
Decide (t ∷ ts) [] = ⊥
Decide (t ∷ ts) (r ∷ rs) = Decides t r × (t.fails ≡ false → Decide ts rs)

-- tests after others
pub decide_append : (ts us : List Test) (rs qs : List Row) → Decide ts rs → Decide us qs → Decide (ts ++ us) (rs ++ qs)
decide_append [] us [] qs d e = e
decide_append [] us (r ∷ rs) qs d e = absurd d
decide_append (t ∷ ts) us [] qs d e = absurd d
decide_append (t ∷ ts) us (r ∷ rs) qs d e = (d.0, λ f. decide_append ts us rs qs (d.1 f) e)

given : (ts : List Test) (rs : List Row) → Decide ts rs → (n : ℕ) → (n ≡ 0 → ⊥) → first ts ≡ n → Given n rs
unfolding first
given [] [] d n z h = z (sym h)
given [] (r ∷ rs) d n z h = absurd d
given (t ∷ ts) [] d n z h = absurd d
given (t ∷ ts) (r ∷ rs) d n z h =
    by_test t.fails
    (λ f. inl (sym d.0.number ∙ simp f at h, d.0.yes_holds f))
    (λ f. inr (d.0.no_holds f, given ts rs (d.1 f) n z (simp f at h)))

answered : (ts : List Test) (rs : List Row) → Decide ts rs → (n : ℕ) → Given n rs → first ts ≡ n
unfolding first
answered [] [] d n g = absurd g
answered [] (r ∷ rs) d n g = absurd d
answered (t ∷ ts) [] d n g = absurd d
answered (t ∷ ts) (r ∷ rs) d n (inl h) = by_test t.fails (λ f. simp f (d.0.number ∙ h.0)) (λ f. absurd (d.0.no_holds f h.1))
answered (t ∷ ts) (r ∷ rs) d n (inr g) =
    by_test t.fails
    (λ f. absurd (g.0 (d.0.yes_holds f)))
    (λ f. simp f (answered ts rs (d.1 f) n g.1))

none-holds : (ts : List Test) (rs : List Row) → Decide ts rs → Passed ts → NoneHolds rs
none-holds [] [] d p = tt
none-holds [] (r ∷ rs) d p = absurd d
none-holds (t ∷ ts) [] d p = absurd d
none-holds (t ∷ ts) (r ∷ rs) d p = (d.0.no_holds p.0, none-holds ts rs (d.1 p.0) p.1)

accepts : (ts : List Test) (rs : List Row) → Decide ts rs → NoneHolds rs → first ts ≡ 0
unfolding first
accepts [] [] d h = refl
accepts [] (r ∷ rs) d h = absurd d
accepts (t ∷ ts) [] d h = absurd d
accepts (t ∷ ts) (r ∷ rs) d h =
    by_test t.fails
    (λ f. absurd (h.0 (d.0.yes_holds f)))
    (λ f. simp f (accepts ts rs (d.1 f) h.1))

-- the first test that holds goes by the rows that the tests decide
pub goes_by : (ts : List Test) (rs : List Row) → numbered ts ≡ true → Decide ts rs → GoesBy rs (first ts)
goes_by ts rs n d =
    record {
      refused = λ m z. (given ts rs d m z, answered ts rs d m);
      accepted = (λ h. none-holds ts rs d (passed ts n h), accepts ts rs d);
    }
