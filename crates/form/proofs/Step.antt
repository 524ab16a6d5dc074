-- One step of a pass: what the counts keep on the way.
use Rattle.std.proofs.Common.{◌≡◌, ℕ, ◌+◌, ◌≤◌, min, Bool, true, false, cond, not, eqb, refl, arith}
use borrow.Author.Tests.{eqb-false}
use Rattle.chunk.specs.Entry.{Entry, same, stands}
use Rattle.laws.proofs.Tests.{by_test}
use Rattle.form.specs.declared.Counts.{Counts}
use Rattle.form.specs.Pass.{counted, opens_key, opens_val, pushed, next_counts, Counting, Some}
use Rattle.form.proofs.Formed.{or_left}

-- a test that adds one or none
one_or-none : (t : Bool) (n m : ℕ) → n ≤ m → cond t (n + 1) n ≤ m + 1
one_or-none true n m h = omega arith
one_or-none false n m h = omega arith

-- a list that is open stays open
opened : (t : Bool) (n m : ℕ) → min 1 m ≤ n → (t ≡ false → eqb m 0 ≡ false) → 1 ≤ cond t (n + 1) n
opened true n m h f = omega arith
opened false n m h f = omega (arith, eqb-false m 0 (f refl))

module _ (n : ℕ) (c : Counts) (e : Entry) (h : Counting n c) where
  key-some : 1 ≤ cond (opens_key c e) (c.nk + 1) c.nk
  key-some = opened (opens_key c e) c.nk c.nt h.keyed (λ (f : opens_key c e ≡ false). or_left _ _ f)

  val-some : 1 ≤ cond (opens_val c e) (c.nv + 1) c.nv
  val-some = opened (opens_val c e) c.nv c.nt h.valued (λ (f : opens_val c e ≡ false). or_left _ (not (eqb c.last.key e.key)) (or_left (opens_key c e) _ f))

  pub some-counted : Some (counted c e)
  some-counted = record { key = key-some; val = val-some; time = omega arith }

  pub counting_counted : Counting (n + 1) (counted c e)
  counting_counted =
      record {
        keys = one_or-none (opens_key c e) _ _ h.keys;
        vals = one_or-none (opens_val c e) _ _ h.vals;
        times = omega (arith, h.times);
        keyed = omega (arith, key-some);
        valued = omega (arith, val-some);
      }

  counting_more : Counting (n + 1) c
  counting_more = record { keys = omega (arith, h); vals = omega (arith, h); times = omega (arith, h); keyed = h.keyed; valued = h.valued }

  pub counting_pushed : Counting (n + 1) (pushed c e)
  counting_pushed =
      by_test (stands e) (λ (s : stands e ≡ true). rw s counting_counted) (λ (s : stands e ≡ false). rw s counting_more)

  pub counting_next : (b : Entry) → Counting (n + 1) (next_counts c e b)
  counting_next b =
      by_test (same e b) (λ (s : same e b ≡ true). rw s counting_more) (λ (s : same e b ≡ false). rw s counting_pushed)
