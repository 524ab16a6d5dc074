-- How merge refuses (document 01, "Merge"): refusals that leave the scratch as it was, and the tests.
use Rattle.std.specs.Prelude.{ℕ, ◌+◌, ◌-◌, ◌*◌, ◌≤◌, cond, ◌≡◌, ltb}
use Rattle.chunk.specs.Words.{limit}
use Rattle.chunk.specs.declared.Contents.{Contents}

-- a refusal other than 14
pub record Refused (n : ℕ) : Type 0 where
  pub not_accepted : n ≡ 0 → ⊥
  pub not_overflow : n ≡ 14 → ⊥

-- ---- the tests of two chunks together, as the call makes them of their contents

-- 2, 12 or 13, or 0
unfoldable pub room_of : Contents → Contents → ℕ → ℕ → ℕ
room_of c0 c1 scratch out =
    cond (ltb limit (c0.nt + c1.nt)) 2
    (cond (ltb scratch (3 * (c0.nk + c0.nv + c0.nt + (c1.nk + c1.nv + c1.nt)))) 12
    (cond (ltb out (c0.size + (c1.size - c1.keys_at))) 13 0))

-- counts that chunks have
pub record SmallEach (c0 c1 : Contents) : Type 0 where
  pub keys0 : c0.nk ≤ limit
  pub vals0 : c0.nv ≤ limit
  pub times0 : c0.nt ≤ limit
  pub size0 : c0.size ≤ 10 * limit
  pub keys1 : c1.nk ≤ limit
  pub vals1 : c1.nv ≤ limit
  pub times1 : c1.nt ≤ limit
  pub size1 : c1.size ≤ 10 * limit
  pub table : c1.keys_at ≤ c1.size
