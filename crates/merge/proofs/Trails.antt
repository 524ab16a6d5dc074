-- The runs that the times end with: who survives by the first of them.
use Rattle.std.proofs.Common.{◌≡◌, ℕ, ◌<◌, List, [], ◌∷◌, length, sym, refl, ap}
use Rattle.chunk.specs.Words.{entries}
use Rattle.chunk.specs.declared.Contents.{Contents}
use Rattle.merge.specs.declared.Cursor.{Cursor}
use Rattle.merge.specs.declared.Survivor.TheVariants.{Nobody, First, Second}
use Rattle.reports.specs.Survey.{Report}
use Rattle.reports.specs.Merge.{Place, place_at}
use Rattle.merge.specs.Suffix.{place_of}
use Rattle.reports.specs.Tail.{survivor_by}
use Rattle.merge.specs.Outcome.{survivor_of, cursor_at}
use Rattle.merge.specs.Said.{by_kind, said}
use Rattle.merge.specs.declared.report.Kind.{Kind}
use Rattle.merge.specs.declared.report.Kind.TheVariants.{This, That, Both}
use Rattle.reports.specs.Mergeable.{StartsIn, Trailing}

module _ (w0 : List ℕ) (c0 : Contents) (w1 : List ℕ) (c1 : Contents) (rs : List Report) (v : Trailing w0 c0 w1 c1 rs) where
  pub no_trail : rs ≡ [] → Nobody ≡ survivor_of (survivor_by (entries w0) (entries w1) rs)
  unfolding survivor_by
  no_trail e = ap (λ (l : List Report). survivor_of (survivor_by (entries w0) (entries w1) l)) (sym e)

  module _ (r : Rattle.merge.specs.declared.report.Report.Report) (later : List Report) (e : rs ≡ said r ∷ later) where
    pub first_starts : r.kind ≡ This → r.low < length (entries w0)
    first_starts i = rw (e, i) at v.starts

    pub second_starts : (r.kind ≡ This → ⊥) → r.low < length (entries w1)
    second_starts i = go r.kind i (rw e at v.starts)
      where
        go : (k : Kind) → (k ≡ This → ⊥) → StartsIn (entries w0) (entries w1) (by_kind k r.low r.high ∷ later) → r.low < length (entries w1)
        go This i v = absurd (i refl)
        go That i v = v
        go Both i v = absurd v

    pub first_trails : (c : Cursor) → r.kind ≡ This → place_of c ≡ place_at (entries w0) r.low → First c ≡ survivor_of (survivor_by (entries w0) (entries w1) rs)
    unfolding survivor_by
    first_trails c i p = rw (e, i) (ap (λ (x : Place). First (cursor_at x)) p)

    pub second_trails : (c : Cursor) → (r.kind ≡ This → ⊥) → place_of c ≡ place_at (entries w1) r.low → Second c ≡ survivor_of (survivor_by (entries w0) (entries w1) rs)
    unfolding survivor_by
    second_trails c i p = rw e (go r.kind i (rw e at v.starts))
      where
        go : (k : Kind) → (k ≡ This → ⊥) → StartsIn (entries w0) (entries w1) (by_kind k r.low r.high ∷ later)
            → Second c ≡ survivor_of (survivor_by (entries w0) (entries w1) (by_kind k r.low r.high ∷ later))
        go This i v = absurd (i refl)
        go That i v = ap (λ (x : Place). Second (cursor_at x)) p
        go Both i v = absurd v
