-- Sorting changes the order alone: the sums stay.
use Prim.Native.Nat.{ℕ}
use mathlib.Core.Path.{◌≡◌, refl}
use mathlib.Core.List.{List, [], ◌∷◌}
use Rattle.chunk.specs.Entry.{Entry}
use Rattle.chunk.specs.Sums.{total}
use Rattle.sort.specs.Sort.{sort, insert, not_after}
use Rattle.laws.proofs.Tests.{by_test}
use Rattle.ledger.proofs.Whole.{swap_first}
use Rattle.ledger.proofs.Lists.{part, total-cons}

insert-total : (k v t : ℕ) (a : Entry) (es : List Entry) → total k v t (insert a es) ≡ total k v t (a ∷ es)
unfolding insert
insert-total k v t a [] = refl
insert-total k v t a (b ∷ es) =
    by_test (not_after a b) (λ q. simp q)
    (λ q. simp q (cc (
      total-cons k v t b (insert a es),
      insert-total k v t a es,
      total-cons k v t a es,
      total-cons k v t a (b ∷ es),
      total-cons k v t b es,
      swap_first (part k v t b) (part k v t a) (total k v t es),
    )))

pub sort-total : (k v t : ℕ) (es : List Entry) → total k v t (sort es) ≡ total k v t es
unfolding sort
sort-total k v t [] = refl
sort-total k v t (a ∷ es) = cc (insert-total k v t a (sort es), total-cons k v t a (sort es), sort-total k v t es, total-cons k v t a es)
