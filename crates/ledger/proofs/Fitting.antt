-- Every diff that a call writes is a machine word.
use Prim.Native.Nat.{ℕ, ◌^◌}
use mathlib.Core.Path.{◌≡◌, refl}
use mathlib.Core.Bool.{true}
use mathlib.Core.List.{List, [], ◌∷◌}
use borrow.Author.Tests.{ltb-true, lt-ltb}
use Rattle.chunk.specs.Entry.{Entry, before, same, stands, every}
use Rattle.chunk.specs.Sums.{plus, with_diff}
use Rattle.form.specs.Form.{consolidated, formed}
use Rattle.reports.specs.Merge.{insert_add, union, merged}
use Rattle.laws.specs.OneChunk.{is_word, fits}
use Rattle.laws.proofs.Tests.{by_test, and_left, and_right, and_both}
use Rattle.laws.proofs.Wrap.{plus_word}
use Rattle.retain.proofs.Records.{keep-every}

-- a sum's word is a machine word
plus-fits : (a b : ℕ) → is_word a ≡ true → is_word b ≡ true → is_word (plus a b) ≡ true
plus-fits a b h k = lt-ltb (plus a b) (2 ^ 64) (plus_word a b (ltb-true a (2 ^ 64) h) (ltb-true b (2 ^ 64) k))

-- ---- merged

insert_fits : (b : Entry) (es : List Entry) → fits b ≡ true → every fits es ≡ true → every fits (insert_add b es) ≡ true
unfolding insert_add every
insert_fits b [] h k = and_both _ _ h refl
insert_fits b (a ∷ es) h k =
    by_test (before b a) (λ q. simp q (and_both _ _ h k)) λ q.
    by_test (same a b)
    (λ e. simp (q, e) (and_both _ _ (plus-fits a.diff b.diff (and_left (fits a) (every fits es) k) h) (and_right (fits a) _ k)))
    (λ e. simp (q, e) (and_both (fits a) _ (and_left _ _ k) (insert_fits b es h (and_right (fits a) _ k))))

union-fits : (a b : List Entry) → every fits a ≡ true → every fits b ≡ true → every fits (union a b) ≡ true
unfolding union every
union-fits a [] h k = h
union-fits a (x ∷ b) h k = insert_fits x (union a b) (and_left _ _ k) (union-fits a b h (and_right (fits x) _ k))

pub merged-fits : (a b : List Entry) → every fits a ≡ true → every fits b ≡ true → every fits (merged a b) ≡ true
unfolding merged
merged-fits a b h k = keep-every _ fits (union a b) (union-fits a b h k)

-- ---- formed

consolidated-fits : (a : Entry) (es : List Entry) → fits a ≡ true → every fits es ≡ true → every fits (consolidated a es) ≡ true
unfolding consolidated every
consolidated-fits a [] h k = by_test (stands a) (λ q. simp q (and_both (fits a) _ h refl)) (λ q. simp q)
consolidated-fits a (c ∷ es) h k =
    by_test (same a c)
    (λ e. simp e (consolidated-fits (with_diff a (plus a.diff c.diff)) es (plus-fits a.diff c.diff h (and_left (fits c) (every fits es) k)) (and_right (fits c) _ k)))
    (λ e. let rest : every fits (consolidated c es) ≡ true = consolidated-fits c es (and_left _ _ k) (and_right (fits c) _ k) in
    by_test (stands a) (λ q. simp (e, q) (and_both (fits a) _ h rest)) (λ q. simp (e, q) rest))

pub formed-fits : (us : List Entry) → every fits us ≡ true → every fits (formed us) ≡ true
unfolding formed every
formed-fits [] h = refl
formed-fits (a ∷ us) h = consolidated-fits a us (and_left _ _ h) (and_right (fits a) _ h)
