-- The ranges of a split: all entries, none, the first n and the rest.
use Prim.Native.Nat.{ℕ, ◌-◌, ◌<◌, ◌≤◌, min}
use mathlib.Core.Path.{◌≡◌, sym, ◌∙◌, ap}
use mathlib.Core.Bool.{true}
use mathlib.Core.List.{List}
use native.Mathlib.Omega.{arith}
use lib.Dec.{ltb}
use lib.ListN.{length, take, drop, length-drop, drop_of_length-le}
use lib.Seq.{take_all}
use borrow.Author.Tests.{ltb-true, ltb-false}
use Rattle.chunk.specs.Words.{well_formed, entries, nt}
use Rattle.laws.specs.Picked.{part}
use Rattle.laws.proofs.Tests.{by_test}
use Rattle.laws.proofs.OneChunk.{front_is_chunk}

-- a range of all entries, and of none
pub part-all : (w : List ℕ) → well_formed w ≡ true → (a b n : ℕ) → n ≡ nt w → b - a ≡ n → b ≤ nt w → a < b → part a b (entries w) ≡ entries w
part-all w formed a b n e h g k =
    let l = (front_is_chunk w formed).counted in
    let z : a ≡ 0 = omega arith in
    (λ i. take (b - a) (drop (z i) (entries w))) ∙ take_all (b - a) (entries w) (omega arith)

pub part_none : {A : Type 0} (a b : ℕ) (l : List A) → a ≡ b → length (part a b l) ≡ 0
part_none a b l e = let z : b - a ≡ 0 = omega arith in ap (λ (n : ℕ). length (take n (drop a l))) z

-- the first n, and the rest, as ranges
pub first_part : (w : List ℕ) → well_formed w ≡ true → (n cut all : ℕ) → all ≡ nt w → cut ≡ min n all → part 0 cut (entries w) ≡ take n (entries w)
first_part w formed n cut all e h =
    let l = (front_is_chunk w formed).counted in
    by_test (ltb all n)
    (λ k. let g : all < n = ltb-true _ _ k in take_all (cut - 0) (entries w) (omega arith) ∙ sym (take_all n (entries w) (omega arith)))
    (λ k. let g : n ≤ all = ltb-false _ _ k in let z : cut - 0 ≡ n = omega arith in ap (λ (j : ℕ). take j (entries w)) z)

pub rest_part : (w : List ℕ) → well_formed w ≡ true → (n cut all : ℕ) → all ≡ nt w → cut ≡ min n all → part cut all (entries w) ≡ drop n (entries w)
rest_part w formed n cut all e h =
    let l = (front_is_chunk w formed).counted in
    let d = length-drop cut (entries w) in
    take_all (all - cut) (drop cut (entries w)) (omega arith)
    ∙ by_test (ltb all n)
    (λ k. let g : all < n = ltb-true _ _ k in
    let lc : length (entries w) ≤ cut = omega arith in
    let ln : length (entries w) ≤ n = omega arith in
    drop_of_length-le (entries w) lc ∙ sym (drop_of_length-le (entries w) ln))
    (λ k. let g : n ≤ all = ltb-false _ _ k in let z : cut ≡ n = omega arith in ap (λ (j : ℕ). drop j (entries w)) z)
