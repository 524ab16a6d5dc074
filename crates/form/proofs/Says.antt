-- What the calls leave says the sums of the updates, and their order does not matter: the theorems of `specs/Theorems.antt` about the calls.
use Rattle.std.proofs.Common.{◌≡◌, ℕ, suc, ◌+◌, ◌*◌, ◌/◌, ◌%◌, ◌≤◌, Bool, true, false, cond, not, ◌&&◌, eqb, ltb, List, [], ◌∷◌, ◌++◌, length, drop, ℤ, ◌+ℤ◌, sym, refl, ap, ◌∙◌, subst, arith, ltb-false}
use lib.IntN.{+ℤ_assoc, +ℤ_comm}
use borrow.Author.Tests.{not-false}
use Rattle.chunk.specs.Words.{limit}
use Rattle.chunk.specs.Entry.{Entry, change, stands, every}
use Rattle.chunk.specs.Bodies.{chunk_of}
use Rattle.chunk.specs.Refusal.{Test, first, refuse, written}
use Rattle.chunk.specs.Sums.{total}
use Rattle.laws.specs.OneChunk.{Says}
use Rattle.laws.proofs.Tests.{by_test}
use Rattle.laws.proofs.OneChunk.{chunk_says, settled_stands}
use Rattle.sort.specs.Sort.{updates, words_of, not_after, insert, sort}
use Rattle.sort.specs.Heap.{Perm, nil, cons, swap, trans}
use Rattle.sort.proofs.Updates.{count_whole}
use Rattle.sort.proofs.Perms.{perm_length, sort_perm}
use Rattle.form.specs.Form.{formed, falls, in_range, kept, form_number, form_out, unsorted_number, unsorted_out, unsorted_updates}
use Rattle.form.specs.Theorems.{SaysSums, FormSays, UnsortedSays, UnsortedPermuted}
use Rattle.form.proofs.Formed.{formed_rises, formed-stands, formed-length, formed-total, words_fit, stood, fronted}
use Rattle.form.proofs.Sorted.{and_swap, sort_unfallen, sort-every, sort-length}
use Rattle.form.proofs.Whole.{room_tests}

-- ---- a position's sum does not go by the order

module _ (k v t : ℕ) where
  -- two entries in front say the same in either order
  turned : (p q : Bool) (x y z : ℤ) → cond p (x +ℤ cond q (y +ℤ z) z) (cond q (y +ℤ z) z) ≡ cond q (y +ℤ cond p (x +ℤ z) z) (cond p (x +ℤ z) z)
  turned true true x y z = sym (+ℤ_assoc x y z) ∙ ap (λ (s : ℤ). s +ℤ z) (+ℤ_comm x y) ∙ +ℤ_assoc y x z
  turned true false x y z = refl
  turned false true x y z = refl
  turned false false x y z = refl

  pub total-swap : (a b : Entry) (es : List Entry) → total k v t (a ∷ b ∷ es) ≡ total k v t (b ∷ a ∷ es)
  unfolding total
  total-swap a b es = turned (stood k v t a) (stood k v t b) (change a.diff) (change b.diff) (total k v t es)

  total-insert : (a : Entry) (es : List Entry) → total k v t (insert a es) ≡ total k v t (a ∷ es)
  unfolding insert
  total-insert a [] = refl
  total-insert a (b ∷ es) =
      by_test (not_after a b)
      (λ (n : not_after a b ≡ true). rw n)
      (λ (n : not_after a b ≡ false). rw n (fronted k v t b (insert a es) (a ∷ es) (total-insert a es) ∙ total-swap b a es))

  pub total-sort : (es : List Entry) → total k v t (sort es) ≡ total k v t es
  unfolding sort
  total-sort [] = refl
  total-sort (a ∷ es) = total-insert a (sort es) ∙ fronted k v t a (sort es) es (total-sort es)

-- ---- the chunk of what is formed

says : (us w : List ℕ) (es : List Entry) (rest : List ℕ) → w ≡ chunk_of (formed es) ++ rest → falls es ≡ false → every in_range es ≡ true → length es ≤ limit
    → ((k v t : ℕ) → total k v t es ≡ total k v t (updates us)) → SaysSums us w
says us w es rest q f r l same =
    let m : length (formed es) ≤ limit = omega (arith, formed-length es) in
    let c : Says (formed es) w = subst (λ (x : List ℕ). Says (formed es) x) (sym q) (chunk_says (formed es) rest (formed_rises es f) m) in
    record {
      formed = c.formed;
      settles = settled_stands w c.formed ∙ ap (λ (l : List Entry). every stands l) c.read ∙ formed-stands es;
      sums = λ k v t. ap (λ (l : List Entry). total k v t l) c.read ∙ formed-total k v t es r l ∙ same k v t;
    }

-- a test that is passed, and those after it
passes : (n : ℕ) (b : Bool) (ts : List Test) → first (refuse (suc n) b ∷ ts) ≡ 0 → b ≡ false
unfolding first
passes n true ts h = absurd (omega arith)
passes n false ts h = refl

after : (n : ℕ) (b : Bool) (ts : List Test) → first (refuse (suc n) b ∷ ts) ≡ 0 → first ts ≡ 0
unfolding first
after n true ts h = absurd (omega arith)
after n false ts h = h

few : (us : List ℕ) → ltb limit (length us / 4) ≡ false → length (updates us) ≤ limit
few us h = let l : length us / 4 ≤ limit = ltb-false _ _ h in omega (arith, count_whole us)

pub form_says : FormSays
unfolding form_number form_out written
form_says us out h =
    let r4 : List Test = refuse 4 (not (every in_range (updates us))) ∷ room_tests us out in
    let r3 : List Test = refuse 3 (falls (updates us)) ∷ r4 in
    let r2 : List Test = refuse 2 (ltb limit (length us / 4)) ∷ r3 in
    let h2 : first r2 ≡ 0 = after 0 (not (eqb (length us % 4) 0)) r2 h in
    let h3 : first r3 ≡ 0 = after 1 (ltb limit (length us / 4)) r3 h2 in
    let h4 : first r4 ≡ 0 = after 2 (falls (updates us)) r4 h3 in
    says us (form_out us out) (updates us) (drop (length (chunk_of (formed (updates us)))) out) (ap (λ (m : ℕ). written m (formed (updates us)) out) h)
    (passes 2 (falls (updates us)) r4 h3) (not-false _ (passes 3 (not (every in_range (updates us))) (room_tests us out) h4)) (few us (passes 1 (ltb limit (length us / 4)) r3 h2)) (λ k v t. refl)

pub unsorted_says : UnsortedSays
unfolding unsorted_number unsorted_out written
unsorted_says us out h =
    let r4 : List Test = refuse 4 (not (every in_range (updates us))) ∷ room_tests us out in
    let r2 : List Test = refuse 2 (ltb limit (length us / 4)) ∷ r4 in
    let h2 : first r2 ≡ 0 = after 0 (not (eqb (length us % 4) 0)) r2 h in
    let h4 : first r4 ≡ 0 = after 1 (ltb limit (length us / 4)) r4 h2 in
    says us (unsorted_out us out) (sort (updates us)) (drop (length (chunk_of (formed (sort (updates us))))) out) (ap (λ (m : ℕ). written m (formed (sort (updates us))) out) h)
    (sort_unfallen (updates us)) (sort-every in_range (updates us) ∙ not-false _ (passes 3 (not (every in_range (updates us))) (room_tests us out) h4))
    (omega (arith, sort-length (updates us), few us (passes 1 (ltb limit (length us / 4)) r4 h2))) (λ k v t. total-sort k v t (updates us))

-- ---- any order

every_perm : (p : Entry → Bool) {l m : List Entry} → Perm l m → every p l ≡ every p m
unfolding every
every_perm p nil = refl
every_perm p (cons a q) = ap (λ (t : Bool). p a && t) (every_perm p q)
every_perm p (swap a b l) = and_swap (p b) (p a) (every p l)
every_perm p (trans q r) = every_perm p q ∙ every_perm p r

-- the number goes by the count of words and by whether all is in range
abbrev number_by : List ℕ → ℕ → ℕ → Bool → ℕ
number_by out part count inside =
    first (
    refuse 1 (not (eqb part 0))
    ∷ refuse 2 (ltb limit count)
    ∷ refuse 4 (not inside)
    ∷ refuse 13 (ltb (length out) (4 + 7 * count))
    ∷ [])

number_by_lem : (us out : List ℕ) → unsorted_number us out ≡ number_by out (length us % 4) (length us / 4) (every in_range (updates us))
unfolding unsorted_number
number_by_lem us out = refl

pub unsorted_permuted : UnsortedPermuted
unfolding unsorted_out unsorted_updates
unsorted_permuted us vs out wu wv p w =
    let e : length us / 4 ≡ length vs / 4 = count_whole us ∙ perm_length p ∙ sym (count_whole vs) in
    let s : sort (updates us) ≡ sort (updates vs) = sort_perm p (words_fit (updates us) w) in
    let n : unsorted_number us out ≡ unsorted_number vs out =
    number_by_lem us out ∙ (λ i. number_by out ((wu ∙ sym wv) i) (e i) (every_perm in_range p i)) ∙ sym (number_by_lem vs out) in
    record {
      number = n;
      written = λ i. written (n i) (formed (s i)) out;
      left = λ z.
          ap (λ (m : ℕ). kept m (words_of (sort (updates us))) us) z
          ∙ ap (λ (l : List Entry). words_of l) s
          ∙ sym (ap (λ (m : ℕ). kept m (words_of (sort (updates vs))) vs) (sym n ∙ z));
    }
