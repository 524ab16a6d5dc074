-- Updates that are sorted do not fall, and are as many, in the same range and the same words.
use Rattle.std.proofs.Common.{◌≡◌, suc, ◌*◌, Bool, true, false, ◌&&◌, ◌||◌, List, [], ◌∷◌, length, refl, ap, ◌∙◌, arith}
use Rattle.chunk.specs.Entry.{Entry, before, same, every}
use Rattle.sort.specs.Sort.{updates, words_of, not_after, insert, sort}
use Rattle.laws.proofs.Tests.{by_test, and_left}
use Rattle.laws.proofs.Order.{before_asym, before_same, before_irrefl}
use Rattle.form.specs.Form.{falls}
use Rattle.form.proofs.Formed.{or_left, or_right}

-- an update that stands at or before another does not fall to it
not_back : (a b : Entry) → not_after a b ≡ true → before b a ≡ false
not_back a b h =
    by_test (before a b)
    (λ (l : before a b ≡ true). before_asym a b l)
    (λ (l : before a b ≡ false).
    let s : same a b ≡ true = and_left (same a b) _ (rw l at h) in
    before_same a b b s ∙ before_irrefl b)

or_both : (a b : Bool) → a ≡ false → b ≡ false → (a || b) ≡ false
or_both a b h k = rw (h, k)

falls-insert : (b a : Entry) (es : List Entry) → before a b ≡ false → falls (b ∷ es) ≡ false → falls (b ∷ insert a es) ≡ false
unfolding insert falls
falls-insert b a [] h k = rw h
falls-insert b a (x ∷ es) h k =
    by_test (not_after a x)
    (λ (n : not_after a x ≡ true). rw n (or_both (before a b) _ h (or_both (before x a) (falls (x ∷ es)) (not_back a x n) (or_right (before x b) (falls (x ∷ es)) k))))
    (λ (n : not_after a x ≡ false). rw n (or_both (before x b) (falls (x ∷ insert a es)) (or_left (before x b) (falls (x ∷ es)) k) (falls-insert x a es (or_left (before a x) _ n) (or_right (before x b) (falls (x ∷ es)) k))))

insert_unfallen : (a : Entry) (es : List Entry) → falls es ≡ false → falls (insert a es) ≡ false
unfolding insert falls
insert_unfallen a [] h = refl
insert_unfallen a (x ∷ es) h =
    by_test (not_after a x)
    (λ (n : not_after a x ≡ true). rw n (or_both (before x a) (falls (x ∷ es)) (not_back a x n) h))
    (λ (n : not_after a x ≡ false). rw n (falls-insert x a es (or_left (before a x) _ n) h))

pub sort_unfallen : (es : List Entry) → falls (sort es) ≡ false
unfolding sort falls
sort_unfallen [] = refl
sort_unfallen (a ∷ es) = insert_unfallen a (sort es) (sort_unfallen es)

-- ---- what holds of each still does

pub and_swap : (a b d : Bool) → (b && (a && d)) ≡ (a && (b && d))
and_swap true b d = refl
and_swap false true d = refl
and_swap false false d = refl

insert-every : (p : Entry → Bool) (a : Entry) (es : List Entry) → every p (insert a es) ≡ (p a && every p es)
unfolding insert every
insert-every p a [] = refl
insert-every p a (x ∷ es) =
    by_test (not_after a x)
    (λ (n : not_after a x ≡ true). rw n)
    (λ (n : not_after a x ≡ false). rw n (ap (λ (t : Bool). p x && t) (insert-every p a es) ∙ and_swap (p a) (p x) (every p es)))

pub sort-every : (p : Entry → Bool) (es : List Entry) → every p (sort es) ≡ every p es
unfolding sort every
sort-every p [] = refl
sort-every p (a ∷ es) = insert-every p a (sort es) ∙ ap (λ (t : Bool). p a && t) (sort-every p es)

insert-length : (a : Entry) (es : List Entry) → length (insert a es) ≡ suc (length es)
unfolding insert
insert-length a [] = refl
insert-length a (x ∷ es) =
    by_test (not_after a x)
    (λ (n : not_after a x ≡ true). rw n)
    (λ (n : not_after a x ≡ false). rw n (ap suc (insert-length a es)))

pub sort-length : (es : List Entry) → length (sort es) ≡ length es
unfolding sort
sort-length [] = refl
sort-length (a ∷ es) = insert-length a (sort es) ∙ ap suc (sort-length es)

-- ---- words and back

pub updates_words : (es : List Entry) → updates (words_of es) ≡ es
unfolding updates words_of
updates_words [] = refl
updates_words (e ∷ es) = ap (λ (l : List Entry). e ∷ l) (updates_words es)

pub words_length : (es : List Entry) → length (words_of es) ≡ 4 * length es
unfolding words_of
words_length [] = refl
words_length (e ∷ es) = omega (arith, words_length es)
