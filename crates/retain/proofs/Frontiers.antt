-- The theorems on the frontier of the kept times, under the words of `specs/Records.antt`.
use Prim.Native.Nat.{ℕ, zero, suc, ◌<◌, ◌≤◌}
use mathlib.Core.Path.{◌≡◌, refl, sym, ◌∙◌, ap}
use mathlib.Core.Bool.{Bool, true, false, not, ◌&&◌, ◌||◌}
use mathlib.Core.List.{List, [], ◌∷◌}
use native.Mathlib.Omega.{arith}
use lib.Dec.{ltb, eqb}
use lib.ListN.{length}
use borrow.Author.Tests.{ltb-true, ltb-false, eqb-true, le-ltb, eq-eqb, not-true}
use Rattle.chunk.specs.Entry.{tick, keep, every}
use Rattle.chunk.specs.Time.{at_or_below}
use Rattle.laws.proofs.Tests.{by_test, and_left, and_right, and_both, true-not-false}
use Rattle.retain.specs.Frontier.{any, is_open, least_of}
use Rattle.retain.specs.Records.{CornersApart, CornersCover}
use Rattle.retain.proofs.Alone.{has, has-keep, has_least, alone, some-has, number_below, least_cons, lower}

-- every item passes if every member does
every-has : (p : ℕ → Bool) (l : List ℕ) → ((t : ℕ) → has t l ≡ true → p t ≡ true) → every p l ≡ true
unfolding every any
every-has p [] f = refl
every-has p (a ∷ l) f =
    and_both _ _ (f a (simp (eq-eqb a a refl))) (every-has p l (λ t h. f t (by_test (eqb t a) (λ e. simp e) (λ e. simp (e, h)))))

-- no corner is at or below another
pub corners_apart : CornersApart
corners_apart ts =
    every-has _ (least_of ts) (λ c hc. every-has _ (least_of ts) (λ d hd. apart c d (sym (has_least c ts) ∙ hc) (sym (has_least d ts) ∙ hd)))
  where
    apart : (c d : ℕ) → (has c ts && alone ts c) ≡ true → (has d ts && alone ts d) ≡ true → (eqb c d || not (at_or_below c d)) ≡ true
    apart c d hc hd =
        by_test (eqb c d) (λ e. simp e) λ e.
        by_test (at_or_below c d)
        (λ b. let y : any (λ (s : ℕ). not (eqb s d) && at_or_below s d) ts ≡ true = some-has (λ (s : ℕ). not (eqb s d) && at_or_below s d) c ts (and_left _ _ hc) (simp (e, b)) in
        let z : any (λ (s : ℕ). not (eqb s d) && at_or_below s d) ts ≡ false = not-true _ (and_right (has d ts) _ hd) in
        absurd (true-not-false (sym y ∙ z)))
        (λ b. simp (e, b))

-- a list that is not empty has a least number
record Minimum (l : List ℕ) : Type 0 where
  value : ℕ
  among : has value l ≡ true
  least : (t : ℕ) → has t l ≡ true → value ≤ t

minimum : (a : ℕ) (l : List ℕ) → Minimum (a ∷ l)
unfolding any
minimum a [] =
    record { value = a; among = simp (eq-eqb a a refl); least = λ t h. by_test (eqb t a) (λ e. let q : t ≡ a = eqb-true _ _ e in omega arith) (λ e. absurd (true-not-false (sym (simp e at h)))) }
minimum a (b ∷ l) =
    let m : Minimum (b ∷ l) = minimum b l in
    by_test (ltb a m.value)
    (λ k. let q : a < m.value = ltb-true _ _ k in
    record {
      value = a;
      among = simp (eq-eqb a a refl);
      least = λ t h. by_test (eqb t a) (λ e. let z : t ≡ a = eqb-true _ _ e in omega arith) (λ e. let y = m.least t (simp e at h) in omega arith);
    })
    (λ k. let q : m.value ≤ a = ltb-false _ _ k in
    record {
      value = m.value;
      among = by_test (eqb m.value a) (λ e. simp e) (λ e. simp e m.among);
      least = λ t h. by_test (eqb t a) (λ e. let z : t ≡ a = eqb-true _ _ e in omega arith) (λ e. m.least t (simp e at h));
    })

keep_most : (p : ℕ → Bool) (l : List ℕ) → length (keep p l) ≤ length l
unfolding keep
keep_most p [] = omega arith
keep_most p (a ∷ l) =
    let ih : length (keep p l) ≤ length l = keep_most p l in
    by_test (p a) (λ k. simp k (omega arith)) (λ k. simp k (omega arith))

-- fewer are left where a member goes
keep_fewer : (p : ℕ → Bool) (t : ℕ) (l : List ℕ) → has t l ≡ true → p t ≡ false → length (keep p l) < length l
unfolding keep any
keep_fewer p t [] h k = absurd (true-not-false (sym h))
keep_fewer p t (a ∷ l) h k =
    by_test (eqb t a)
    (λ e. let q : p a ≡ false = ap p (sym (eqb-true t a e)) ∙ k in let m = keep_most p l in simp q (omega arith))
    (λ e. let ih : length (keep p l) < length l = keep_fewer p t l (simp e at h) k in
    by_test (p a) (λ m. simp m (omega arith)) (λ m. simp m (omega arith)))

-- that a list's times each have one of its least at or below them
Covered : List ℕ → Type 0
Covered ts = (t : ℕ) → has t ts ≡ true → any (λ (c : ℕ). at_or_below c t) (least_of ts) ≡ true

-- it holds of a list if it holds of all shorter ones
cover_next : (n : ℕ) → ((ts : List ℕ) → length ts ≤ n → Covered ts) → (ts : List ℕ) → length ts ≤ suc n → Covered ts
unfolding Covered any
cover_next n shorter [] b t h = absurd (true-not-false (sym h))
cover_next n shorter (a ∷ l) b t h =
    let m : Minimum (a ∷ l) = minimum a l in
    let e : least_of (a ∷ l) ≡ m.value ∷ least_of (lower m.value (a ∷ l)) = least_cons m.value (a ∷ l) m.among m.least in
    by_test (ltb (tick t) (tick m.value))
    (λ k. let inside : has t (lower m.value (a ∷ l)) ≡ true = has-keep (λ (s : ℕ). ltb (tick s) (tick m.value)) t (a ∷ l) ∙ and_both _ _ h k in
    let few = keep_fewer (λ (s : ℕ). ltb (tick s) (tick m.value)) m.value (a ∷ l) m.among (le-ltb (tick m.value) (tick m.value) (omega arith)) in
    let ih : any (λ (c : ℕ). at_or_below c t) (least_of (lower m.value (a ∷ l))) ≡ true = shorter (lower m.value (a ∷ l)) (omega arith) t inside in
    ap (any (λ (c : ℕ). at_or_below c t)) e ∙ later (at_or_below m.value t) _ ih)
    (λ k. let here : at_or_below m.value t ≡ true = number_below m.value t (m.least t h) (ltb-false _ _ k) in
    ap (any (λ (c : ℕ). at_or_below c t)) e ∙ sooner (at_or_below m.value t) _ here)
  where
    later : (x y : Bool) → y ≡ true → (x || y) ≡ true
    later true y h = refl
    later false y h = h

    sooner : (x y : Bool) → x ≡ true → (x || y) ≡ true
    sooner x y h = simp h

nothing : Covered []
unfolding Covered any
nothing t h = absurd (true-not-false (sym h))

-- every time has one of the least at or below it
cover : (n : ℕ) (ts : List ℕ) → length ts ≤ n → Covered ts
cover zero ts b = cover_next zero (λ fs d. empty fs d) ts (omega arith)
  where
    empty : (fs : List ℕ) → length fs ≤ 0 → Covered fs
    empty [] d = nothing
    empty (a ∷ l) d = absurd (omega arith)
cover (suc n) ts b = cover_next n (cover n) ts b

pub corners_cover : CornersCover
unfolding is_open Covered
corners_cover ts = every-has _ ts (λ t h. cover (length ts) ts (omega arith) t h)
