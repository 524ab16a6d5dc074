-- One look over the times: the corners of the times so far, with the open times that are left, have the least times of all.
use Prim.Native.Nat.{ℕ, suc, ◌+◌, ◌-◌, ◌<◌, ◌≤◌}
use mathlib.Core.Path.{◌≡◌, refl, sym, ◌∙◌, ap}
use mathlib.Core.Bool.{Bool, true, false, cond}
use mathlib.Core.List.{List, [], ◌∷◌, ◌++◌, append-nil}
use native.Mathlib.Omega.{arith}
use native.Mathlib.Numerals.{add-one}
use lib.Dec.{leb}
use lib.ListN.{length, take, drop, get_or, replicate, length-append, length-replicate, drop_of_length-le}
use lib.Seq.{drop-cons, take-append_seam}
use borrow.Author.Tests.{le-leb}
use Rattle.chunk.specs.Entry.{keep}
use Rattle.laws.proofs.Tests.{by_test, true-not-false}
use Rattle.std.specs.Prelude.{Option, None, Some}
use Rattle.retain.specs.declared.Kept.{Kept}
use Rattle.retain.specs.declared.Frontier.{Frontier}
use Rattle.retain.specs.Frontier.{any, is_open, ordered, least_of, places}
use Rattle.retain.specs.Layers.{bit}
use Rattle.retain.specs.Found.{Standing, Joined, joined, corners_of, corners_as, frontier_with, kept_with, kept_by}
use Rattle.retain.proofs.Joining.{member, below_trans, joined-or, pass_over, put_among, joined-ordered, ordered_least}
use Rattle.chunk.specs.Time.{at_or_below}
use Rattle.retain.proofs.Alone.{has, some-has}
use Rattle.retain.proofs.Spots.{standing-length}

keep_next : (p : ℕ → Bool) (l : List ℕ) (i : ℕ) → i < length l → keep p (drop i l) ≡ cond (p (get_or l i 0)) (get_or l i 0 ∷ keep p (drop (i + 1) l)) (keep p (drop (i + 1) l))
unfolding keep
keep_next p l i h = rw (add-one, drop-cons l i 0)

keep-nil : (p : ℕ → Bool) → keep p [] ≡ []
unfolding keep
keep-nil p = refl

-- a time with an open corner at or below it is open
open_through : (upper corners : List ℕ) (t : ℕ) → ((x : ℕ) → has x corners ≡ true → is_open upper x ≡ true) → is_open corners t ≡ true → is_open upper t ≡ true
unfolding is_open
open_through upper corners t f h =
    let m = member (λ (s : ℕ). at_or_below s t) corners h in
    let n = member (λ (s : ℕ). at_or_below s m.value) upper (f m.value m.among) in
    some-has (λ (s : ℕ). at_or_below s t) n.value upper n.among (below_trans n.value m.value t n.passes m.passes)

module _ (upper times : List ℕ) where
  -- the open times from i on
  abbrev rest : ℕ → List ℕ
  rest i = keep (is_open upper) (drop i times)

  rest_in : (i : ℕ) → i < length times → is_open upper (get_or times i 0) ≡ true → rest i ≡ get_or times i 0 ∷ rest (i + 1)
  rest_in i h o = keep_next (is_open upper) times i h ∙ simp o

  rest_out : (i : ℕ) → i < length times → is_open upper (get_or times i 0) ≡ false → rest i ≡ rest (i + 1)
  rest_out i h o = keep_next (is_open upper) times i h ∙ simp o

  rest_end : (i : ℕ) → length times ≤ i → rest i ≡ []
  rest_end i h = ap (keep (is_open upper)) (drop_of_length-le times h) ∙ keep-nil (is_open upper)

  -- counted so far, with those left
  pub record Opened (number i : ℕ) : Type 0 where
    pub onward : i ≤ length times
    pub few : number ≤ i
    pub counted : length (keep (is_open upper) times) ≡ number + length (rest i)

  pub opened_start : Opened 0 0
  opened_start = record { onward = omega arith; few = omega arith; counted = omega arith }

  pub opened_in : (number i : ℕ) → Opened number i → i < length times → is_open upper (get_or times i 0) ≡ true → Opened (number + 1) (i + 1)
  opened_in number i w h o =
      let f = w.few in let q = w.counted in let e : length (rest i) ≡ suc (length (rest (i + 1))) = ap length (rest_in i h o) in
      record { onward = omega arith; few = omega arith; counted = omega arith }

  pub opened_out : (number i : ℕ) → Opened number i → i < length times → is_open upper (get_or times i 0) ≡ false → Opened number (i + 1)
  opened_out number i w h o =
      let f = w.few in let q = w.counted in let e : length (rest i) ≡ length (rest (i + 1)) = ap length (rest_out i h o) in
      record { onward = omega arith; few = omega arith; counted = omega arith }

  pub opened-bit : (number i b : ℕ) → Opened number i → i < length times → b ≡ bit (is_open upper (get_or times i 0)) → Opened (number + b) (i + 1)
  unfolding bit
  opened-bit number i b w h e =
      by_test (is_open upper (get_or times i 0))
      (λ k. let q : b ≡ 1 = simp k at e in rw q (opened_in number i w h k))
      (λ k. let q : number + b ≡ number = (let z : b ≡ 0 = simp k at e in omega arith) in rw q (opened_out number i w h k))

  pub opened_end : (number i : ℕ) → Opened number i → length times ≤ i → number ≡ length (keep (is_open upper) times)
  opened_end number i w h = let q = w.counted in let e : length (rest i) ≡ 0 = ap length (rest_end i h) in omega arith

  pub record Running (corners : List ℕ) (count number i : ℕ) : Type 0 where
    pub opened : Opened number i
    pub standing : Standing corners count
    pub among : (x : ℕ) → has x (take count corners) ≡ true → is_open upper x ≡ true
    pub whole : least_of (keep (is_open upper) times) ≡ least_of (take count corners ++ rest i)

  no_corner : (x : ℕ) → has x (take 0 (replicate 128 0)) ≡ true → is_open upper x ≡ true
  unfolding any
  no_corner x h = absurd (true-not-false (sym h))

  pub running_start : Running (replicate 128 0) 0 0 0
  unfolding ordered
  running_start = record { opened = opened_start; standing = record { within = omega arith; size = refl; filled = refl; stairs = refl }; among = no_corner; whole = refl }

  module _ (corners : List ℕ) (count number i : ℕ) (w : Running corners count number i) (h : i < length times) where
    -- a time that has a corner at or below it
    pub running_over : is_open (take count corners) (get_or times i 0) ≡ true → Running corners count (number + 1) (i + 1)
    running_over d =
        let o : is_open upper (get_or times i 0) ≡ true = open_through upper (take count corners) (get_or times i 0) w.among d in
        record {
          opened = opened_in number i w.opened h o;
          standing = w.standing;
          among = w.among;
          whole = w.whole ∙ ap (λ (l : List ℕ). least_of (take count corners ++ l)) (rest_in i h o) ∙ pass_over (take count corners) (rest (i + 1)) (get_or times i 0) d;
        }

    -- one that is not open
    pub running_out : is_open upper (get_or times i 0) ≡ false → Running corners count number (i + 1)
    running_out o =
        record {
          opened = opened_out number i w.opened h o;
          standing = w.standing;
          among = w.among;
          whole = w.whole ∙ ap (λ (l : List ℕ). least_of (take count corners ++ l)) (rest_out i h o);
        }

    -- the two tests as bits: the corners have no more at or below a time than the frontier
    pub running_same : (p q : ℕ) → p ≡ bit (is_open (take count corners) (get_or times i 0)) → q ≡ bit (is_open upper (get_or times i 0)) → q ≤ p → Running corners count (number + q) (i + 1)
    unfolding bit
    running_same p q ep eq b =
        by_test (is_open upper (get_or times i 0))
        (λ o. let z : q ≡ 1 = simp o at eq in
        by_test (is_open (take count corners) (get_or times i 0))
        (λ d. rw z (running_over d))
        (λ d. let y : p ≡ 0 = simp d at ep in absurd (omega arith)))
        (λ o. let z : number + q ≡ number = (let y : q ≡ 0 = simp o at eq in omega arith) in rw z (running_out o))

    pub newly : (p q : ℕ) → p ≡ bit (is_open (take count corners) (get_or times i 0)) → q ≡ bit (is_open upper (get_or times i 0)) → p < q
        → (is_open (take count corners) (get_or times i 0) ≡ false) × ((is_open upper (get_or times i 0) ≡ true) × (q ≡ 1))
    unfolding bit
    newly p q ep eq b =
        by_test (is_open upper (get_or times i 0))
        (λ o. let z : q ≡ 1 = simp o at eq in
        by_test (is_open (take count corners) (get_or times i 0))
        (λ d. let y : p ≡ 1 = simp d at ep in absurd (omega arith))
        (λ d. (d, (o, z))))
        (λ o. let y : q ≡ 0 = simp o at eq in absurd (omega arith))

    -- an open one with none at or below it
    pub running_on : (r : ℕ) (after : List ℕ) → is_open (take count corners) (get_or times i 0) ≡ false → is_open upper (get_or times i 0) ≡ true
        → Joined (get_or times i 0) (take count corners) r after → r ≤ 128 → Running after r (number + 1) (i + 1)
    running_on r after shut o j b =
        let t : ℕ = get_or times i 0 in
        let s : List ℕ = take count corners in
        let n : r ≡ length (joined t s) = j.number in
        let f : after ≡ places (joined t s) = j.standing b in
        let front : take r after ≡ joined t s = (λ k. take (n k) (f k)) ∙ take-append_seam (joined t s) (replicate (128 - length (joined t s)) 0) in
        record {
          opened = opened_in number i w.opened h o;
          standing = record {
            within = b;
            size = ap length f ∙ length-append (joined t s) (replicate (128 - length (joined t s)) 0)
                ∙ ap (λ (k : ℕ). length (joined t s) + k) (length-replicate {A = ℕ} (128 - length (joined t s)) 0) ∙ omega arith;
            filled = f ∙ ap places (sym front);
            stairs = ap ordered front ∙ joined-ordered s t w.standing.stairs shut;
          };
          among = λ x m. joined-or x t s _ (ap (has x) (sym front) ∙ m) (λ e. ap (is_open upper) e ∙ o) (w.among x);
          whole =
              w.whole ∙ ap (λ (l : List ℕ). least_of (s ++ l)) (rest_in i h o)
              ∙ put_among s (rest (i + 1)) t
              ∙ ap (λ (l : List ℕ). least_of (l ++ rest (i + 1))) (sym front);
        }

  pub running_end : (corners : List ℕ) (count number i : ℕ) → Running corners count number i → length times ≤ i
      → ◌≡◌ {A = Option Kept} (Some (record { number = number; frontier = record { count = count; corners = corners } })) (kept_by (keep (is_open upper) times))
  running_end corners count number i w h =
      let s : List ℕ = take count corners in
      let n : length s ≡ count = standing-length corners count w.standing in
      let l : least_of (keep (is_open upper) times) ≡ s = w.whole ∙ ap (λ (x : List ℕ). least_of (s ++ x)) (rest_end i h) ∙ ap least_of (append-nil s) ∙ ordered_least s w.standing.stairs in
      let b : leb (length s) 128 ≡ true = le-leb (length s) 128 (omega (arith, w.standing.within)) in
      let c : corners_as true s ≡ corners_of (least_of (keep (is_open upper) times)) = ap (λ (x : Bool). corners_as x s) (sym b) ∙ ap corners_of (sym l) in
      (λ k. Some (record { number = opened_end number i w.opened h k; frontier = filled k })) ∙ ap (kept_with (length (keep (is_open upper) times))) c
    where
      filled : ◌≡◌ {A = Frontier} (record { count = count; corners = corners }) (frontier_with (take count corners))
      filled = λ k. record { count = sym (standing-length corners count w.standing) k; corners = w.standing.filled k }

-- the same from its parts
pub kept_some : (ts : List ℕ) (f : Frontier) (number : ℕ) → Some f ≡ corners_of (least_of ts) → number ≡ length ts
    → ◌≡◌ {A = Option Kept} (Some (record { number = number; frontier = f })) (kept_by ts)
kept_some ts f number e h = λ k. kept_with (h k) (e k)

pub kept_none : (ts : List ℕ) → None ≡ corners_of (least_of ts) → None ≡ kept_by ts
kept_none ts e = ap (kept_with (length ts)) e
