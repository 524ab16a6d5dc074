-- A time put among corners that stand at the front of 128 places: those behind it move, and what is left behind them is filled with zeros.
use Prim.Native.Nat.{ℕ, suc, ◌+◌, ◌-◌, ◌<◌, ◌≤◌}
use mathlib.Core.Path.{◌≡◌, sym, ◌∙◌, ap, subst}
use mathlib.Core.Bool.{true, false}
use mathlib.Core.List.{List, [], ◌∷◌, ◌++◌, append_assoc}
use native.Mathlib.Omega.{arith}
use lib.Dec.{leb, eqb}
use lib.ListN.{length, take, drop, get_or, set, replicate, length-append, length-drop, replicate-append-replicate, take-append-drop}
use lib.Seq.{paste, length-take-le, take-take, take-suc-set, take-set-lt, drop-append-add, set-append_left, drop-drop, take_at, drop_at, append_snoc}
use Rattle.std.proofs.lemmas.List.{drop-take, drop-replicate}
use borrow.Author.Tests.{leb-false, eqb-true, eqb-false, le-leb}
use borrow.Rule.Slice.PartMut.{put_mid}
use Rattle.chunk.specs.Entry.{ignition, tick}
use Rattle.chunk.specs.Time.{at_or_below}
use Rattle.laws.proofs.Tests.{by_test, and_both, true-not-false}
use Rattle.retain.specs.Frontier.{is_open, ordered}
use Rattle.retain.specs.Found.{Before, Passed, Standing, Joined, joined}
use Rattle.retain.proofs.Stairs.{any_some, ordered_at}
use Rattle.retain.proofs.Joining.{Spot, joined_split}

-- the place found and the end of the run make the spot
pub spot : (corners : List ℕ) (t n end : ℕ) → ordered corners ≡ true → is_open corners t ≡ false → Before corners t n → Passed corners t n end → Spot corners t n end
unfolding is_open
spot corners t n end o shut b p =
    record {
      onward = p.onward;
      early = λ k h j. b.early k h;
      middle = λ k h j m. and_both _ _ (le-leb (ignition t) (ignition (get_or corners k 0)) (b.late k h m)) (le-leb (tick t) (tick (get_or corners k 0)) (p.high k h j));
      late = λ k h m. record { right = right k h m; down = down k h m };
    }
  where
    down : (k : ℕ) → end ≤ k → k < length corners → tick (get_or corners k 0) < tick t
    down k h m =
        by_test (eqb k end)
        (λ e. let z : k ≡ end = eqb-true _ _ e in let q : get_or corners k 0 ≡ get_or corners end 0 = ap (λ (x : ℕ). get_or corners x 0) z in let l : tick (get_or corners end 0) < tick t = p.low (omega arith) in omega arith)
        (λ e. let z : k ≡ end → ⊥ = eqb-false _ _ e in
        let l : tick (get_or corners end 0) < tick t = p.low (omega arith) in
        let s : tick (get_or corners k 0) < tick (get_or corners end 0) = (ordered_at corners o end k (omega arith) m).down in omega arith)

    right : (k : ℕ) → end ≤ k → k < length corners → ignition t < ignition (get_or corners k 0)
    right k h m =
        by_test (leb (ignition (get_or corners k 0)) (ignition t))
        (λ e. let d : tick (get_or corners k 0) < tick t = down k h m in
        absurd (true-not-false (sym (any_some (λ (s : ℕ). at_or_below s t) corners k m (and_both _ _ e (le-leb (tick (get_or corners k 0)) (tick t) (omega arith)))) ∙ shut)))
        (λ e. leb-false _ _ e)

-- ---- lists

-- a time in the place of some, and those behind it next to it
placed : (l : List ℕ) (t n end count : ℕ) → n < length l → n ≤ count → end ≤ count → count ≤ length l
    → set (paste l (n + 1) (drop end l) (count - end)) n t ≡ (take n (take count l) ++ t ∷ drop end (take count l)) ++ drop (n + 1 + (count - end)) l
placed l t n end count h c e q =
    let s1 : n + 1 ≡ suc n = omega arith in
    let z : end + (count - end) ≡ count = omega arith in
    let front : set (take (n + 1) l) n t ≡ take n l ++ t ∷ [] = sym (take-set-lt (n + 1) l n t (omega arith)) ∙ ap (λ (k : ℕ). take k (set l n t)) s1 ∙ take-suc-set l n t h in
    let back : take (count - end) (drop end l) ≡ drop end (take count l) = sym (drop-take end (count - end) l) ∙ ap (λ (k : ℕ). drop end (take k l)) z in
    let len : length (take (n + 1) l) ≡ n + 1 = length-take-le (n + 1) l (omega arith) in
    let rest : List ℕ = drop (n + 1 + (count - end)) l in
    set-append_left (take (n + 1) l ++ take (count - end) (drop end l)) rest n t (let k = length-append (take (n + 1) l) (take (count - end) (drop end l)) in omega arith)
    ∙ ap (λ (x : List ℕ). x ++ rest) (set-append_left (take (n + 1) l) (take (count - end) (drop end l)) n t (omega arith))
    ∙ (λ i. (front i ++ back i) ++ rest)
    ∙ ap (λ (x : List ℕ). x ++ rest) (append_snoc (take n l) t (drop end (take count l)) ∙ ap (λ (x : List ℕ). x ++ t ∷ drop end (take count l)) (sym (take-take n count l c)))

-- ---- corners that stand

pub standing-length : (l : List ℕ) (count : ℕ) → Standing l count → length (take count l) ≡ count
standing-length l count w = length-take-le count l (omega (arith, w.within, w.size))

module _ (l : List ℕ) (count : ℕ) (w : Standing l count) (t n end : ℕ) (b : Before (take count l) t n) (p : Passed (take count l) t n end) (shut : is_open (take count l) t ≡ false) where
  split : joined t (take count l) ≡ take n (take count l) ++ t ∷ drop end (take count l)
  split = joined_split (take count l) t n end (spot (take count l) t n end w.stairs shut b p)

  number : length (joined t (take count l)) ≡ n + suc (count - end)
  number =
      let ls : length (take count l) ≡ count = standing-length l count w in
      ap length split ∙ length-append (take n (take count l)) (t ∷ drop end (take count l))
      ∙ (λ i. length-take-le n (take count l) b.within i + suc (length-drop end (take count l) i))
      ∙ ap (λ (k : ℕ). n + suc (k - end)) ls

  -- how many there are then
  abbrev top : ℕ
  top = count - end + n + 1

  its_number : top ≡ length (joined t (take count l))
  its_number = let d = number in omega arith

  pub joined_full : 128 < top → (after : List ℕ) → Joined t (take count l) top after
  joined_full h after = record { number = its_number; standing = λ q. absurd (omega arith) }

  module _ (few : top ≤ 128) where
    -- the time in its place, with those behind it next to it
    abbrev stored : List ℕ
    stored = set (paste l (n + 1) (drop end l) (count - end)) n t

    ended : end ≤ count
    ended = let ls = standing-length l count w in omega (arith, p.within)

    stored_is : stored ≡ joined t (take count l) ++ drop top l
    stored_is =
        let e = ended in
        let z : n + 1 + (count - end) ≡ top = omega arith in
        placed l t n end count (omega (arith, w.size)) (omega (arith, p.onward)) e (omega (arith, w.size, w.within))
        ∙ (λ i. sym split i ++ drop (z i) l)

    -- past all corners stand zeros
    blank : (k : ℕ) → count ≤ k → drop k l ≡ replicate (128 - k) 0
    blank k h =
        let ls : length (take count l) ≡ count = standing-length l count w in
        let z : length (take count l) + (k - count) ≡ k = omega arith in
        let y : (128 - length (take count l)) - (k - count) ≡ 128 - k = omega arith in
        let e : drop k l ≡ drop (length (take count l) + (k - count)) (take count l ++ replicate (128 - length (take count l)) 0) = λ i. drop (sym z i) (w.filled i) in
        e ∙ drop-append-add (take count l) (replicate (128 - length (take count l)) 0) (k - count)
        ∙ drop-replicate (k - count) (128 - length (take count l)) 0 ∙ ap (λ (m : ℕ). replicate m 0) y

    pub joined_on : count ≤ top → Joined t (take count l) top stored
    joined_on h = record { number = its_number; standing = λ q. stored_is ∙ (λ i. joined t (take count l) ++ blank top h i) ∙ ap (λ (m : ℕ). joined t (take count l) ++ replicate (128 - m) 0) its_number }

    -- nothing moves where the time takes the place of one
    unmoved : end ≡ n + 1 → paste l (n + 1) (drop end l) (count - end) ≡ l
    unmoved e =
        let m : ℕ = count - end in
        ap (λ (k : ℕ). (take (n + 1) l ++ take m (drop k l)) ++ drop (n + 1 + m) l) e
        ∙ append_assoc (take (n + 1) l) (take m (drop (n + 1) l)) (drop (n + 1 + m) l)
        ∙ ap (λ (x : List ℕ). take (n + 1) l ++ (take m (drop (n + 1) l) ++ x)) (sym (drop-drop m (n + 1) l))
        ∙ ap (λ (x : List ℕ). take (n + 1) l ++ x) (take-append-drop m (drop (n + 1) l))
        ∙ take-append-drop (n + 1) l

    pub joined_in_place : end ≡ n + 1 → Joined t (take count l) top (set l n t)
    joined_in_place e = subst (λ (x : List ℕ). Joined t (take count l) top (set x n t)) (unmoved e) (joined_on (omega (arith, e, ended)))

    pub joined_back : top < count → (new : List ℕ) → new ≡ replicate (length (take (count - top) (drop top stored))) 0 → Joined t (take count l) top (put_mid top (count - top) stored new)
    joined_back h new e =
        let j : List ℕ = joined t (take count l) in
        let lj : length j ≡ top = sym its_number in
        let front : take top stored ≡ j = ap (take top) stored_is ∙ take_at j (drop top l) top lj in
        let behind : drop top stored ≡ drop top l = ap (drop top) stored_is ∙ drop_at j (drop top l) top lj in
        let z : top + (count - top) ≡ count = omega arith in
        let rest : drop (count - top) (drop top stored) ≡ replicate (128 - count) 0 = ap (drop (count - top)) behind ∙ drop-drop (count - top) top l ∙ ap (λ (k : ℕ). drop k l) z ∙ blank count (omega arith) in
        let ld : length (drop top l) ≡ 128 - top = length-drop top l ∙ ap (λ (k : ℕ). k - top) w.size in
        let ln : length (take (count - top) (drop top stored)) ≡ count - top = ap (λ (x : List ℕ). length (take (count - top) x)) behind ∙ length-take-le (count - top) (drop top l) (omega (arith, w.within)) in
        let y : (count - top) + (128 - count) ≡ 128 - length j = omega (arith, w.within) in
        record {
          number = its_number;
          standing = λ q.
              (λ i. front i ++ ((e ∙ ap (λ (k : ℕ). replicate k 0) ln) i ++ rest i))
              ∙ ap (λ (x : List ℕ). j ++ x) (replicate-append-replicate (count - top) (128 - count) 0 ∙ ap (λ (k : ℕ). replicate k 0) y);
        }
