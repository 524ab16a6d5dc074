-- An output filled part by part: the table, then each layer where the last one ends.
use Prim.Native.Nat.{ℕ, ◌+◌, ◌-◌, ◌*◌, ◌≤◌}
use mathlib.Core.Path.{◌≡◌, sym, ◌∙◌, ap}
use mathlib.Core.List.{List, ◌++◌, append_assoc}
use native.Mathlib.Omega.{arith}
use lib.ListN.{length, take, drop, length-append, length-drop}
use lib.Seq.{take_at, drop_at, drop-drop, length-take-le}
use mir.Val.{Fits}
use mir.Syntax.{w64}
use borrow.Author.Tests.{le-leb, leb-true, leb-false, lt-ltb, le-ltb}
use lib.Dec.{leb, ltb}
use Rattle.std.specs.Prelude.{is_none}
use Rattle.laws.proofs.Tests.{by_test}
use borrow.Rule.Slice.PartMut.{put_mid}
use Rattle.chunk.specs.declared.Contents.{Contents}
use Rattle.chunk.specs.Words.{limit, table_size, over}
use Rattle.chunk.specs.Contents.{layout_of, layout_within, with_table, table_of}

-- where the parts of an output are
pub record Spots (lay : Contents) (k v t : ℕ) : Type 0 where
  pub keys_placed : lay.keys_at ≡ 4
  pub vals_placed : lay.vals_at ≡ 4 + 2 * k
  pub times_placed : lay.times_at ≡ 4 + 2 * k + 2 * v
  pub sized : lay.size ≡ 4 + 2 * k + 2 * v + 2 * t + t

pub spots : (lay : Contents) (k v t : ℕ) → lay ≡ layout_of k v t t → Spots lay k v t
spots lay k v t q =
    record {
      keys_placed = ap (λ (l : Contents). l.keys_at) q;
      vals_placed = ap (λ (l : Contents). l.vals_at) q;
      times_placed = ap (λ (l : Contents). l.times_at) q;
      sized = ap (λ (l : Contents). l.size) q;
    }

-- an output with so many times has no layout exactly where they are too many
pub too_many_times : (n : ℕ) → is_none (layout_within 0 0 n 0) ≡ ltb limit n
unfolding layout_within
too_many_times n =
    by_test (leb n limit)
    (λ h. simp (h, le-leb 0 limit (omega arith), le-ltb limit n (leb-true n limit h)))
    (λ h. simp (h, le-leb 0 limit (omega arith), lt-ltb limit n (leb-false n limit h)))

-- the places of three parts behind the table, within so many words, and few
pub record OutCuts (lay : Contents) (k v t room : ℕ) : Type 0 where
  pub keys_placed : lay.keys_at ≡ 4
  pub keys : lay.vals_at ≡ lay.keys_at + (k + k)
  pub vals : lay.times_at ≡ lay.vals_at + (v + v)
  pub times : lay.size ≡ lay.times_at + (t + (t + t))
  pub keys_in : lay.vals_at ≤ room
  pub vals_in : lay.times_at ≤ room
  pub times_in : lay.size ≤ room
  pub keys_small : Fits w64 (lay.keys_at * 8)
  pub vals_small : Fits w64 (lay.vals_at * 8)
  pub times_small : Fits w64 (lay.times_at * 8)
  pub table_in : 4 ≤ room

pub out_cuts : (lay : Contents) (k v t room : ℕ) → lay ≡ layout_of k v t t → k ≤ limit → v ≤ limit → t ≤ limit → table_size + 2 * k + 2 * v + 2 * t + t ≤ room → OutCuts lay k v t room
out_cuts lay k v t room e a b d h =
    let s = spots lay k v t e in
    let s1 = s.keys_placed in let s2 = s.vals_placed in let s3 = s.times_placed in let s4 = s.sized in
    record {
      keys_placed = s1;
      keys = omega arith;
      vals = omega arith;
      times = omega arith;
      keys_in = omega arith;
      vals_in = omega arith;
      times_in = omega arith;
      keys_small = omega arith;
      vals_small = omega arith;
      times_small = omega arith;
      table_in = omega arith;
    }

-- all three together
pub whole_size : (lay : Contents) (k v t room : ℕ) → OutCuts lay k v t room → lay.size ≡ lay.keys_at + ((k + k) + ((v + v) + (t + (t + t))))
whole_size lay k v t room u = let a = u.keys in let b = u.vals in let d = u.times in omega arith

pub up_to : (a b n : ℕ) → b ≡ a + n → a ≤ b
up_to a b n e = omega arith

pub within_as : (a n m : ℕ) → a ≤ n → m ≡ n → a ≤ m
within_as a n m h e = omega arith

-- the table at the front
pub table_front : (k v t d : ℕ) (out : List ℕ) → 4 ≤ length out → with_table k v t d out ≡ table_of k v t d ++ drop 4 out
unfolding with_table
table_front k v t d out h = simp (le-leb 4 (length out) h)

-- the next part, where what is written ends
pub put_next : (p rest new : List ℕ) (a e : ℕ) → a ≡ length p → e ≡ a + length new → put_mid a (e - a) (p ++ rest) new ≡ (p ++ new) ++ drop (length new) rest
put_next p rest new a e h k =
    let n : e - a ≡ length new = omega arith in
    let t : take a (p ++ rest) ≡ p = take_at p rest a (sym h) in
    let d : drop a (p ++ rest) ≡ rest = drop_at p rest a (sym h) in
    (λ i. t i ++ (new ++ drop (n i) (d i))) ∙ sym (append_assoc p new (drop (length new) rest))

-- one part after the table, as a call left it
pub put_one : (out o T A p : List ℕ) (a e : ℕ) → o ≡ T ++ drop (length T) out → p ≡ A → a ≡ length T → e ≡ a + length A → put_mid a (e - a) o p ≡ over (T ++ A) out
put_one out o T A p a e ho hp ha he =
    let l : length T + length A ≡ length (T ++ A) = sym (length-append T A) in
    (λ i. put_mid a (e - a) (ho i) (hp i)) ∙ put_next T (drop (length T) out) A a e ha he
    ∙ ap (λ (x : List ℕ). (T ++ A) ++ x) (drop-drop (length A) (length T) out ∙ ap (λ (n : ℕ). drop n out) l)

-- three parts after the table
pub put_three : (out T A B C : List ℕ) (a b d e : ℕ) → a ≡ length T → b ≡ a + length A → d ≡ b + length B → e ≡ d + length C
    → put_mid d (e - d) (put_mid b (d - b) (put_mid a (b - a) (T ++ drop (length T) out) A) B) C ≡ over (T ++ (A ++ (B ++ C))) out
put_three out T A B C a b d e ha hb hd he =
    let r0 : List ℕ = drop (length T) out in
    let r1 : List ℕ = drop (length A) r0 in
    let r2 : List ℕ = drop (length B) r1 in
    let la : length (T ++ A) ≡ length T + length A = length-append T A in
    let lb : length ((T ++ A) ++ B) ≡ length (T ++ A) + length B = length-append (T ++ A) B in
    let lbc : length (B ++ C) ≡ length B + length C = length-append B C in
    let labc : length (A ++ (B ++ C)) ≡ length A + length (B ++ C) = length-append A (B ++ C) in
    let all : length (T ++ (A ++ (B ++ C))) ≡ length T + length (A ++ (B ++ C)) = length-append T (A ++ (B ++ C)) in
    let q : length T + (length A + (length B + length C)) ≡ length (T ++ (A ++ (B ++ C))) = omega arith in
    let past : drop (length C) r2 ≡ drop (length (T ++ (A ++ (B ++ C)))) out =
    drop-drop (length C) (length B) r1
    ∙ drop-drop (length B + length C) (length A) r0
    ∙ drop-drop (length A + (length B + length C)) (length T) out
    ∙ ap (λ (n : ℕ). drop n out) q in
    ap (λ (x : List ℕ). put_mid d (e - d) (put_mid b (d - b) x B) C) (put_next T r0 A a b ha hb)
    ∙ ap (λ (x : List ℕ). put_mid d (e - d) x C) (put_next (T ++ A) r1 B b d (omega arith) hd)
    ∙ put_next ((T ++ A) ++ B) r2 C d e (omega arith) he
    ∙ ap (λ (x : List ℕ). (((T ++ A) ++ B) ++ C) ++ x) past
    ∙ simp append_assoc

-- a part has as many words as it spans
pub part_length : (l : List ℕ) (a e n : ℕ) → e ≡ a + n → e ≤ length l → length (take (e - a) (drop a l)) ≡ n
part_length l a e n h k =
    let d : length (drop a l) ≡ length l - a = length-drop a l in
    length-take-le (e - a) (drop a l) (omega arith) ∙ omega arith

-- the same of what three calls left in the parts that they were lent
pub put_all : (out o T A B C p q r : List ℕ) (a b d e : ℕ) → o ≡ T ++ drop (length T) out → p ≡ A → q ≡ B → r ≡ C
    → a ≡ length T → b ≡ a + length A → d ≡ b + length B → e ≡ d + length C
    → put_mid d (e - d) (put_mid b (d - b) (put_mid a (b - a) o p) q) r ≡ over (T ++ (A ++ (B ++ C))) out
put_all out o T A B C p q r a b d e ho hp hq hr ha hb hd he =
    (λ i. put_mid d (e - d) (put_mid b (d - b) (put_mid a (b - a) (ho i) (hp i)) (hq i)) (hr i)) ∙ put_three out T A B C a b d e ha hb hd he
