-- The output as the table, seven bodies and a rest: a store falls into one body, so the bodies are written each by itself.
use Rattle.std.proofs.Common.{◌≡◌, ℕ, suc, ◌+◌, ◌-◌, ◌<◌, ◌≤◌, List, [], ◌∷◌, ◌++◌, length, set, refl, ap, ◌∙◌, arith, length-set}
use lib.Seq.{set-append_left}
use Rattle.chunk.specs.declared.Contents.{Contents}
use Rattle.chunk.specs.Contents.{layout_of}
use Rattle.chunk.specs.Entry.{Entry}
use Rattle.form.specs.declared.Counts.{Counts}
use Rattle.form.specs.Pass.{counted, count_from, write_from, stored, Counting, Some}
use Rattle.form.proofs.Step.{some-counted, counting_counted}
use Rattle.form.proofs.Underway.{Below, grows}
use Rattle.form.proofs.Runs.{segment}
use Rattle.form.proofs.Bodies.{key_word, val_word, time_word, diff_word, val_count, time_count}

-- the seven bodies
pub record Seven : Type 0 where
  pub keys : List ℕ
  pub val_ends : List ℕ
  pub vals : List ℕ
  pub time_ends : List ℕ
  pub times : List ℕ
  pub diff_ends : List ℕ
  pub diffs : List ℕ

-- between the table and the rest
abbrev pub join : List ℕ → Seven → List ℕ → List ℕ
join t s r = t ++ (s.keys ++ (s.val_ends ++ (s.vals ++ (s.time_ends ++ (s.times ++ (s.diff_ends ++ (s.diffs ++ r)))))))

-- their places for a state
abbrev pub key_place : Counts → ℕ
key_place c = c.nk - 1

abbrev pub val_place : Counts → ℕ
val_place c = c.nv - 1

abbrev pub time_place : Counts → ℕ
time_place c = c.nt - 1

-- one entry stored into each
abbrev pub put : Counts → Seven → Seven
put c s =
    record {
      keys = set s.keys (key_place c) (key_word c);
      val_ends = set s.val_ends (key_place c) (val_count c);
      vals = set s.vals (val_place c) (val_word c);
      time_ends = set s.time_ends (val_place c) (time_count c);
      times = set s.times (time_place c) (time_word c);
      diff_ends = set s.diff_ends (time_place c) (time_count c);
      diffs = set s.diffs (time_place c) (diff_word c);
    }

-- all of these stored
abbrev pub puts : Counts → List Entry → Seven → Seven
puts c es s =
    record {
      keys = segment key_place key_word c es s.keys;
      val_ends = segment key_place val_count c es s.val_ends;
      vals = segment val_place val_word c es s.vals;
      time_ends = segment val_place time_count c es s.time_ends;
      times = segment time_place time_word c es s.times;
      diff_ends = segment time_place time_count c es s.diff_ends;
      diffs = segment time_place diff_word c es s.diffs;
    }

-- bodies of the lengths that the counts say
pub record Sized (k v t : ℕ) (s : Seven) : Type 0 where
  pub keys : length s.keys ≡ k
  pub val_ends : length s.val_ends ≡ k
  pub vals : length s.vals ≡ v
  pub time_ends : length s.time_ends ≡ v
  pub times : length s.times ≡ t
  pub diff_ends : length s.diff_ends ≡ t
  pub diffs : length s.diffs ≡ t

sized_put : (k v t : ℕ) (c : Counts) (s : Seven) → Sized k v t s → Sized k v t (put c s)
sized_put k v t c s h =
    record {
      keys = length-set s.keys _ _ ∙ h.keys;
      val_ends = length-set s.val_ends _ _ ∙ h.val_ends;
      vals = length-set s.vals _ _ ∙ h.vals;
      time_ends = length-set s.time_ends _ _ ∙ h.time_ends;
      times = length-set s.times _ _ ∙ h.times;
      diff_ends = length-set s.diff_ends _ _ ∙ h.diff_ends;
      diffs = length-set s.diffs _ _ ∙ h.diffs;
    }

-- ---- a store past a prefix, and within one

set_past : (a l : List ℕ) (n m x : ℕ) → n ≡ length a + m → set (a ++ l) n x ≡ a ++ set l m x
set_past [] l n m x h = let e : n ≡ m = omega arith in rw e
set_past (y ∷ a) l n m x h =
    let e : n ≡ suc (length a + m) = omega arith in
    rw e (ap (λ (r : List ℕ). y ∷ r) (set_past a l (length a + m) m x refl))

set_in : (a b l : List ℕ) (n i x : ℕ) → n ≡ length a + i → i < length b → set (a ++ (b ++ l)) n x ≡ a ++ (set b i x ++ l)
set_in a b l n i x h k = set_past a (b ++ l) n i x h ∙ ap (λ (r : List ℕ). a ++ r) (set-append_left b l i x k)

-- within the third part, the fourth, and so on to the eighth
set_in_2 : (a b d l : List ℕ) (n i x : ℕ) → n ≡ length a + (length b + i) → i < length d
    → set (a ++ (b ++ (d ++ l))) n x ≡ a ++ (b ++ (set d i x ++ l))
set_in_2 a b d l n i x h k =
    set_past a (b ++ (d ++ l)) n (length b + i) x h ∙ ap (λ (r : List ℕ). a ++ r) (set_in b d l (length b + i) i x refl k)

set_in_3 : (a b d e l : List ℕ) (n i x : ℕ) → n ≡ length a + (length b + (length d + i)) → i < length e
    → set (a ++ (b ++ (d ++ (e ++ l)))) n x ≡ a ++ (b ++ (d ++ (set e i x ++ l)))
set_in_3 a b d e l n i x h k =
    set_past a (b ++ (d ++ (e ++ l))) n (length b + (length d + i)) x h ∙ ap (λ (r : List ℕ). a ++ r) (set_in_2 b d e l (length b + (length d + i)) i x refl k)

set_in_4 : (a b d e f l : List ℕ) (n i x : ℕ) → n ≡ length a + (length b + (length d + (length e + i))) → i < length f
    → set (a ++ (b ++ (d ++ (e ++ (f ++ l))))) n x ≡ a ++ (b ++ (d ++ (e ++ (set f i x ++ l))))
set_in_4 a b d e f l n i x h k =
    set_past a (b ++ (d ++ (e ++ (f ++ l)))) n (length b + (length d + (length e + i))) x h ∙ ap (λ (r : List ℕ). a ++ r) (set_in_3 b d e f l (length b + (length d + (length e + i))) i x refl k)

set_in_5 : (a b d e f g l : List ℕ) (n i x : ℕ) → n ≡ length a + (length b + (length d + (length e + (length f + i)))) → i < length g
    → set (a ++ (b ++ (d ++ (e ++ (f ++ (g ++ l)))))) n x ≡ a ++ (b ++ (d ++ (e ++ (f ++ (set g i x ++ l)))))
set_in_5 a b d e f g l n i x h k =
    set_past a (b ++ (d ++ (e ++ (f ++ (g ++ l))))) n (length b + (length d + (length e + (length f + i)))) x h ∙ ap (λ (r : List ℕ). a ++ r) (set_in_4 b d e f g l (length b + (length d + (length e + (length f + i)))) i x refl k)

set_in_6 : (a b d e f g o l : List ℕ) (n i x : ℕ) → n ≡ length a + (length b + (length d + (length e + (length f + (length g + i))))) → i < length o
    → set (a ++ (b ++ (d ++ (e ++ (f ++ (g ++ (o ++ l))))))) n x ≡ a ++ (b ++ (d ++ (e ++ (f ++ (g ++ (set o i x ++ l))))))
set_in_6 a b d e f g o l n i x h k =
    set_past a (b ++ (d ++ (e ++ (f ++ (g ++ (o ++ l)))))) n (length b + (length d + (length e + (length f + (length g + i))))) x h ∙ ap (λ (r : List ℕ). a ++ r) (set_in_5 b d e f g o l (length b + (length d + (length e + (length f + (length g + i))))) i x refl k)

set_in_7 : (a b d e f g o q l : List ℕ) (n i x : ℕ) → n ≡ length a + (length b + (length d + (length e + (length f + (length g + (length o + i)))))) → i < length q
    → set (a ++ (b ++ (d ++ (e ++ (f ++ (g ++ (o ++ (q ++ l)))))))) n x ≡ a ++ (b ++ (d ++ (e ++ (f ++ (g ++ (o ++ (set q i x ++ l)))))))
set_in_7 a b d e f g o q l n i x h k =
    set_past a (b ++ (d ++ (e ++ (f ++ (g ++ (o ++ (q ++ l))))))) n (length b + (length d + (length e + (length f + (length g + (length o + i)))))) x h ∙ ap (λ (r : List ℕ). a ++ r) (set_in_6 b d e f g o q l (length b + (length d + (length e + (length f + (length g + (length o + i)))))) i x refl k)

-- the stores after the first, the second, and so on
abbrev store_7 : Contents → Counts → List ℕ → List ℕ
store_7 p c w = set w (p.diffs_at + time_place c) (diff_word c)

abbrev store_6 : Contents → Counts → List ℕ → List ℕ
store_6 p c w = store_7 p c (set w (p.diff_ends_at + time_place c) (time_count c))

abbrev store_5 : Contents → Counts → List ℕ → List ℕ
store_5 p c w = store_6 p c (set w (p.times_at + time_place c) (time_word c))

abbrev store_4 : Contents → Counts → List ℕ → List ℕ
store_4 p c w = store_5 p c (set w (p.time_ends_at + val_place c) (time_count c))

abbrev store_3 : Contents → Counts → List ℕ → List ℕ
store_3 p c w = store_4 p c (set w (p.vals_at + val_place c) (val_word c))

abbrev store_2 : Contents → Counts → List ℕ → List ℕ
store_2 p c w = store_3 p c (set w (p.val_ends_at + key_place c) (val_count c))

-- ---- one entry stored, and all

module _ (k v t : ℕ) (table rest : List ℕ) (four : length table ≡ 4) where
  stored_parts : (c : Counts) (s : Seven) → Sized k v t s → Some c → c.nk ≤ k → c.nv ≤ v → c.nt ≤ t
      → stored (layout_of k v t t) c (join table s rest) ≡ join table (put c s) rest
  stored_parts c s h o lk lv lt =
      let ks : List ℕ = set s.keys (key_place c) (key_word c) in
      let ves : List ℕ = set s.val_ends (key_place c) (val_count c) in
      let vs : List ℕ = set s.vals (val_place c) (val_word c) in
      let tes : List ℕ = set s.time_ends (val_place c) (time_count c) in
      let ts : List ℕ = set s.times (time_place c) (time_word c) in
      let des : List ℕ = set s.diff_ends (time_place c) (time_count c) in
      let z : Sized k v t (put c s) = sized_put k v t c s h in
      let p : Contents = layout_of k v t t in
      let l6 : List ℕ = s.diffs ++ rest in
      let l5 : List ℕ = s.diff_ends ++ l6 in
      let l4 : List ℕ = s.times ++ l5 in
      let l3 : List ℕ = s.time_ends ++ l4 in
      let l2 : List ℕ = s.vals ++ l3 in
      let l1 : List ℕ = s.val_ends ++ l2 in
      ap (λ (w : List ℕ). store_2 p c w) (set_in table s.keys l1 _ (key_place c) (key_word c) (omega arith) (omega arith))
      ∙ ap (λ (w : List ℕ). store_3 p c w) (set_in_2 table ks s.val_ends l2 _ (key_place c) (val_count c) (omega arith) (omega arith))
      ∙ ap (λ (w : List ℕ). store_4 p c w) (set_in_3 table ks ves s.vals l3 _ (val_place c) (val_word c) (omega arith) (omega arith))
      ∙ ap (λ (w : List ℕ). store_5 p c w) (set_in_4 table ks ves vs s.time_ends l4 _ (val_place c) (time_count c) (omega arith) (omega arith))
      ∙ ap (λ (w : List ℕ). store_6 p c w) (set_in_5 table ks ves vs tes s.times l5 _ (time_place c) (time_word c) (omega arith) (omega arith))
      ∙ ap (λ (w : List ℕ). store_7 p c w) (set_in_6 table ks ves vs tes ts s.diff_ends l6 _ (time_place c) (time_count c) (omega arith) (omega arith))
      ∙ set_in_7 table ks ves vs tes ts des s.diffs rest _ (time_place c) (diff_word c) (omega arith) (omega arith)

  pub write_parts : (n : ℕ) (c : Counts) (es : List Entry) (s : Seven) → Counting n c → Sized k v t s
      → (count_from c es).nk ≤ k → (count_from c es).nv ≤ v → (count_from c es).nt ≤ t
      → write_from (layout_of k v t t) c es (join table s rest) ≡ join table (puts c es s) rest
  unfolding write_from count_from
  write_parts n c [] s h z lk lv lt = refl
  write_parts n c (e ∷ es) s h z lk lv lt =
      let b : Below (counted c e) (count_from (counted c e) es) = grows (counted c e) es in
      ap (λ (w : List ℕ). write_from (layout_of k v t t) (counted c e) es w)
      (stored_parts (counted c e) s z (some-counted n c e h) (omega (arith, b.keys)) (omega (arith, b.vals)) (omega (arith, b.times)))
      ∙ write_parts (n + 1) (counted c e) es (put (counted c e) s) (counting_counted n c e h) (sized_put k v t (counted c e) s z) lk lv lt
