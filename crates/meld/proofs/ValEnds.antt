-- The value ends of one list of entries after another: the lists are of the values that are left once a shared one is counted once.
use Rattle.std.proofs.Common.{◌≡◌, ℕ, zero, suc, ◌-◌, ◌≤◌, Bool, true, cond, List, [], ◌∷◌, ◌++◌, length, sym, refl, ap, ◌∙◌, arith, length-append, length-take-le, take_at, eqb-true}
use lib.ListN.{length-map}
use lib.Seq.{take-length}
use Rattle.laws.proofs.Tests.{by_test, and_left}
use Rattle.chunk.specs.Entry.{Entry, same_list}
use Rattle.chunk.specs.Bodies.{lasts_of, ends_of, same_key, vals, val_ends}
use Rattle.meld.specs.Seam.{shared, shared_with, cut}
use Rattle.meld.proofs.Append.{shared_one, lasts_some, lasts_append, ends-append, raised}

-- only the last entry counts
shared_skip : (same : Entry → Entry → Bool) (a : Entry) (es fs : List Entry) → 1 ≤ length es → shared same (a ∷ es) fs ≡ shared same es fs
unfolding shared
shared_skip same a [] fs h = absurd (omega arith)
shared_skip same a (c ∷ es) fs h = refl

-- the last of all is the last of its list
shared_lasts : (same by : Entry → Entry → Bool) (es fs : List Entry) → shared same (lasts_of by es) fs ≡ shared same es fs
unfolding lasts_of shared
shared_lasts same by [] fs = refl
shared_lasts same by (a ∷ []) fs = refl
shared_lasts same by (a ∷ c ∷ es) fs =
    by_test (by a c)
    (λ h. rw h (shared_lasts same by (c ∷ es) fs))
    (λ h. rw h (shared_skip same a (lasts_of by (c ∷ es)) fs (lasts_some by c es) ∙ shared_lasts same by (c ∷ es) fs))

-- only how the two first ones compare counts
shared_alike : (same : Entry → Entry → Bool) (es fs gs : List Entry) → ((x : Entry) → shared_with same x fs ≡ shared_with same x gs) → shared same es fs ≡ shared same es gs
unfolding shared
shared_alike same [] fs gs h = refl
shared_alike same (a ∷ []) fs gs h = h a
shared_alike same (a ∷ c ∷ es) fs gs h = shared_alike same (c ∷ es) fs gs h

-- the first list's last entry has the first entry's key
key-alike : (x a b : Entry) → same_list a b ≡ true → same_key x a ≡ same_key x b
key-alike x a b h = rw (eqb-true a.key b.key (and_left _ _ h))

pub first_key : (x : Entry) (fs : List Entry) → shared_with same_key x (lasts_of same_list fs) ≡ shared_with same_key x fs
unfolding lasts_of shared_with
first_key x [] = refl
first_key x (f ∷ []) = refl
first_key x (f ∷ g ∷ fs) =
    by_test (same_list f g)
    (λ h. rw h (first_key x (g ∷ fs) ∙ ap (λ (b : Bool). cond b 1 0) (sym (key-alike x f g h))))
    (λ h. rw h)

-- a cut takes the last one away
cut_snoc : {A : Type 0} (l : List A) (a : A) → cut 1 (l ++ (a ∷ [])) ≡ l
cut_snoc l a = take_at l (a ∷ []) (length (l ++ (a ∷ [])) - 1) (omega (arith, length-append l (a ∷ [])))

cut-none : {A : Type 0} (l : List A) → cut 0 l ≡ l
cut-none l = let q : length l - 0 ≡ length l = omega arith in rw q (take-length l)

-- two parts that share a list: the first one's last entry, and the second one's first
record Meet (same : Entry → Entry → Bool) (es fs : List Entry) : Type 0 where
  before : List Entry
  last : Entry
  first : Entry
  after : List Entry
  ends : es ≡ before ++ (last ∷ [])
  starts : fs ≡ first ∷ after
  alike : same last first ≡ true

meet : (same : Entry → Entry → Bool) (es fs : List Entry) → shared same es fs ≡ 1 → Meet same es fs
unfolding shared shared_with
meet same [] fs h = absurd (omega arith)
meet same (a ∷ []) [] h = absurd (omega arith)
meet same (a ∷ []) (f ∷ fs) h =
    record { before = []; last = a; first = f; after = fs; ends = refl; starts = refl; alike = by_test (same a f) (λ k. k) (λ k. absurd (omega (arith, rw k at h))) }
meet same (a ∷ c ∷ es) fs h =
    let m = meet same (c ∷ es) fs h in
    record {
      before = a ∷ m.before;
      last = m.last;
      first = m.first;
      after = m.after;
      ends = ap {B = List Entry} (λ l. a ∷ l) m.ends;
      starts = m.starts;
      alike = m.alike;
    }

shared_at : (same : Entry → Entry → Bool) (es : List Entry) (e : Entry) (fs : List Entry) → shared same (es ++ (e ∷ [])) fs ≡ shared_with same e fs
unfolding shared
shared_at same [] e fs = refl
shared_at same (a ∷ []) e fs = refl
shared_at same (a ∷ c ∷ es) e fs = shared_at same (c ∷ es) e fs

-- where a value is shared, its key's end goes with it
part-shared : (es : List Entry) (e f : Entry) (fs : List Entry) {l r : List Entry} → l ≡ es ++ (e ∷ []) → r ≡ f ∷ fs → same_list e f ≡ true
    → cut (shared same_key (cut 1 (lasts_of same_list l)) (lasts_of same_list r)) (ends_of same_key 0 (cut 1 (lasts_of same_list l))) ≡ cut (shared same_key l r) (val_ends l)
unfolding lasts_of ends_of shared_with raised
part-shared es e f fs i j h =
    let p : List Entry = cut (shared same_list es (e ∷ [])) (lasts_of same_list es) in
    let l : lasts_of same_list (es ++ (e ∷ [])) ≡ p ++ (e ∷ []) = lasts_append same_list es (e ∷ []) in
    let k : same_key e f ≡ true = and_left _ _ h in
    let one : shared same_key (es ++ (e ∷ [])) (f ∷ fs) ≡ 1 = shared_at same_key es e (f ∷ fs) ∙ rw k in
    let alike : shared same_key p (lasts_of same_list (f ∷ fs)) ≡ shared same_key p (e ∷ []) = shared_alike same_key p (lasts_of same_list (f ∷ fs)) (e ∷ []) (λ x. first_key x (f ∷ fs) ∙ ap (λ (b : Bool). cond b 1 0) (sym (key-alike x e f h))) in
    rw (i, j, l, one, cut_snoc p e, alike)
    (sym (rw (ends-append same_key p (e ∷ [])) (cut_snoc (cut (shared same_key p (e ∷ [])) (ends_of same_key 0 p)) _)))

-- where none is, nothing is cut but the key's own end
part_apart : (es fs : List Entry)
    → cut (shared same_key (cut 0 (lasts_of same_list es)) (lasts_of same_list fs)) (ends_of same_key 0 (cut 0 (lasts_of same_list es))) ≡ cut (shared same_key es fs) (val_ends es)
part_apart es fs =
    rw (cut-none (lasts_of same_list es), shared_alike same_key (lasts_of same_list es) (lasts_of same_list fs) fs (λ x. first_key x fs), shared_lasts same_key same_list es fs)

by_one {ℓ} : {P : Type ℓ} (n : ℕ) → n ≤ 1 → (n ≡ 0 → P) → (n ≡ 1 → P) → P
by_one zero h f g = f refl
by_one (suc n) h f g = g (omega arith)

part : (es fs : List Entry)
    → cut (shared same_key (cut (shared same_list es fs) (lasts_of same_list es)) (lasts_of same_list fs)) (ends_of same_key 0 (cut (shared same_list es fs) (lasts_of same_list es)))
    ≡ cut (shared same_key es fs) (val_ends es)
part es fs =
    by_one (shared same_list es fs) (shared_one same_list es fs)
    (λ h. rw h (part_apart es fs))
    (λ h. let m = meet same_list es fs h in rw h (part-shared m.before m.last m.first m.after m.ends m.starts m.alike))

-- the value ends of both
pub val_ends-append : (es fs : List Entry) → val_ends (es ++ fs) ≡ cut (shared same_key es fs) (val_ends es) ++ raised (length (vals es) - shared same_list es fs) (val_ends fs)
val_ends-append es fs =
    let p = cut (shared same_list es fs) (lasts_of same_list es) in
    let n : length p ≡ length (vals es) - shared same_list es fs =
    length-take-le (length (lasts_of same_list es) - shared same_list es fs) (lasts_of same_list es) (omega arith) ∙ rw (length-map (lasts_of same_list es) (λ (e : Entry). e.val)) in
    ap (ends_of same_key 0) (lasts_append same_list es fs)
    ∙ ends-append same_key p (lasts_of same_list fs)
    ∙ rw (part es fs, n)
