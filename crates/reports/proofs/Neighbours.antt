-- Reports that weave two rising lists name items that rise: no two neighbours of what is left of them are alike, and shared items are the same.
use Prim.Native.Nat.{ℕ, suc, ◌+◌, ◌-◌, ◌≤◌}
use mathlib.Core.Path.{◌≡◌, refl, sym, ◌∙◌, ap}
use mathlib.Core.Bool.{Bool, true, false, ◌&&◌}
use mathlib.Core.List.{List, [], ◌∷◌, ◌++◌, append_assoc}
use native.Mathlib.Omega.{arith}
use lib.ListN.{length, get_or, take, drop, take-append-drop}
use lib.Seq.{drop-drop, drop-cons}
use Rattle.laws.proofs.Tests.{and_left, and_right, and_both}
use Rattle.laws.proofs.Lists.{every_imp, every_both, every_append}
use Rattle.laws.proofs.Order.{rising_all, rising_tail}
use Rattle.chunk.specs.Entry.{Entry, every, before, rising}
use Rattle.reports.specs.Survey.{Report, this, that, both}
use Rattle.reports.specs.Scratch.{Covers}
use Rattle.reports.specs.Write.{named, items_by}
use Rattle.reports.specs.Tail.{trimmed, trailing}
use Rattle.reports.specs.Woven.{no_entry, ahead, Woven, Level, apart}
use Rattle.reports.proofs.Trimming.{trimmed_then_trailing}

-- every earlier item before every later one
unfoldable pub ordered : (Entry → Entry → Bool) → List Entry → Bool
ordered lt [] = true
ordered lt (a ∷ es) = every (lt a) es && ordered lt es

module _ {ℓ} {A : Type ℓ} where
  -- a list from one place on: up to another, and from that on
  part_then : (l h : ℕ) (es : List A) → l ≤ h → take (h - l) (drop l es) ++ drop h es ≡ drop l es
  part_then l h es a =
      let e : l + (h - l) ≡ h = omega arith in
      let d : drop (h - l) (drop l es) ≡ drop h es = drop-drop (h - l) l es ∙ ap (λ (n : ℕ). drop n es) e in
      ap (λ (r : List A). take (h - l) (drop l es) ++ r) (sym d) ∙ take-append-drop (h - l) (drop l es)

  every_part : (p : A → Bool) (l h : ℕ) (es : List A) → l ≤ h → every p (drop l es) ≡ true
      → (every p (take (h - l) (drop l es)) ≡ true) × (every p (drop h es) ≡ true)
  every_part p l h es a e =
      let f : (every p (take (h - l) (drop l es)) && every p (drop h es)) ≡ true =
      sym (every_append p (take (h - l) (drop l es)) (drop h es)) ∙ ap (every p) (part_then l h es a) ∙ e in
      (and_left _ _ f, and_right (every p (take (h - l) (drop l es))) _ f)

-- the items of reports one after another
pub items_append {ℓ} : {A : Type ℓ} (a b : List A) (rs ts : List Report) → items_by a b (rs ++ ts) ≡ items_by a b rs ++ items_by a b ts
unfolding items_by
items_append a b [] ts = refl
items_append {A} a b (r ∷ rs) ts =
    ap (λ (l : List A). named a b r ++ l) (items_append a b rs ts) ∙ sym (append_assoc (named a b r) (items_by a b rs) (items_by a b ts))

module _ (lt : Entry → Entry → Bool) where
  -- of two parts of an ordered list, each is, and the first is before the second
  record Parts (a b : List Entry) : Type 0 where
    front : ordered lt a ≡ true
    back : ordered lt b ≡ true
    across : every (λ (x : Entry). every (lt x) b) a ≡ true

  ordered_split : (a b : List Entry) → ordered lt (a ++ b) ≡ true → Parts a b
  unfolding ordered every
  ordered_split [] b h = record { front = refl; back = h; across = refl }
  ordered_split (x ∷ a) b h =
      let e : (every (lt x) a && every (lt x) b) ≡ true = sym (every_append (lt x) a b) ∙ and_left _ _ h in
      let p : Parts a b = ordered_split a b (and_right (every (lt x) (a ++ b)) _ h) in
      record {
        front = and_both (every (lt x) a) (ordered lt a) (and_left (every (lt x) a) (every (lt x) b) e) p.front;
        back = p.back;
        across = and_both _ _ (and_right (every (lt x) a) _ e) p.across;
      }

  ordered_join : (a b : List Entry) → Parts a b → ordered lt (a ++ b) ≡ true
  unfolding ordered every
  ordered_join [] b p = p.back
  ordered_join (x ∷ a) b p =
      let f : every (lt x) a ≡ true = and_left _ _ p.front in
      let k : every (lt x) b ≡ true = and_left _ _ p.across in
      and_both _ _ (every_append (lt x) a b ∙ and_both _ _ f k)
      (ordered_join a b
      (record { front = and_right (every (lt x) a) _ p.front; back = p.back; across = and_right (every (lt x) b) _ p.across }))

-- ---- along the reports

module _ (lt same : Entry → Entry → Bool) (es fs : List Entry) where
  pub woven_covers : (i j : ℕ) (ls : List Report) → Woven lt same es fs i j ls → Covers (length es) (length fs) i j ls
  woven_covers i j [] w = w
  woven_covers i j (this l h ∷ ls) w = (w.0, w.1, w.2, woven_covers h j ls w.4)
  woven_covers i j (that l h ∷ ls) w = (w.0, w.1, w.2, woven_covers i h ls w.4)
  woven_covers i j (both a b ∷ ls) w = (w.0, w.1, w.2, w.3, woven_covers (suc i) (suc j) ls w.5)

  woven_level : (i j : ℕ) (ls : List Report) → Woven lt same es fs i j ls → Level same es fs ls
  woven_level i j [] w = record {}
  woven_level i j (this l h ∷ ls) w = woven_level h j ls w.4
  woven_level i j (that l h ∷ ls) w = woven_level i h ls w.4
  woven_level i j (both a b ∷ ls) w = (rw (w.0, w.1) w.4, woven_level (suc i) (suc j) ls w.5)

  level_front : (a b : List Report) → Level same es fs (a ++ b) → Level same es fs a
  level_front [] b v = record {}
  level_front (this l h ∷ a) b v = level_front a b v
  level_front (that l h ∷ a) b v = level_front a b v
  level_front (both i j ∷ a) b v = (v.0, level_front a b v.1)

  -- shared items are the same, also of what is left
  pub level_trimmed : (i j : ℕ) (ls : List Report) → Woven lt same es fs i j ls → Level same es fs (trimmed ls)
  level_trimmed i j ls w = level_front (trimmed ls) (trailing ls) (rw (← (trimmed_then_trailing ls)) (woven_level i j ls w))

  -- what holds of all that is left of both lists holds of what the reports name
  every_woven : (p : Entry → Bool) (i j : ℕ) (ls : List Report) → Woven lt same es fs i j ls → every p (drop i es) ≡ true → every p (drop j fs) ≡ true
      → every p (items_by es fs ls) ≡ true
  unfolding items_by every
  every_woven p i j [] w a b = refl
  every_woven p i j (this l h ∷ ls) w a b =
      let q = every_part p l h es (omega (arith, w.1)) (rw w.0 a) in
      every_append p (take (h - l) (drop l es)) (items_by es fs ls) ∙ and_both _ _ q.0 (every_woven p h j ls w.4 q.1 b)
  every_woven p i j (that l h ∷ ls) w a b =
      let q = every_part p l h fs (omega (arith, w.1)) (rw w.0 b) in
      every_append p (take (h - l) (drop l fs)) (items_by es fs ls) ∙ and_both _ _ q.0 (every_woven p i h ls w.4 a q.1)
  every_woven p i j (both x y ∷ ls) w a b =
      let c : drop i es ≡ get_or es i no_entry ∷ drop (suc i) es = drop-cons es i no_entry w.2 in
      let d : drop j fs ≡ get_or fs j no_entry ∷ drop (suc j) fs = drop-cons fs j no_entry w.3 in
      let a' : (p (get_or es i no_entry) && every p (drop (suc i) es)) ≡ true = rw c at a in
      let b' : (p (get_or fs j no_entry) && every p (drop (suc j) fs)) ≡ true = rw d at b in
      rw (w.0, c)
      (and_both (p (get_or es i no_entry)) _ (and_left (p (get_or es i no_entry)) _ a')
      (every_woven p (suc i) (suc j) ls w.5 (and_right (p (get_or es i no_entry)) _ a') (and_right (p (get_or fs j no_entry)) _ b')))

  module _ (lt_trans : (a b c : Entry) → lt a b ≡ true → lt b c ≡ true → lt a c ≡ true)
      (same-lt : (a b c : Entry) → same a b ≡ true → lt a c ≡ lt b c)
      (lt-apart : (a b : Entry) → lt a b ≡ true → same a b ≡ false) where
    -- before the head is before all
    ahead_all : (x : Entry) (gs : List Entry) → ordered lt gs ≡ true → ahead lt gs x ≡ true → every (lt x) gs ≡ true
    unfolding ordered every
    ahead_all x [] o h = refl
    ahead_all x (g ∷ gs) o h = and_both _ _ h (every_imp (lt g) (lt x) (λ y k. lt_trans x g y h k) gs (and_left _ _ o))

    -- a run of one list and what follows it
    run_ordered : (l h : ℕ) (gs others rest : List Entry) → l ≤ h → ordered lt (drop l gs) ≡ true → ordered lt others ≡ true
        → every (ahead lt others) (take (h - l) (drop l gs)) ≡ true
        → ((x : Entry) → every (lt x) (drop h gs) ≡ true → every (lt x) others ≡ true → every (lt x) rest ≡ true)
        → (ordered lt (drop h gs) ≡ true → ordered lt rest ≡ true) → ordered lt (take (h - l) (drop l gs) ++ rest) ≡ true
    run_ordered l h gs others rest a o u e f g =
        let p : Parts lt (take (h - l) (drop l gs)) (drop h gs) = ordered_split lt _ _ (rw (part_then l h gs a) o) in
        ordered_join lt _ _
        (record {
          front = p.front;
          back = g p.back;
          across =
              every_both (λ (x : Entry). every (lt x) (drop h gs)) (ahead lt others) (λ (x : Entry). every (lt x) rest)
              (λ x s t. f x s (ahead_all x others u t)) (take (h - l) (drop l gs)) p.across e;
        })

    woven_ordered : (i j : ℕ) (ls : List Report) → Woven lt same es fs i j ls → ordered lt (drop i es) ≡ true → ordered lt (drop j fs) ≡ true
        → ordered lt (items_by es fs ls) ≡ true
    unfolding items_by ordered every
    woven_ordered i j [] w a b = refl
    woven_ordered i j (this l h ∷ ls) w a b =
        run_ordered l h es (drop j fs) (items_by es fs ls) (omega (arith, w.1)) (rw w.0 a) b w.3
        (λ x s t. every_woven (lt x) h j ls w.4 s t) (λ o. woven_ordered h j ls w.4 o b)
    woven_ordered i j (that l h ∷ ls) w a b =
        run_ordered l h fs (drop i es) (items_by es fs ls) (omega (arith, w.1)) (rw w.0 b) a w.3
        (λ x s t. every_woven (lt x) i h ls w.4 t s) (λ o. woven_ordered i h ls w.4 a o)
    woven_ordered i j (both x y ∷ ls) w a b =
        let c : drop i es ≡ get_or es i no_entry ∷ drop (suc i) es = drop-cons es i no_entry w.2 in
        let d : drop j fs ≡ get_or fs j no_entry ∷ drop (suc j) fs = drop-cons fs j no_entry w.3 in
        let a' : (every (lt (get_or es i no_entry)) (drop (suc i) es) && ordered lt (drop (suc i) es)) ≡ true = rw c at a in
        let b' : (every (lt (get_or fs j no_entry)) (drop (suc j) fs) && ordered lt (drop (suc j) fs)) ≡ true = rw d at b in
        let over : every (lt (get_or es i no_entry)) (drop (suc j) fs) ≡ true =
        every_imp (lt (get_or fs j no_entry)) (lt (get_or es i no_entry)) (λ z k. same-lt (get_or es i no_entry) (get_or fs j no_entry) z w.4 ∙ k) (drop (suc j) fs) (and_left _ _ b') in
        rw (w.0, c)
        (and_both _ _ (every_woven (lt (get_or es i no_entry)) (suc i) (suc j) ls w.5 (and_left _ _ a') over)
        (woven_ordered (suc i) (suc j) ls w.5 (and_right (every (lt (get_or es i no_entry)) (drop (suc i) es)) _ a')
        (and_right (every (lt (get_or fs j no_entry)) (drop (suc j) fs)) _ b')))

    ordered-apart : (gs : List Entry) → ordered lt gs ≡ true → apart same gs ≡ true
    unfolding ordered every apart
    ordered-apart [] o = refl
    ordered-apart (a ∷ []) o = refl
    ordered-apart (a ∷ b ∷ gs) o =
        let k : lt a b ≡ true = and_left _ _ (and_left _ _ o) in
        rw (lt-apart a b k) (ordered-apart (b ∷ gs) (and_right (every (lt a) (b ∷ gs)) _ o))

    -- what the reports name rises, also of what is left
    pub ordered-trimmed : (ls : List Report) → Woven lt same es fs 0 0 ls → ordered lt es ≡ true → ordered lt fs ≡ true
        → ordered lt (items_by es fs (trimmed ls)) ≡ true
    ordered-trimmed ls w a b =
        let whole : ordered lt (items_by es fs ls) ≡ true = woven_ordered 0 0 ls w a b in
        let cut : items_by es fs (trimmed ls) ++ items_by es fs (trailing ls) ≡ items_by es fs ls =
        sym (items_append es fs (trimmed ls) (trailing ls)) ∙ ap (items_by es fs) (sym (trimmed_then_trailing ls)) in
        (ordered_split lt (items_by es fs (trimmed ls)) (items_by es fs (trailing ls)) (ap (ordered lt) cut ∙ whole)).front

    -- no two neighbours are alike
    pub apart-trimmed : (ls : List Report) → Woven lt same es fs 0 0 ls → ordered lt es ≡ true → ordered lt fs ≡ true
        → apart same (items_by es fs (trimmed ls)) ≡ true
    apart-trimmed ls w a b = ordered-apart (items_by es fs (trimmed ls)) (ordered-trimmed ls w a b)

-- rising entries are ordered so
pub rising-ordered : (es : List Entry) → rising es ≡ true → ordered before es ≡ true
unfolding ordered rising
rising-ordered [] h = refl
rising-ordered (a ∷ es) h = and_both _ _ (rising_all a es h) (rising-ordered es (rising_tail a es h))
