-- Two rising lists walked side by side: the steps, induction along them, and that the walk to the end of both is `union`.
use mathlib.Core.Path.{◌≡◌, refl, sym, ◌∙◌, ap}
use mathlib.Core.Bool.{Bool, true}
use mathlib.Core.List.{List, [], ◌∷◌}
use lib.IntN.{+ℤ_comm}
use mir.Val.{of_z}
use mir.Syntax.{w64}
use Rattle.chunk.specs.Entry.{Entry, before, same, rising, every, change}
use Rattle.chunk.specs.Sums.{plus}
use Rattle.reports.specs.Merge.{insert_add, union}
use Rattle.reports.specs.Theorems.{walked, whole, summed}
use Rattle.laws.proofs.Tests.{and_left, and_right, and_both}
use Rattle.laws.proofs.Order.{before_trans, before_asym, before_irrefl, before-not-same, same_sym, same-before, before_same, same_parts, Same, Compared, less, equal, more, compared, rising_tail, rising_all}

-- what holds where either list is empty, and at two heads where it holds past one head, past the other, and past both, holds of every two lists
pub side_by_side : (P : List Entry → List Entry → Type 0) → ((bs : List Entry) → P [] bs) → ((a : Entry) (es : List Entry) → P (a ∷ es) [])
    → ((a : Entry) (es : List Entry) (b : Entry) (bs : List Entry) → P es (b ∷ bs) → P (a ∷ es) bs → P es bs → P (a ∷ es) (b ∷ bs))
    → (es bs : List Entry) → P es bs
side_by_side P p q r [] bs = p bs
side_by_side P p q r (a ∷ es) bs = along bs (side_by_side P p q r es)
  where
    along : (bs : List Entry) → ((cs : List Entry) → P es cs) → P (a ∷ es) bs
    along [] ih = q a es
    along (b ∷ bs) ih = r a es b bs (ih (b ∷ bs)) (along bs ih) (ih bs)

module _ (rest : List Entry → List Entry) (a : Entry) (es : List Entry) (b : Entry) (bs : List Entry) where
  pub walked-less : before a b ≡ true → walked rest (a ∷ es) (b ∷ bs) ≡ a ∷ walked rest es (b ∷ bs)
  unfolding walked
  walked-less h = rw h

  pub walked_more : before b a ≡ true → walked rest (a ∷ es) (b ∷ bs) ≡ b ∷ walked rest (a ∷ es) bs
  unfolding walked
  walked_more h = rw (before_asym b a h, h)

  pub walked_same : same a b ≡ true → walked rest (a ∷ es) (b ∷ bs) ≡ summed a b ∷ walked rest es bs
  unfolding walked
  walked_same h = rw (same-before a b b h ∙ before_irrefl b, before_same a b b h ∙ before_irrefl b)

pub whole-nil : (es : List Entry) → whole es [] ≡ es
unfolding walked
whole-nil [] = refl
whole-nil (a ∷ es) = refl

-- a head before all of the other list goes first
pub whole_front : (a : Entry) (es bs : List Entry) → every (before a) bs ≡ true → whole (a ∷ es) bs ≡ a ∷ whole es bs
unfolding every
whole_front a es [] h = whole-nil (a ∷ es) ∙ ap (λ (l : List Entry). a ∷ l) (sym (whole-nil es))
whole_front a es (b ∷ bs) h = walked-less (λ (l : List Entry). l) a es b bs (and_left _ _ h)

-- a test of positions alone that holds of both lists holds of their walk
pub every-whole : (p : Entry → Bool) → ((a b : Entry) → p (summed a b) ≡ p a) → (es bs : List Entry) → every p es ≡ true → every p bs ≡ true → every p (whole es bs) ≡ true
unfolding every walked
every-whole p q =
    side_by_side (λ es bs. every p es ≡ true → every p bs ≡ true → every p (whole es bs) ≡ true)
    (λ bs h k. k)
    (λ a es h k. h)
    (λ a es b bs i j m h k. go a es b bs i j m h k (compared a b))
  where
    go : (a : Entry) (es : List Entry) (b : Entry) (bs : List Entry)
        → (every p es ≡ true → every p (b ∷ bs) ≡ true → every p (whole es (b ∷ bs)) ≡ true)
        → (every p (a ∷ es) ≡ true → every p bs ≡ true → every p (whole (a ∷ es) bs) ≡ true)
        → (every p es ≡ true → every p bs ≡ true → every p (whole es bs) ≡ true)
        → every p (a ∷ es) ≡ true → every p (b ∷ bs) ≡ true → Compared a b → every p (whole (a ∷ es) (b ∷ bs)) ≡ true
    go a es b bs i j m h k (less c) =
        rw (walked-less (λ (l : List Entry). l) a es b bs c)
        (and_both (p a) _ (and_left (p a) _ h) (i (and_right (p a) _ h) k))
    go a es b bs i j m h k (more c) =
        rw (walked_more (λ (l : List Entry). l) a es b bs c)
        (and_both (p b) _ (and_left (p b) _ k) (j h (and_right (p b) _ k)))
    go a es b bs i j m h k (equal c) =
        rw (walked_same (λ (l : List Entry). l) a es b bs c)
        (and_both (p (summed a b)) _ (q a b ∙ and_left (p a) _ h) (m (and_right (p a) _ h) (and_right (p b) _ k)))

-- before all of them, it is put first
put_first : (b : Entry) (es : List Entry) → every (before b) es ≡ true → insert_add b es ≡ b ∷ es
unfolding insert_add every
put_first b [] h = refl
put_first b (a ∷ es) h = rw (and_left (before b a) _ h)

-- one entry more, before all that are there of its list
put_in : (b : Entry) (bs : List Entry) → every (before b) bs ≡ true → (es : List Entry) → rising es ≡ true → insert_add b (whole es bs) ≡ whole es (b ∷ bs)
unfolding insert_add walked every rising
put_in b bs h [] k = put_first b bs h
put_in b bs h (a ∷ es) k = go (put_in b bs h es (rising_tail a es k)) (compared a b)
  where
    after : (c : Entry) → before c b ≡ true → every (before c) bs ≡ true
    after c m = further bs h
      where
        further : (ds : List Entry) → every (before b) ds ≡ true → every (before c) ds ≡ true
        further [] n = refl
        further (d ∷ ds) n = and_both (before c d) _ (before_trans c b d m (and_left _ _ n)) (further ds (and_right (before b d) _ n))

    level : same a b ≡ true → every (before a) bs ≡ true
    level m = further bs h
      where
        further : (ds : List Entry) → every (before b) ds ≡ true → every (before a) ds ≡ true
        further [] n = refl
        further (d ∷ ds) n = and_both (before a d) _ (same-before a b d m ∙ and_left _ _ n) (further ds (and_right (before b d) _ n))

    go : insert_add b (whole es bs) ≡ whole es (b ∷ bs) → Compared a b → insert_add b (whole (a ∷ es) bs) ≡ whole (a ∷ es) (b ∷ bs)
    go ih (less c) =
        ap (insert_add b) (whole_front a es bs (after a c))
        ∙ (rw (before_asym a b c, before-not-same a b c) (ap (λ (l : List Entry). a ∷ l) ih))
        ∙ sym (walked-less (λ (l : List Entry). l) a es b bs c)
    go ih (equal c) =
        ap (insert_add b) (whole_front a es bs (level c))
        ∙ (rw (before_same a b b c ∙ before_irrefl b, c))
        ∙ sym (walked_same (λ (l : List Entry). l) a es b bs c)
    go ih (more c) =
        put_first b (whole (a ∷ es) bs)
        (every-whole (before b) (λ x y. refl) (a ∷ es) bs (and_both (before b a) _ c (past es (rising_all a es k))) h)
        ∙ sym (walked_more (λ (l : List Entry). l) a es b bs c)
      where
        past : (ds : List Entry) → every (before a) ds ≡ true → every (before b) ds ≡ true
        past [] n = refl
        past (d ∷ ds) n = and_both (before b d) _ (before_trans b a d c (and_left _ _ n)) (past ds (and_right (before a d) _ n))

-- each position that is in either is what the walk to the end of both gives
pub union-whole : (es bs : List Entry) → rising es ≡ true → rising bs ≡ true → union es bs ≡ whole es bs
unfolding union rising
union-whole es [] h k = sym (whole-nil es)
union-whole es (b ∷ bs) h k =
    ap (insert_add b) (union-whole es bs h (rising_tail b bs k)) ∙ put_in b bs (rising_all b bs k) es h

pub summed_swapped : (a b : Entry) → same a b ≡ true → summed a b ≡ summed b a
summed_swapped a b h =
    let g : Same a b = same_parts a b h in
    let d : plus a.diff b.diff ≡ plus b.diff a.diff = ap (of_z w64) (+ℤ_comm (change a.diff) (change b.diff)) in
    λ i. record { key = g.key i; val = g.val i; time = g.time i; diff = d i }

-- the walk does not say which list was first
pub whole_swapped : (es bs : List Entry) → whole es bs ≡ whole bs es
unfolding walked
whole_swapped =
    side_by_side (λ es bs. whole es bs ≡ whole bs es)
    (λ bs. sym (whole-nil bs))
    (λ a es. refl)
    (λ a es b bs i j m. go a es b bs i j m (compared a b))
  where
    go : (a : Entry) (es : List Entry) (b : Entry) (bs : List Entry) → whole es (b ∷ bs) ≡ whole (b ∷ bs) es → whole (a ∷ es) bs ≡ whole bs (a ∷ es)
        → whole es bs ≡ whole bs es → Compared a b → whole (a ∷ es) (b ∷ bs) ≡ whole (b ∷ bs) (a ∷ es)
    go a es b bs i j m (less c) =
        walked-less (λ (l : List Entry). l) a es b bs c ∙ ap (λ (l : List Entry). a ∷ l) i ∙ sym (walked_more (λ (l : List Entry). l) b bs a es c)
    go a es b bs i j m (more c) =
        walked_more (λ (l : List Entry). l) a es b bs c ∙ ap (λ (l : List Entry). b ∷ l) j ∙ sym (walked-less (λ (l : List Entry). l) b bs a es c)
    go a es b bs i j m (equal c) =
        walked_same (λ (l : List Entry). l) a es b bs c
        ∙ ap (λ (e : Entry). e ∷ whole es bs) (summed_swapped a b c) ∙ ap (λ (l : List Entry). summed b a ∷ l) m
        ∙ sym (walked_same (λ (l : List Entry). l) b bs a es (same_sym a b c))
