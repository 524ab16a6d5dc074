-- Lists closed where the next entry starts another, once entries are filtered: the nodes that are left are those of the filtered entries.
use Prim.Native.Nat.{ℕ, suc, ◌+◌, ◌-◌, ◌<◌}
use mathlib.Core.Path.{◌≡◌, refl, sym, ◌∙◌, ap}
use mathlib.Core.Bool.{Bool, true, false, not, cond, ◌||◌}
use mathlib.Core.List.{List, [], ◌∷◌, map}
use native.Mathlib.Omega.{arith}
use native.Mathlib.Nat.{add-zero, sub_self}
use lib.Dec.{ltb}
use borrow.Author.Tests.{lt-ltb, not-true}
use Rattle.chunk.specs.Entry.{Entry, every, rising, before}
use Rattle.chunk.specs.Bodies.{lasts_of, ends_of}
use Rattle.laws.proofs.Tests.{by_test, and_left, and_right, and_both}
use Rattle.laws.proofs.Order.{rising_all, rising_tail}
use Rattle.laws.specs.Picked.{count_kept, pick, nodes}

-- what h says of the last entry of each list and of the count up to it
unfoldable pub closings : {B : Type 0} → (Entry → Entry → Bool) → (Entry → ℕ → B) → ℕ → List Entry → List B
closings same h n [] = []
closings same h n (a ∷ []) = h a (suc n) ∷ []
closings same h n (a ∷ b ∷ es) = cond (same a b) (closings same h (suc n) (b ∷ es)) (h a (suc n) ∷ closings same h (suc n) (b ∷ es))

-- the same after entry a, which is counted
unfoldable pub onward : {B : Type 0} → (Entry → Entry → Bool) → (Entry → ℕ → B) → Entry → ℕ → List Entry → List B
onward same h a n [] = h a n ∷ []
onward same h a n (b ∷ es) = cond (same a b) (onward same h b (suc n) es) (h a n ∷ onward same h b (suc n) es)

pub closings-onward : {B : Type 0} (same : Entry → Entry → Bool) (h : Entry → ℕ → B) (n : ℕ) (a : Entry) (es : List Entry)
    → closings same h n (a ∷ es) ≡ onward same h a (suc n) es
unfolding closings onward
closings-onward same h n a [] = refl
closings-onward same h n a (b ∷ es) = simp (closings-onward same h (suc n) b es)

pub closings_lasts : {B : Type 0} (same : Entry → Entry → Bool) (f : Entry → B) (n : ℕ) (es : List Entry)
    → closings same (λ a k. f a) n es ≡ map f (lasts_of same es)
unfolding closings lasts_of
closings_lasts same f n [] = refl
closings_lasts same f n (a ∷ []) = refl
closings_lasts same f n (a ∷ b ∷ es) =
    by_test (same a b) (λ h. simp (h, closings_lasts same f (suc n) (b ∷ es))) (λ h. simp (h, closings_lasts same f (suc n) (b ∷ es)))

pub closings-ends : (same : Entry → Entry → Bool) (n : ℕ) (es : List Entry) → closings same (λ a k. k) n es ≡ ends_of same n es
unfolding closings ends_of
closings-ends same n [] = refl
closings-ends same n (a ∷ []) = refl
closings-ends same n (a ∷ b ∷ es) =
    by_test (same a b) (λ h. simp (h, closings-ends same (suc n) (b ∷ es))) (λ h. simp (h, closings-ends same (suc n) (b ∷ es)))

-- nodes whose first list may already have an item
unfoldable nodes_open : {A B : Type 0} → (ℕ → Bool) → (A → ℕ → B) → Bool → ℕ → ℕ → List A → List ℕ → List B
unfolding count_kept nodes
nodes_open m g b i c [] ends = []
nodes_open m g b i c (x ∷ xs) [] = []
nodes_open m g b i c (x ∷ xs) (e ∷ ends) =
    let n : ℕ = count_kept m i (e - i) in
    cond (b || ltb 0 n) (g x (c + n) ∷ nodes m g e (c + n) xs ends) (nodes m g e (c + n) xs ends)

nodes_open_lem : {A B : Type 0} (m : ℕ → Bool) (g : A → ℕ → B) (i c : ℕ) (xs : List A) (ends : List ℕ)
    → nodes m g i c xs ends ≡ nodes_open m g false i c xs ends
unfolding nodes nodes_open
nodes_open_lem m g i c [] ends = refl
nodes_open_lem m g i c (x ∷ xs) [] = refl
nodes_open_lem m g i c (x ∷ xs) (e ∷ ends) = refl

or-true : (b : Bool) → (b || true) ≡ true
or-true true = refl
or-true false = refl

or-false : (b : Bool) → (b || false) ≡ b
or-false true = refl
or-false false = refl

-- one index further in the first list
step : {A B : Type 0} (m : ℕ → Bool) (g : A → ℕ → B) (b : Bool) (i c : ℕ) (xs : List A) (e : ℕ) (ends : List ℕ)
    → i < e → nodes_open m g b i c xs (e ∷ ends) ≡ nodes_open m g (b || m i) (suc i) (cond (m i) (suc c) c) xs (e ∷ ends)
unfolding nodes_open count_kept
step m g b i c [] e ends h = refl
step m g b i c (x ∷ xs) e ends h =
    let q : e - i ≡ suc (e - suc i) = omega arith in
    let n : ℕ = count_kept m (suc i) (e - suc i) in
    let s : c + suc n ≡ suc c + n = omega arith in
    by_test (m i)
    (λ k. simp (q, k, or-true, lt-ltb 0 (suc n) (omega arith), s))
    (λ k. simp (q, k, or-false))

-- ---- the law, over a sameness that is an equivalence, an f that it keeps, and lists that stay apart once they differ

pub record Groups {A : Type 0} (same : Entry → Entry → Bool) (f : Entry → A) : Type 0 where
  pub itself : (a : Entry) → same a a ≡ true
  pub alike : (p a x : Entry) → same p a ≡ true → same p x ≡ same a x
  pub kept : (p a : Entry) → same p a ≡ true → f p ≡ f a
  pub apart : (a b x : Entry) → before a b ≡ true → before b x ≡ true → same a b ≡ false → same a x ≡ false

every-pick : (q : Entry → Bool) (m : ℕ → Bool) (i : ℕ) (es : List Entry) → every q es ≡ true → every q (pick m i es) ≡ true
unfolding every pick
every-pick q m i [] h = refl
every-pick q m i (e ∷ es) h =
    let t : every q (pick m (suc i) es) ≡ true = every-pick q m (suc i) es (and_right (q e) _ h) in
    by_test (m i) (λ k. simp k (and_both (q e) _ (and_left _ _ h) t)) (λ k. simp k t)

every_more : (p q : Entry → Bool) → ((e : Entry) → p e ≡ true → q e ≡ true) → (es : List Entry) → every p es ≡ true → every q es ≡ true
unfolding every
every_more p q f [] h = refl
every_more p q f (e ∷ es) h = and_both _ _ (f e (and_left _ _ h)) (every_more p q f es (and_right (p e) _ h))

-- a list closes before entries that are none of its own
onward-apart : {B : Type 0} (same : Entry → Entry → Bool) (h : Entry → ℕ → B) (p : Entry) (c : ℕ) (l : List Entry)
    → every (λ (x : Entry). not (same p x)) l ≡ true → onward same h p c l ≡ h p c ∷ closings same h c l
unfolding onward closings every
onward-apart same h p c [] k = refl
onward-apart same h p c (x ∷ l) k =
    let n : same p x ≡ false = not-true _ (and_left _ _ k) in simp (n, closings-onward same h c x l)

module _ {A B : Type 0} (same : Entry → Entry → Bool) (f : Entry → A) (G : Groups same f) (g : A → ℕ → B) (m : ℕ → Bool) where
  abbrev closed : Entry → ℕ → B
  closed a n = g (f a) n

  abbrev items : Entry → ℕ → List Entry → List A
  items a i rest = onward same (λ (x : Entry) (k : ℕ). f x) a i rest

  abbrev ends : Entry → ℕ → List Entry → List ℕ
  ends a i rest = onward same (λ (x : Entry) (k : ℕ). k) a i rest

  -- what is left to close: the open list of p, or none
  abbrev left : Bool → Entry → ℕ → List Entry → List B
  left true p c l = onward same closed p c l
  left false p c l = closings same closed c l

  onward-step : (rest : List Entry) (d : Entry) (b : Bool) (i j c : ℕ) (xs : List A)
      → i < j → nodes_open m g b i c xs (ends d j rest) ≡ nodes_open m g (b || m i) (suc i) (cond (m i) (suc c) c) xs (ends d j rest)
  unfolding onward
  onward-step [] d b i j c xs h = step m g b i c xs j [] h
  onward-step (x ∷ rest) d b i j c xs h =
      by_test (same d x)
      (λ k. simp k (onward-step rest x b i (suc j) c xs (omega arith)))
      (λ k. simp k (step m g b i c xs j _ h))

  -- a list that closes: it is left where it has an item
  abbrev shut : Bool → Entry → ℕ → List B → List B
  shut true p c l = closed p c ∷ l
  shut false p c l = l

  left-take : (b : Bool) (p d : Entry) (c : ℕ) (l : List Entry) → same p d ≡ true → left b p c (d ∷ l) ≡ onward same closed d (suc c) l
  unfolding onward
  left-take true p d c l h = simp h
  left-take false p d c l h = closings-onward same closed c d l

  left_cut : (b : Bool) (p d : Entry) (c : ℕ) (l : List Entry) → same p d ≡ false → left b p c (d ∷ l) ≡ shut b p c (onward same closed d (suc c) l)
  unfolding onward
  left_cut true p d c l h = simp h
  left_cut false p d c l h = closings-onward same closed c d l

  left-apart : (b : Bool) (p : Entry) (c : ℕ) (l : List Entry)
      → every (λ (x : Entry). not (same p x)) l ≡ true → left b p c l ≡ shut b p c (closings same closed c l)
  left-apart true p c l h = onward-apart same closed p c l h
  left-apart false p c l h = refl

  shut-alike : (b : Bool) (p a : Entry) (c : ℕ) (l : List B) → same p a ≡ true → shut b a c l ≡ shut b p c l
  shut-alike true p a c l h = simp (G.kept p a h)
  shut-alike false p a c l h = refl

  close : (b : Bool) (a : Entry) (i c : ℕ) (xs : List A) (es : List ℕ)
      → nodes_open m g b i c (f a ∷ xs) (i ∷ es) ≡ shut b a c (nodes_open m g false i c xs es)
  unfolding nodes_open count_kept
  close true a i c xs es = simp (sub_self, add-zero, nodes_open_lem)
  close false a i c xs es = simp (sub_self, add-zero, nodes_open_lem)

  group : (rest : List Entry) (a p : Entry) (b : Bool) (i c : ℕ)
      → same p a ≡ true → every (before a) rest ≡ true → rising rest ≡ true
      → nodes_open m g b i c (items a i rest) (ends a i rest) ≡ left b p c (pick m i rest)
  unfolding onward nodes_open count_kept nodes pick closings every rising
  group [] a p true i c s r u = simp (sub_self, add-zero, G.kept p a s)
  group [] a p false i c s r u = simp (sub_self)
  group (d ∷ rest) a p b i c s r u =
      let l : List Entry = pick m (suc i) rest in
      let rd : every (before d) rest ≡ true = rising_all d rest u in
      let ud : rising rest ≡ true = rising_tail d rest u in
      let sd : same p d ≡ same a d = G.alike p a d s in
      by_test (same a d)
      (λ k. let here : nodes_open m g b i c (items d (suc i) rest) (ends d (suc i) rest) ≡ nodes_open m g (b || m i) (suc i) (cond (m i) (suc c) c) (items d (suc i) rest) (ends d (suc i) rest) = onward-step rest d b i (suc i) c (items d (suc i) rest) (omega arith) in
      by_test (m i)
      (λ t. simp (k, t) (here ∙ simp (t, or-true) (group rest d d true (suc i) (suc c) (G.itself d) rd ud ∙ sym (left-take b p d c l (sd ∙ k)))))
      (λ t. simp (k, t) (here ∙ simp (t, or-false) (group rest d p b (suc i) c (sd ∙ k) rd ud))))
      (λ k. let here : nodes_open m g false i c (items d (suc i) rest) (ends d (suc i) rest) ≡ nodes_open m g (false || m i) (suc i) (cond (m i) (suc c) c) (items d (suc i) rest) (ends d (suc i) rest) = onward-step rest d false i (suc i) c (items d (suc i) rest) (omega arith) in
      let shutting : nodes_open m g b i c (f a ∷ items d (suc i) rest) (i ∷ ends d (suc i) rest) ≡ shut b p c (nodes_open m g false i c (items d (suc i) rest) (ends d (suc i) rest)) = close b a i c (items d (suc i) rest) (ends d (suc i) rest) ∙ shut-alike b p a c _ s in
      by_test (m i)
      (λ t. simp (k, t) (shutting ∙ ap (shut b p c) (here ∙ simp t (group rest d d true (suc i) (suc c) (G.itself d) rd ud)) ∙ sym (left_cut b p d c l (sd ∙ k))))
      (λ t. simp (k, t) (shutting ∙ ap (shut b p c) (here ∙ simp t (group rest d d false (suc i) c (G.itself d) rd ud)) ∙ sym (left-apart b p c l (strangers p a d rest i s k r rd)))))
    where
      strangers : (p a d : Entry) (rest : List Entry) (i : ℕ) → same p a ≡ true → same a d ≡ false → every (before a) (d ∷ rest) ≡ true → every (before d) rest ≡ true
          → every (λ (x : Entry). not (same p x)) (pick m (suc i) rest) ≡ true
      strangers p a d rest i s k r rd =
          every-pick (λ (x : Entry). not (same p x)) m (suc i) rest
          (every_more (before d) (λ (x : Entry). not (same p x))
          (λ x h. simp (G.alike p a x s, G.apart a d x (and_left _ _ r) h k)) rest rd)

  -- the nodes of the entries, filtered, are those of the filtered entries
  pub grouped : (es : List Entry) → rising es ≡ true
      → nodes m g 0 0 (closings same (λ (x : Entry) (k : ℕ). f x) 0 es) (closings same (λ (x : Entry) (k : ℕ). k) 0 es) ≡ closings same closed 0 (pick m 0 es)
  unfolding nodes closings pick rising
  grouped [] u = refl
  grouped (a ∷ rest) u =
      let l : List Entry = pick m 1 rest in
      let here : nodes_open m g false 0 0 (items a 1 rest) (ends a 1 rest) ≡ nodes_open m g (false || m 0) 1 (cond (m 0) 1 0) (items a 1 rest) (ends a 1 rest) = onward-step rest a false 0 1 0 (items a 1 rest) (omega arith) in
      let starts : nodes m g 0 0 (closings same (λ (x : Entry) (k : ℕ). f x) 0 (a ∷ rest)) (closings same (λ (x : Entry) (k : ℕ). k) 0 (a ∷ rest)) ≡ nodes_open m g false 0 0 (items a 1 rest) (ends a 1 rest) =
      simp (closings-onward same (λ (x : Entry) (k : ℕ). f x) 0 a rest, closings-onward same (λ (x : Entry) (k : ℕ). k) 0 a rest) (nodes_open_lem m g 0 0 (items a 1 rest) (ends a 1 rest)) in
      let ra : every (before a) rest ≡ true = rising_all a rest u in
      let ua : rising rest ≡ true = rising_tail a rest u in
      by_test (m 0)
      (λ t. simp t (starts ∙ here ∙ simp t (group rest a a true 1 1 (G.itself a) ra ua ∙ sym (closings-onward same closed 0 a l))))
      (λ t. simp t (starts ∙ here ∙ simp t (group rest a a false 1 0 (G.itself a) ra ua)))
