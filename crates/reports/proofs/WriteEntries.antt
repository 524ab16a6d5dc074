-- What reports of times name, body by body: the times and the diffs of the entries are those that are written.
use Prim.Native.Nat.{ℕ, zero, suc, ◌-◌, ◌<◌}
use mathlib.Core.Path.{◌≡◌, refl, sym, ◌∙◌, ap}
use mathlib.Core.Bool.{Bool, true, false}
use mathlib.Core.List.{List, [], ◌∷◌, ◌++◌, map}
use native.Mathlib.Omega.{arith}
use lib.Dec.{eqb}
use borrow.Author.Tests.{ne_eqb}
use lib.ListN.{length, get_or, take, drop, get_or-map}
use lib.Seq.{take-take, drop-cons}
use Rattle.laws.proofs.Tests.{and_left, and_right, and_both}
use Rattle.laws.proofs.Lists.{map-take, map-drop}
use Rattle.chunk.specs.Entry.{Entry, stands, keep, every}
use Rattle.chunk.specs.Bodies.{times, diffs}
use Rattle.chunk.specs.Sums.{plus}
use Rattle.meld.proofs.Append.{times-append, diffs-append}
use Rattle.reports.specs.Survey.{Report, this, that, both}
use Rattle.reports.specs.Write.{named, items_by, added_to, entries_of, entries_by, Serves, AllServe, diff_list, diff_of, diffs_by}

-- ---- times

map_part : (f : Entry → ℕ) (n l : ℕ) (es : List Entry) → map f (take n (drop l es)) ≡ take n (drop l (map f es))
map_part f n l es = map-take f n (drop l es) ∙ ap (take n) (map-drop f l es)

times_added : (xs ys : List Entry) → times (added_to xs ys) ≡ take 1 (times xs)
times_added [] ys = refl
times_added (x ∷ xs) [] = refl
times_added (x ∷ xs) (y ∷ ys) = refl

times_of : (a b : List Entry) (r : Report) → times (entries_of a b r) ≡ named (times a) (times b) r
times_of a b (this l h) = map_part (λ (e : Entry). e.time) (h - l) l a
times_of a b (that l h) = map_part (λ (e : Entry). e.time) (h - l) l b
times_of a b (both i j) =
    times_added (take 1 (drop i a)) (take 1 (drop j b))
    ∙ ap (take 1) (map_part (λ (e : Entry). e.time) 1 i a)
    ∙ take-take 1 1 (drop i (times a)) (omega arith)

-- the times that are written are those of the entries
pub times_by : (a b : List Entry) (ts : List Report) → times (entries_by a b ts) ≡ items_by (times a) (times b) ts
unfolding entries_by items_by
times_by a b [] = refl
times_by a b (r ∷ ts) =
    times-append (entries_of a b r) (entries_by a b ts) ∙ (λ i. times_of a b r i ++ times_by a b ts i)

-- ---- diffs, of inputs that are settled

pub every_take : (p : Entry → Bool) (n : ℕ) (es : List Entry) → every p es ≡ true → every p (take n es) ≡ true
unfolding every
every_take p zero es h = refl
every_take p (suc n) [] h = refl
every_take p (suc n) (e ∷ es) h = and_both (p e) _ (and_left (p e) _ h) (every_take p n es (and_right (p e) _ h))

pub every_drop : (p : Entry → Bool) (n : ℕ) (es : List Entry) → every p es ≡ true → every p (drop n es) ≡ true
unfolding every
every_drop p zero es h = h
every_drop p (suc n) [] h = h
every_drop p (suc n) (e ∷ es) h = every_drop p n es (and_right (p e) _ h)

keep-every : (p : Entry → Bool) (es : List Entry) → every p es ≡ true → keep p es ≡ es
unfolding keep every
keep-every p [] h = refl
keep-every p (e ∷ es) h = rw (and_left (p e) _ h) (ap (λ (l : List Entry). e ∷ l) (keep-every p es (and_right (p e) _ h)))

pub diffs_all : (es : List Entry) → every stands es ≡ true → diffs es ≡ map (λ (e : Entry). e.diff) es
diffs_all es h = ap (map (λ (e : Entry). e.diff)) (keep-every stands es h)

diffs_part : (n l : ℕ) (es : List Entry) → every stands es ≡ true → diffs (take n (drop l es)) ≡ take n (drop l (diffs es))
diffs_part n l es h =
    diffs_all (take n (drop l es)) (every_take stands n (drop l es) (every_drop stands l es h))
    ∙ map_part (λ (e : Entry). e.diff) n l es
    ∙ ap (λ (d : List ℕ). take n (drop l d)) (sym (diffs_all es h))

-- one entry's diffs
one_diff : (k v t d : ℕ) → diffs (record { key = k; val = v; time = t; diff = d } ∷ []) ≡ diff_list d
unfolding keep
one_diff k v t zero = refl
one_diff k v t (suc d) = let n : eqb (suc d) 0 ≡ false = ne_eqb (suc d) 0 (λ e. omega arith) in rw n

diff-at : (es : List Entry) (i : ℕ) → every stands es ≡ true → (get_or es i (record { key = 0; val = 0; time = 0; diff = 0 })).diff ≡ get_or (diffs es) i 0
diff-at es i h =
    sym (get_or-map (λ (e : Entry). e.diff) es i (record { key = 0; val = 0; time = 0; diff = 0 }))
    ∙ ap (λ (d : List ℕ). get_or d i 0) (sym (diffs_all es h))

module _ (a b : List Entry) (sa : every stands a ≡ true) (sb : every stands b ≡ true) where
  shared_diff : (i j : ℕ) → i < length a → j < length b → diffs (entries_of a b (both i j)) ≡ diff_list (plus (get_or (diffs a) i 0) (get_or (diffs b) j 0))
  shared_diff i j h k =
      let d : Entry = record { key = 0; val = 0; time = 0; diff = 0 } in
      let x : Entry = get_or a i d in
      let y : Entry = get_or b j d in
      rw (drop-cons a i d h, drop-cons b j d k)
      (one_diff x.key x.val x.time (plus x.diff y.diff)
      ∙ ap diff_list (λ t. plus (diff-at a i sa t) (diff-at b j sb t)))

  pub diffs_of : (r : Report) → Serves (length a) (length b) r → diffs (entries_of a b r) ≡ diff_of (diffs a) (diffs b) r
  diffs_of (this l h) v = diffs_part (h - l) l a sa
  diffs_of (that l h) v = diffs_part (h - l) l b sb
  diffs_of (both i j) v = shared_diff i j v.0 v.1

  -- the diffs that are written are those of the entries
  pub diffs_by_lem : (ts : List Report) → AllServe (length a) (length b) ts → diffs (entries_by a b ts) ≡ diffs_by (diffs a) (diffs b) ts
  unfolding entries_by diffs_by keep
  diffs_by_lem [] v = refl
  diffs_by_lem (r ∷ ts) v =
      diffs-append (entries_of a b r) (entries_by a b ts) ∙ (λ i. diffs_of r v.0 i ++ diffs_by_lem ts v.1 i)
