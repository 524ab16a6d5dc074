-- The words of seven bodies behind their table, and the bodies read from words: one is the other's inverse.
use Prim.Native.Nat.{ℕ, zero, suc, ◌+◌, ◌*◌, ◌≤◌}
use mathlib.Core.Path.{◌≡◌, refl, sym, ap, ◌∙◌}
use mathlib.Core.Bool.{true, false}
use mathlib.Core.List.{List, [], ◌∷◌, ◌++◌, append_assoc}
use native.Mathlib.Omega.{arith}
use lib.Dec.{leb, eqb}
use lib.ListN.{length, take, drop, length-append}
use lib.Seq.{take_at, drop_at, take-add, drop-drop}
use borrow.Author.Tests.{leb-true, le-leb, eqb-true, ne_eqb, lt-ltb}
use Rattle.chunk.specs.Entry.{every}
use Rattle.chunk.specs.Words.{nk, nv, nt, nd, table_size, size, table_fits, body, key_body, val_end_body, val_body, time_end_body, time_body, diff_end_body, diff_body, lists, ends_rise, ends_step, rises, limit, all_or_none, well_formed}
use Rattle.chunk.specs.Contents.{contents_in}
pub use Rattle.chunk.proofs.WellFormed.{Parts, parts, whole}
use Rattle.chunk.proofs.Placed as placed
use Rattle.chunk.proofs.Falling.{capped}
use Rattle.laws.proofs.Tests.{and_left, and_both}
use Rattle.laws.proofs.Cuts.{nonzero}
use Rattle.laws.proofs.Layers.{Seven}
use Rattle.laws.proofs.Shape.{Formed}

-- ---- the words of seven bodies

abbrev pub table_in : Seven → List ℕ
table_in s = length s.key_list ∷ length s.val_list ∷ length s.time_list ∷ length s.diff_list ∷ []

abbrev pub words_of : Seven → List ℕ
words_of s =
    table_in s
    ++ (s.key_list ++ (s.val_end_list ++ (s.val_list ++ (s.time_end_list ++ (s.time_list ++ (s.diff_end_list ++ s.diff_list))))))

abbrev pub in_words : List ℕ → Seven
in_words w =
    record {
      key_list = key_body w;
      val_end_list = val_end_body w;
      val_list = val_body w;
      time_end_list = time_end_body w;
      time_list = time_body w;
      diff_end_list = diff_end_body w;
      diff_list = diff_body w;
    }

-- a part between two others
between : (w pre mid post : List ℕ) (at n : ℕ) → w ≡ pre ++ (mid ++ post) → length pre ≡ at → length mid ≡ n → body at n w ≡ mid
between w pre mid post at n e p q = ap (body at n) e ∙ ap (take n) (drop_at pre (mid ++ post) at p) ∙ take_at mid post n q

module _ (s : Seven) (c : Formed s) (rest : List ℕ) where
  abbrev w : List ℕ
  w = words_of s ++ rest

  pub sized : size w ≡ length (words_of s)
  sized = simp length-append (omega arith)

  fits : table_fits w ≡ true
  fits =
      let e : size w ≡ length (words_of s) = sized in
      let l : length w ≡ length (words_of s) + length rest = length-append (words_of s) rest in
      and_both (leb table_size (length w)) (leb (size w) (length w)) (le-leb table_size (length w) (omega arith)) (le-leb (size w) (length w) (omega arith))

  read_keys : key_body w ≡ s.key_list
  read_keys =
      between w (table_in s) s.key_list (s.val_end_list ++ (s.val_list ++ (s.time_end_list ++ (s.time_list ++ (s.diff_end_list ++ (s.diff_list ++ rest))))))
      table_size (length s.key_list) (simp append_assoc) refl refl

  read_val_ends : val_end_body w ≡ s.val_end_list
  read_val_ends =
      between w (table_in s ++ s.key_list) s.val_end_list (s.val_list ++ (s.time_end_list ++ (s.time_list ++ (s.diff_end_list ++ (s.diff_list ++ rest)))))
      (table_size + length s.key_list) (length s.key_list) (simp append_assoc) (simp length-append (omega arith)) c.val_count

  read_vals : val_body w ≡ s.val_list
  read_vals =
      between w (table_in s ++ (s.key_list ++ s.val_end_list)) s.val_list (s.time_end_list ++ (s.time_list ++ (s.diff_end_list ++ (s.diff_list ++ rest))))
      (table_size + 2 * length s.key_list) (length s.val_list) (simp append_assoc) (simp length-append (omega arith)) refl

  read_time_ends : time_end_body w ≡ s.time_end_list
  read_time_ends =
      between w (table_in s ++ (s.key_list ++ (s.val_end_list ++ s.val_list))) s.time_end_list (s.time_list ++ (s.diff_end_list ++ (s.diff_list ++ rest)))
      (table_size + 2 * length s.key_list + length s.val_list) (length s.val_list) (simp append_assoc) (simp length-append (omega arith)) c.time_count

  read_times : time_body w ≡ s.time_list
  read_times =
      between w (table_in s ++ (s.key_list ++ (s.val_end_list ++ (s.val_list ++ s.time_end_list)))) s.time_list (s.diff_end_list ++ (s.diff_list ++ rest))
      (table_size + 2 * length s.key_list + 2 * length s.val_list) (length s.time_list) (simp append_assoc) (simp length-append (omega arith)) refl

  read_diff_ends : diff_end_body w ≡ s.diff_end_list
  read_diff_ends =
      between w (table_in s ++ (s.key_list ++ (s.val_end_list ++ (s.val_list ++ (s.time_end_list ++ s.time_list))))) s.diff_end_list (s.diff_list ++ rest)
      (table_size + 2 * length s.key_list + 2 * length s.val_list + length s.time_list) (length s.time_list) (simp append_assoc) (simp length-append (omega arith)) c.diff_count

  read_diffs : diff_body w ≡ s.diff_list
  read_diffs =
      between w (table_in s ++ (s.key_list ++ (s.val_end_list ++ (s.val_list ++ (s.time_end_list ++ (s.time_list ++ s.diff_end_list)))))) s.diff_list rest
      (table_size + 2 * length s.key_list + 2 * length s.val_list + 2 * length s.time_list) (length s.diff_list) (simp append_assoc) (simp length-append (omega arith)) refl

  -- all of them at once
  pub read_again : in_words w ≡ s
  read_again =
      λ i. record {
        key_list = read_keys i;
        val_end_list = read_val_ends i;
        val_list = read_vals i;
        time_end_list = read_time_ends i;
        time_list = read_times i;
        diff_end_list = read_diff_ends i;
        diff_list = read_diffs i;
      }

-- ---- no list is without items, so the counts are all 0 or none is

rise_none : (ends : List ℕ) (top : ℕ) → ends_rise 0 ends top ≡ true → length ends ≡ 0 → top ≡ 0
unfolding ends_rise
rise_none [] top h l = sym (eqb-true _ _ h)
rise_none (e ∷ ends) top h l = absurd (omega arith)

some-counts : (a b c : ℕ) → a ≤ b → b ≤ c → (a ≡ 0 → b ≡ 0) → (b ≡ 0 → c ≡ 0) → all_or_none a b c ≡ true
some-counts zero b c p q f g = let x : b ≡ 0 = f refl in let y : c ≡ 0 = g x in rw (x, y)
some-counts (suc a) b c p q f g =
    let x : eqb (suc a) 0 ≡ false = ne_eqb (suc a) 0 (omega arith) in
    simp (x, lt-ltb 0 (suc a) (omega arith), lt-ltb 0 b (omega arith), lt-ltb 0 c (omega arith))

module _ (s : Seven) (f : Formed s) where
  formed_counts : all_or_none (length s.key_list) (length s.val_list) (length s.time_list) ≡ true
  formed_counts =
      some-counts (length s.key_list) (length s.val_list) (length s.time_list)
      (omega (arith, capped 0 (length s.val_list) s.val_end_list f.val_ends_rise, f.val_count))
      (omega (arith, capped 0 (length s.time_list) s.time_end_list f.time_ends_rise, f.time_count))
      (λ z. rise_none s.val_end_list (length s.val_list) f.val_ends_rise (f.val_count ∙ z))
      (λ z. rise_none s.time_end_list (length s.time_list) f.time_ends_rise (f.time_count ∙ z))

  -- bodies that fit together make a well formed slice, whatever words follow them
  pub formed_words : (rest : List ℕ) → length s.time_list ≤ limit → well_formed (words_of s ++ rest) ≡ true
  formed_words rest few =
      whole (words_of s ++ rest)
      (record {
        table_fits = fits s f rest;
        few = le-leb (length s.time_list) limit few;
        counts = formed_counts;
        val_ends_rise = ap (λ (l : List ℕ). ends_rise 0 l (length s.val_list)) (read_val_ends s f rest) ∙ f.val_ends_rise;
        time_ends_rise = ap (λ (l : List ℕ). ends_rise 0 l (length s.time_list)) (read_time_ends s f rest) ∙ f.time_ends_rise;
        keys_rise = ap rises (read_keys s f rest) ∙ f.keys_rise;
        vals_rise = (λ i. every rises (lists 0 (read_val_ends s f rest i) (read_vals s f rest i))) ∙ f.vals_rise;
        times_rise = (λ i. every rises (lists 0 (read_time_ends s f rest i) (read_times s f rest i))) ∙ f.times_rise;
        diff_ends_step = ap (λ (l : List ℕ). ends_step 0 l (length s.diff_list)) (read_diff_ends s f rest) ∙ f.diff_ends_step;
        diffs_stand = ap (every nonzero) (read_diffs s f rest) ∙ f.diffs_stand;
      })

-- ---- the front of a slice, body by body

table_read : (w : List ℕ) → table_size ≤ length w → take table_size w ≡ nk w ∷ nv w ∷ nt w ∷ nd w ∷ []
table_read [] h = absurd (omega arith)
table_read (a ∷ []) h = absurd (omega arith)
table_read (a ∷ b ∷ []) h = absurd (omega arith)
table_read (a ∷ b ∷ c ∷ []) h = absurd (omega arith)
table_read (a ∷ b ∷ c ∷ d ∷ w) h = refl

cut : (at next n m : ℕ) (w : List ℕ) → at + n ≡ next → take (n + m) (drop at w) ≡ body at n w ++ take m (drop next w)
cut at next n m w e =
    take-add n m (drop at w) ∙ ap (λ (l : List ℕ). body at n w ++ l) (ap (take m) (drop-drop n at w) ∙ ap (λ (j : ℕ). take m (drop j w)) e)

module _ (w : List ℕ) (h : table_fits w ≡ true) where
  long : table_size ≤ length w
  long = leb-true _ _ (and_left _ _ h)

  pub length_keys : length (key_body w) ≡ nk w
  length_keys = placed.length_keys (contents_in w) w (placed.placed w h)

  pub length_val_ends : length (val_end_body w) ≡ nk w
  length_val_ends = placed.length_val_ends (contents_in w) w (placed.placed w h)

  pub length_vals : length (val_body w) ≡ nv w
  length_vals = placed.length_vals (contents_in w) w (placed.placed w h)

  pub length_time_ends : length (time_end_body w) ≡ nv w
  length_time_ends = placed.length_time_ends (contents_in w) w (placed.placed w h)

  pub length_times : length (time_body w) ≡ nt w
  length_times = placed.length_times (contents_in w) w (placed.placed w h)

  pub length_diff_ends : length (diff_end_body w) ≡ nt w
  length_diff_ends = placed.length_diff_ends (contents_in w) w (placed.placed w h)

  pub length_diffs : length (diff_body w) ≡ nd w
  length_diffs = placed.length_diffs (contents_in w) w (placed.placed w h)

  -- the words of a slice up to its size are its table and its bodies
  pub front_words : take (size w) w ≡ words_of (in_words w)
  front_words =
      ap (λ (n : ℕ). take n w) total
      ∙ take-add table_size (nk w + (nk w + (nv w + (nv w + (nt w + (nt w + nd w)))))) w
      ∙ (λ i. (table_read w long ∙ counts) i ++ from_keys i)
    where
      total : size w ≡ table_size + (nk w + (nk w + (nv w + (nv w + (nt w + (nt w + nd w))))))
      total = omega arith

      counts : nk w ∷ nv w ∷ nt w ∷ nd w ∷ [] ≡ table_in (in_words w)
      counts = λ i. sym length_keys i ∷ sym length_vals i ∷ sym length_times i ∷ sym length_diffs i ∷ []

      from_diff_ends : take (nt w + nd w) (drop (table_size + 2 * nk w + 2 * nv w + nt w) w) ≡ diff_end_body w ++ diff_body w
      from_diff_ends = cut (table_size + 2 * nk w + 2 * nv w + nt w) (table_size + 2 * nk w + 2 * nv w + 2 * nt w) (nt w) (nd w) w (omega arith)

      from_times : take (nt w + (nt w + nd w)) (drop (table_size + 2 * nk w + 2 * nv w) w) ≡ time_body w ++ (diff_end_body w ++ diff_body w)
      from_times =
          cut (table_size + 2 * nk w + 2 * nv w) (table_size + 2 * nk w + 2 * nv w + nt w) (nt w) (nt w + nd w) w refl
          ∙ ap (λ (l : List ℕ). time_body w ++ l) from_diff_ends

      from_time_ends : take (nv w + (nt w + (nt w + nd w))) (drop (table_size + 2 * nk w + nv w) w)
          ≡ time_end_body w ++ (time_body w ++ (diff_end_body w ++ diff_body w))
      from_time_ends =
          cut (table_size + 2 * nk w + nv w) (table_size + 2 * nk w + 2 * nv w) (nv w) (nt w + (nt w + nd w)) w (omega arith)
          ∙ ap (λ (l : List ℕ). time_end_body w ++ l) from_times

      from_vals : take (nv w + (nv w + (nt w + (nt w + nd w)))) (drop (table_size + 2 * nk w) w)
          ≡ val_body w ++ (time_end_body w ++ (time_body w ++ (diff_end_body w ++ diff_body w)))
      from_vals =
          cut (table_size + 2 * nk w) (table_size + 2 * nk w + nv w) (nv w) (nv w + (nt w + (nt w + nd w))) w refl
          ∙ ap (λ (l : List ℕ). val_body w ++ l) from_time_ends

      from_val_ends : take (nk w + (nv w + (nv w + (nt w + (nt w + nd w))))) (drop (table_size + nk w) w)
          ≡ val_end_body w ++ (val_body w ++ (time_end_body w ++ (time_body w ++ (diff_end_body w ++ diff_body w))))
      from_val_ends =
          cut (table_size + nk w) (table_size + 2 * nk w) (nk w) (nv w + (nv w + (nt w + (nt w + nd w)))) w (omega arith)
          ∙ ap (λ (l : List ℕ). val_end_body w ++ l) from_vals

      from_keys : take (nk w + (nk w + (nv w + (nv w + (nt w + (nt w + nd w)))))) (drop table_size w)
          ≡ key_body w ++ (val_end_body w ++ (val_body w ++ (time_end_body w ++ (time_body w ++ (diff_end_body w ++ diff_body w)))))
      from_keys =
          cut table_size (table_size + nk w) (nk w) (nk w + (nv w + (nv w + (nt w + (nt w + nd w))))) w refl
          ∙ ap (λ (l : List ℕ). key_body w ++ l) from_val_ends

-- the bodies of a well formed slice fit together
pub words_formed : (w : List ℕ) → well_formed w ≡ true → Formed (in_words w)
words_formed w h =
    let p : Parts w = parts w h in
    let b : table_fits w ≡ true = p.table_fits in
    record {
      val_count = length_val_ends w b ∙ sym (length_keys w b);
      time_count = length_time_ends w b ∙ sym (length_vals w b);
      diff_count = length_diff_ends w b ∙ sym (length_times w b);
      val_ends_rise = ap (ends_rise 0 (val_end_body w)) (length_vals w b) ∙ p.val_ends_rise;
      time_ends_rise = ap (ends_rise 0 (time_end_body w)) (length_times w b) ∙ p.time_ends_rise;
      keys_rise = p.keys_rise;
      vals_rise = p.vals_rise;
      times_rise = p.times_rise;
      diff_ends_step = ap (ends_step 0 (diff_end_body w)) (length_diffs w b) ∙ p.diff_ends_step;
      diffs_stand = p.diffs_stand;
    }
