-- A slice cut at the places of its contents gives its bodies, each as long as its count.
use Prim.Native.Nat.{ℕ, ◌≤◌, ◌+◌, ◌*◌, ◌-◌}
use mathlib.Core.Path.{◌≡◌, refl, ◌∙◌}
use mathlib.Core.Bool.{Bool, true, false}
use Rattle.std.specs.Prelude.{Option, Some, None}
use mathlib.Core.List.{List}
use native.Mathlib.Omega.{arith}
use lib.ListN.{length, take, drop, length-drop}
use lib.Seq.{length-take-le}
use lib.Dec.{leb, eqb}
use borrow.Author.Tests.{leb-true}
use Rattle.chunk.specs.declared.Contents.{Contents}
use Rattle.chunk.specs.Words.{body, nk, nv, nt, nd, size, table_size, table_fits, settled, key_body, val_end_body, val_body, time_end_body, time_body, diff_end_body, diff_body}
use Rattle.chunk.specs.Contents.{Placed, contents_of, where_true, contents_in}
use Rattle.chunk.proofs.Tests.{and_left, and_right}

-- where the bodies of a slice stand whose table fits it
pub placed : (w : List ℕ) → table_fits w ≡ true → Placed (contents_in w) w
placed w h =
    record {
      key_count = refl;
      val_count = refl;
      time_count = refl;
      diff_count = refl;
      keys_placed = refl;
      val_ends_placed = refl;
      vals_placed = refl;
      time_ends_placed = refl;
      times_placed = refl;
      diff_ends_placed = refl;
      diffs_placed = refl;
      sized = refl;
      table = leb-true _ _ (and_left (leb table_size (length w)) _ h);
      within = leb-true _ _ (and_right (leb table_size (length w)) _ h);
    }

-- contents that were found say that the table fits, and where the bodies stand
pub record FoundIn (w : List ℕ) (c : Contents) : Type 0 where
  pub fits : table_fits w ≡ true
  pub laid : c ≡ contents_in w

chosen : (b : Bool) (c d : Contents) → where_true b c ≡ Some d → (b ≡ true) × (d ≡ c)
chosen true c d h = (refl, cc)
chosen false c d h = cc

pub found_in : (w : List ℕ) (c : Contents) → contents_of w ≡ Some c → FoundIn w c
unfolding contents_of
found_in w c h =
    let p = chosen (table_fits w) (contents_in w) c h in
    record { fits = p.0; laid = p.1 }

pub placed_by : (w : List ℕ) (c : Contents) → contents_of w ≡ Some c → Placed c w
placed_by w c h = let f = found_in w c h in rw f.laid (placed w f.fits)

-- and where none are found it doesn't
refused : (b : Bool) (c : Contents) → where_true b c ≡ None → b ≡ false
refused true c h = cc
refused false c h = refl

pub unfit : (w : List ℕ) → contents_of w ≡ None → table_fits w ≡ false
unfolding contents_of
unfit w h = refused (table_fits w) (contents_in w) h

-- contents whose bodies stand in their places are those that the counts give
pub laid_by : (c : Contents) (w : List ℕ) → Placed c w → c ≡ contents_in w
laid_by c w p =
    let e : c ≡ record { nk = c.nk; nv = c.nv; nt = c.nt; nd = c.nd; keys_at = c.keys_at; val_ends_at = c.val_ends_at; vals_at = c.vals_at; time_ends_at = c.time_ends_at; times_at = c.times_at; diff_ends_at = c.diff_ends_at; diffs_at = c.diffs_at; size = c.size } = refl in
    e ∙ rw (p.key_count, p.val_count, p.time_count, p.diff_count, p.keys_placed, p.val_ends_placed, p.vals_placed, p.time_ends_placed, p.times_placed, p.diff_ends_placed, p.diffs_placed, p.sized)

-- and as many diffs as times make them settled
pub settles_by : (c : Contents) (w : List ℕ) → Placed c w → eqb c.nd c.nt ≡ settled w
settles_by c w p = rw (p.diff_count, p.time_count)

cut : (w : List ℕ) (a e at n : ℕ) → a ≡ at → e ≡ at + n → take (e - a) (drop a w) ≡ body at n w
cut w a e at n h k = let q : e - a ≡ n = omega arith in rw (q, h)

pub length-body : (w : List ℕ) (at n : ℕ) → at + n ≤ length w → length (body at n w) ≡ n
length-body w at n h = length-take-le n (drop at w) (simp length-drop (omega arith))

module _ (c : Contents) (w : List ℕ) (p : Placed c w) where
  pub cut_keys : take (c.val_ends_at - c.keys_at) (drop c.keys_at w) ≡ key_body w
  cut_keys = cut w _ _ _ (nk w) p.keys_placed (omega arith)

  pub cut_val_ends : take (c.vals_at - c.val_ends_at) (drop c.val_ends_at w) ≡ val_end_body w
  cut_val_ends = cut w _ _ _ (nk w) p.val_ends_placed (omega arith)

  pub cut_vals : take (c.time_ends_at - c.vals_at) (drop c.vals_at w) ≡ val_body w
  cut_vals = cut w _ _ _ (nv w) p.vals_placed (omega arith)

  pub cut_time_ends : take (c.times_at - c.time_ends_at) (drop c.time_ends_at w) ≡ time_end_body w
  cut_time_ends = cut w _ _ _ (nv w) p.time_ends_placed (omega arith)

  pub cut_times_lem : take (c.diff_ends_at - c.times_at) (drop c.times_at w) ≡ time_body w
  cut_times_lem = cut w _ _ _ (nt w) p.times_placed (omega arith)

  pub cut_diff_ends : take (c.diffs_at - c.diff_ends_at) (drop c.diff_ends_at w) ≡ diff_end_body w
  cut_diff_ends = cut w _ _ _ (nt w) p.diff_ends_placed (omega arith)

  pub cut_diffs : take (c.size - c.diffs_at) (drop c.diffs_at w) ≡ diff_body w
  cut_diffs = cut w _ _ _ (nd w) p.diffs_placed (omega arith)

  pub length_keys : length (key_body w) ≡ nk w
  length_keys = length-body w table_size (nk w) (omega arith)

  pub length_val_ends : length (val_end_body w) ≡ nk w
  length_val_ends = length-body w (table_size + nk w) (nk w) (omega arith)

  pub length_vals : length (val_body w) ≡ nv w
  length_vals = length-body w (table_size + 2 * nk w) (nv w) (omega arith)

  pub length_time_ends : length (time_end_body w) ≡ nv w
  length_time_ends = length-body w (table_size + 2 * nk w + nv w) (nv w) (omega arith)

  pub length_times : length (time_body w) ≡ nt w
  length_times = length-body w (table_size + 2 * nk w + 2 * nv w) (nt w) (omega arith)

  pub length_diff_ends : length (diff_end_body w) ≡ nt w
  length_diff_ends = length-body w (table_size + 2 * nk w + 2 * nv w + nt w) (nt w) (omega arith)

  pub length_diffs : length (diff_body w) ≡ nd w
  length_diffs = length-body w (table_size + 2 * nk w + 2 * nv w + 2 * nt w) (nd w) (omega arith)
