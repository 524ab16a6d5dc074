-- The words of reports: three for each, and those of more reports past those that are there.
use Prim.Native.Nat.{ℕ, ◌+◌, ◌*◌, ◌≤◌}
use mathlib.Core.Path.{◌≡◌, refl, sym, ◌∙◌, ap}
use mathlib.Core.List.{List, [], ◌∷◌, ◌++◌, append_assoc}
use native.Mathlib.Omega.{arith}
use lib.ListN.{length, length-append}
use Rattle.reports.specs.Survey.{Report, this, that, both}
use Rattle.reports.specs.Scratch.{placed, words_of, report_words}
use Rattle.reports.proofs.Placing.{placed_twice}

words_three : (r : Report) → length (words_of r) ≡ 3
words_three (this l h) = refl
words_three (that l h) = refl
words_three (both i j) = refl

pub length_words : (rs : List Report) → length (report_words rs) ≡ 3 * length rs
unfolding report_words
length_words [] = refl
length_words (r ∷ rs) = omega (arith, length-append (words_of r) (report_words rs), words_three r, length_words rs)

pub words_append : (rs ts : List Report) → report_words (rs ++ ts) ≡ report_words rs ++ report_words ts
unfolding report_words
words_append [] ts = refl
words_append (r ∷ rs) ts = ap (λ (l : List ℕ). words_of r ++ l) (words_append rs ts) ∙ sym (append_assoc (words_of r) (report_words rs) (report_words ts))

-- more reports past those that are there
pub placed-more : (from : ℕ) (done more : List Report) (s₀ s s' : List ℕ) (at : ℕ) → s ≡ placed from (report_words done) s₀ → at ≡ from + 3 * length done
    → at ≤ length s₀ → s' ≡ placed at (report_words more) s → s' ≡ placed from (report_words (done ++ more)) s₀
placed-more from done more s₀ s s' at p q h r =
    let e : at ≡ from + length (report_words done) = omega (arith, length_words done) in
    let room : from + length (report_words done) ≤ length s₀ = omega arith in
    r ∙ ap (λ (l : List ℕ). placed at (report_words more) l) p ∙ ap (λ (n : ℕ). placed n (report_words more) (placed from (report_words done) s₀)) e
    ∙ placed_twice from s₀ (report_words done) (report_words more) room
    ∙ ap (λ (l : List ℕ). placed from l s₀) (sym (words_append done more))
