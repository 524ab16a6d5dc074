-- The bodies that a well formed chunk is lent by are those of its entries.
use Rattle.std.proofs.Common.{◌≡◌, ℕ, true, List, sym, ap, ◌∙◌}
use Rattle.chunk.specs.Words.{well_formed, settled, entries, rises, key_body, val_end_body, val_body, time_end_body, time_body, diff_end_body, diff_body}
use Rattle.chunk.specs.Bodies.{keys, val_ends, vals, time_ends, times, diff_ends, diffs}
use Rattle.chunk.specs.Contents.{Placed, contents_in}
use Rattle.chunk.specs.declared.Contents.{Contents}
use Rattle.chunk.proofs.Placed.{laid_by}
use Rattle.laws.proofs.Layers.{Seven, of_entries}
use Rattle.laws.proofs.Frame.{in_words}
use Rattle.laws.proofs.OneChunk.{bodies_in}
use Rattle.reports.specs.Read.{Read}
use Rattle.reports.specs.Whole.{Whole}
use Rattle.reports.proofs.Moving.{reading}

-- words that are lent as a chunk are read with its contents where they are well formed
pub read_by : (v w : List ℕ) (c : Contents) → Placed c v → v ≡ w → well_formed w ≡ true → Read w c
read_by v w c p e f = record { formed = f; contents = laid_by c v p ∙ ap contents_in e }

pub whole_by : (v w : List ℕ) (c : Contents) → Placed c v → v ≡ w → well_formed w ≡ true → settled w ≡ true → Whole w c
whole_by v w c p e f s = record { chunk = read_by v w c p e f; settles = s }

module _ (w : List ℕ) (c : Contents) (d : Read w c) (l : List ℕ) where
  both : of_entries (entries w) ≡ in_words w
  both = bodies_in w d.formed

  pub keys_lent : l ≡ key_body w → l ≡ keys (entries w)
  keys_lent e = e ∙ sym (ap (λ (s : Seven). s.key_list) both)

  pub val_ends_lent : l ≡ val_end_body w → l ≡ val_ends (entries w)
  val_ends_lent e = e ∙ sym (ap (λ (s : Seven). s.val_end_list) both)

  pub vals_lent : l ≡ val_body w → l ≡ vals (entries w)
  vals_lent e = e ∙ sym (ap (λ (s : Seven). s.val_list) both)

  pub time_ends_lent : l ≡ time_end_body w → l ≡ time_ends (entries w)
  time_ends_lent e = e ∙ sym (ap (λ (s : Seven). s.time_end_list) both)

  pub times_lent : l ≡ time_body w → l ≡ times (entries w)
  times_lent e = e ∙ sym (ap (λ (s : Seven). s.time_list) both)

  pub diff_ends_lent : l ≡ diff_end_body w → l ≡ diff_ends (entries w)
  diff_ends_lent e = e ∙ sym (ap (λ (s : Seven). s.diff_end_list) both)

  pub diffs_lent : l ≡ diff_body w → l ≡ diffs (entries w)
  diffs_lent e = e ∙ sym (ap (λ (s : Seven). s.diff_list) both)

  pub val_ends_rise : l ≡ val_end_body w → rises l ≡ true
  val_ends_rise e = let r = reading w c d in ap rises (val_ends_lent e ∙ sym r.val_end_words) ∙ r.val_ends-rise.rise

  pub time_ends_rise : l ≡ time_end_body w → rises l ≡ true
  time_ends_rise e = let r = reading w c d in ap rises (time_ends_lent e ∙ sym r.time_end_words) ∙ r.time_ends-rise.rise
