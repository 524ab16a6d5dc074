use Rattle.std.proofs.Common.{◌≡◌, ◌⊎◌, inl, inr, ℕ, ◌+◌, ◌<◌, ◌≤◌, List, [], length, refl, ◌∙◌, ap, Bor, Option, None, Some, MatchOption, unwrap_or, slice_range}
use Rattle.reports.specs.Run.{part_of}
use Rattle.reports.proofs.Running.{part_past, part_crossed, part_there}
use Rattle.merge.proofs.part_of.Goals as goal

module _ (body : List ℕ) (low high : ℕ) where
  -- no part is there, or the part
  part_got : (o : Option (Bor (List ℕ))) (none : Bor (List ℕ)) → none.now ≡ []
      → MatchOption o ((high < low) ⊎ (length body < high)) (λ x. (low ≤ high) × (high ≤ length body) × (x.now ≡ slice_range body low high) × (length x.now + low ≡ high))
      → (unwrap_or o none).now ≡ part_of body low high
  part_got None none e (inl h) = e ∙ part_crossed body low high h
  part_got None none e (inr h) = e ∙ part_past body low high h
  part_got (Some x) none e m = m.2 ∙ part_there body low high m.0 m.1

pub returns : goal.returns
returns c = ap (λ (x : Bor (List ℕ)). x.now) c.unwrap_or.ensures ∙ part_got _ _ _ _ _ refl c.get.ensures.lookup.0
