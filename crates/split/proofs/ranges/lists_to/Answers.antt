-- `split::ranges::lists_to` meets its contract: the ends rise, so those at or below the number stand first.
use Rattle.std.proofs.Common.{rules, ℕ, leb}
use Rattle.std.proofs.lemmas.List.Sorted.{IsPartitionedBy-leb, IsNonDecreasingBy-from_default, IsPartitionPoint-from_clause}
use Rattle.laws.proofs.Ends.{ends_up}
use Rattle.split.proofs.Spans.{ends_parted}
use Rattle.split.proofs.ranges.lists_to.Goals as goal

pub returns : goal.returns
returns c =
    let ends = c.args.ends.now in
    ends_parted ends c.args.n _ c.partition_point.ensures.bound
    (IsPartitionPoint-from_clause (λ (e : ℕ). leb e c.args.n) ends _ c.partition_point.ensures.partitioned
    (IsPartitionedBy-leb (λ (e : ℕ). e) ends c.args.n (IsNonDecreasingBy-from_default (λ (e : ℕ). e) ends 0 (λ i j h l. ends_up ends i j c.requires h l)))
    (λ a r f k. search rules))
