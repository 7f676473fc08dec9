use Rattle.std.proofs.Common.{rules}
use Rattle.std.proofs.lemmas.List.Sorted.{IsPartitionPoint-from_clause}
use Rattle.pie_checks.proofs.Sorting.{is_before, parted, placed}
use Rattle.pie_checks.proofs.listing.place.Goals as goal

pub returns : goal.returns
returns c =
    placed c.args.listing.now c.args.key.now c.partition_point.result c.partition_point.ensures.bound
    (IsPartitionPoint-from_clause (is_before c.args.key.now) c.args.listing.now c.partition_point.result c.partition_point.ensures.partitioned
    (parted c.args.listing.now c.args.key.now c.requires) (λ a r f k. search rules))
