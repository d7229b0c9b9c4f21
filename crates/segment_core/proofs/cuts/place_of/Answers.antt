use Rattle.std.proofs.Common.{rules}
use Rattle.std.proofs.lemmas.List.Sorted.{IsPartitionPoint-from_clause}
use Rattle.plane_spec.specs.Fractions.{is_before}
use Rattle.segment_core.proofs.Cutting.{rising_parted}
use Rattle.segment_core.proofs.cuts.place_of.Goals as goal

pub returns-clause-point : goal.returns-clause-point
returns-clause-point c =
    IsPartitionPoint-from_clause (λ t. is_before t c.args.cut.now) c.args.cuts.now c.partition_point.result
    c.partition_point.ensures.partitioned
    (rising_parted c.args.cut.now c.args.cuts.now c.requires.cut c.requires.cuts c.requires.rising)
    (λ a r q k. search rules)
