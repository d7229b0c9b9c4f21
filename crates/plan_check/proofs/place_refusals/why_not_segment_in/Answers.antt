use Rattle.std.specs.Prelude.{All}
use Rattle.std.proofs.Common.{subst, sym}
use Rattle.plane_spec.specs.Vectors.{InRange}
use Rattle.plan_laws.proofs.Ranges.{outer_in_range}
use Rattle.plan_check.proofs.place_refusals.why_not_segment_in.Goals as goal

pub segment_lies_within-requires-clause-outer_in : goal.segment_lies_within-requires-clause-outer_in
segment_lies_within-requires-clause-outer_in c =
    subst (All InRange) (sym c.outer.ensures) (outer_in_range c.args.draft.now c.requires.sound)
