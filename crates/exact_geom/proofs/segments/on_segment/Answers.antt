use Rattle.std.proofs.Common.{rules}
use Rattle.plane_spec.specs.Segments.{is_on_segment}
use Rattle.exact_geom.proofs.segments.on_segment.Goals.{then-is_zero, else-is_zero}
use Rattle.exact_geom.proofs.segments.on_segment.Goals as goal

pub returns-then-between : goal.returns-then-between
unfolding is_on_segment
returns-then-between c = elim c.if-is_zero.branch [ then-is_zero w ↦ search rules | else-is_zero w ↦ search rules ]

pub returns-else-between : goal.returns-else-between
unfolding is_on_segment
returns-else-between c = elim c.if-is_zero.branch [ then-is_zero w ↦ search rules | else-is_zero w ↦ search rules ]
