use Rattle.std.proofs.Common.{rules}
use Rattle.plane_spec.specs.Boxes.{does_extent_meet_box}
use Rattle.exact_geom.proofs.extents.extent_meets_box.Goals.{then-overlap, else-overlap}
use Rattle.exact_geom.proofs.extents.extent_meets_box.Goals as goal

pub returns-then-overlap-2 : goal.returns-then-overlap-2
unfolding does_extent_meet_box
returns-then-overlap-2 c = elim c.if-overlap.branch [ then-overlap w ↦ search rules | else-overlap w ↦ search rules ]

pub returns-else-overlap-2 : goal.returns-else-overlap-2
unfolding does_extent_meet_box
returns-else-overlap-2 c = elim c.if-overlap.branch [ then-overlap w ↦ search rules | else-overlap w ↦ search rules ]
