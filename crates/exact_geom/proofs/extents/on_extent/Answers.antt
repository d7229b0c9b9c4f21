use Rattle.std.proofs.Common.{rules}
use Rattle.exact_geom.proofs.extents.on_extent.Goals.{then-is_zero, else-is_zero}
use Rattle.exact_geom.proofs.extents.on_extent.Goals as goal

pub returns-then-lies_between : goal.returns-then-lies_between
returns-then-lies_between c = elim c.if-is_zero.branch [ then-is_zero w ↦ search rules | else-is_zero w ↦ search rules ]

pub returns-else-lies_between : goal.returns-else-lies_between
returns-else-lies_between c = elim c.if-is_zero.branch [ then-is_zero w ↦ search rules | else-is_zero w ↦ search rules ]
