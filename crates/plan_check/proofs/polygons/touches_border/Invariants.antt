use Rattle.std.specs.Prelude.{◌≡◌, drop}
use Rattle.std.specs.List.{list_any}
use Rattle.plane_spec.specs.Polygons.{edges_of}
use Rattle.plane_spec.specs.Segments.{do_touch}
use Rattle.plan_spec.specs.Accepted.{touches_border}
use Rattle.plan_check.proofs.polygons.touches_border.Given as goal

abbrev pub invariant-loop-k : goal.invariant-loop-k
invariant-loop-k l = touches_border l.from l.to l.points ≡ list_any (λ e. do_touch l.from l.to e.a e.b) (drop l.k (edges_of l.points))
