use Rattle.std.specs.Prelude.{◌≡◌, drop}
use Rattle.std.specs.List.{list_any}
use Rattle.plane_spec.specs.Polygons.{edges_of, borders_touch}
use Rattle.plan_spec.specs.Accepted.{touches_border}
use Rattle.plan_check.proofs.polygons.borders_touch.Given as goal

abbrev pub invariant-loop-k : goal.invariant-loop-k
invariant-loop-k l = borders_touch l.points l.others ≡ list_any (λ e. touches_border e.a e.b l.others) (drop l.k (edges_of l.points))
