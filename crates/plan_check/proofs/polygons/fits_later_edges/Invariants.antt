use Rattle.std.specs.Prelude.{◌≡◌, ◌+◌, drop, length}
use Rattle.std.specs.List.{enumerate_from, list_all}
use Rattle.plane_spec.specs.Polygons.{edges_of, may_be_edges}
use Rattle.plan_check.proofs.polygons.fits_later_edges.Given as goal

abbrev pub invariant-loop-j : goal.invariant-loop-j
invariant-loop-j l = list_all (λ f. may_be_edges (length l.points) ((l.i, l.e), f)) (enumerate_from (l.i + 1) (drop (l.i + 1) (edges_of l.points))) ≡ list_all (λ f. may_be_edges (length l.points) ((l.i, l.e), f)) (enumerate_from l.j (drop l.j (edges_of l.points)))
