use Rattle.std.proofs.Common.{◌≡◌, ◌++◌, drop, filter}
use Rattle.std.specs.List.{enumerate_from}
use Rattle.plan_spec.specs.Grid.{grid_points}
use Rattle.sight_spec.specs.Sight.{is_open}
use Rattle.vga_grid.proofs.grid.open_points.Given as goal

abbrev pub invariant-loop-number : goal.invariant-loop-number
invariant-loop-number l =
    l.open.items ++ filter (λ e. is_open l.fn.plan e.1) (enumerate_from l.number (drop l.number (grid_points l.fn.plan.grid)))
    ≡ filter (λ e. is_open l.fn.plan e.1) (enumerate_from 0 (grid_points l.fn.plan.grid))
