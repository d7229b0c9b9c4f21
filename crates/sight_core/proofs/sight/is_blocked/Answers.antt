use Rattle.std.proofs.Common.{rules}
use Rattle.sight_core.proofs.Ways.{is_blocked_is}
use Rattle.sight_core.proofs.sight.is_blocked.Goals.{then-any_wall_blocks, else-any_wall_blocks}
use Rattle.sight_core.proofs.sight.is_blocked.Goals as goal

pub returns-then-any_screen_blocks : goal.returns-then-any_screen_blocks
returns-then-any_screen_blocks c =
    rw (is_blocked_is (record { walls = c.args.walls.now; screens = c.args.screens.now; corners = c.args.corners.now }) c.args.p c.args.q)
    (elim c.if-any_wall_blocks.branch [ then-any_wall_blocks w ↦ search rules | else-any_wall_blocks w ↦ search rules ])

pub returns-else-any_screen_blocks : goal.returns-else-any_screen_blocks
returns-else-any_screen_blocks c =
    rw (is_blocked_is (record { walls = c.args.walls.now; screens = c.args.screens.now; corners = c.args.corners.now }) c.args.p c.args.q)
    (elim c.if-any_wall_blocks.branch [ then-any_wall_blocks w ↦ search rules | else-any_wall_blocks w ↦ search rules ])
