use Rattle.std.proofs.Common.{rules}
use Rattle.sight_core.proofs.Ways.{corner_blocks_is}
use Rattle.sight_core.proofs.sight.corner_blocks.Goals as goal

pub returns-then-blocks_towards : goal.returns-then-blocks_towards
returns-then-blocks_towards c = rw (corner_blocks_is c.args.p c.args.q c.args.corner.now) (search rules)

pub returns-else-blocks_towards : goal.returns-else-blocks_towards
returns-else-blocks_towards c = rw (corner_blocks_is c.args.p c.args.q c.args.corner.now) (search rules)

pub returns-else-on_segment : goal.returns-else-on_segment
returns-else-on_segment c = rw (corner_blocks_is c.args.p c.args.q c.args.corner.now) (search rules)
