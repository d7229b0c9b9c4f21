use Rattle.segment_core.proofs.InRange.{pieces_in_range}
use Rattle.segment_core.proofs.sharing.neighbours.Goals as goal

pub nodes_of-requires : goal.nodes_of-requires
nodes_of-requires c = pieces_in_range c.args.pieces.now c.requires

pub neighbours_at-requires-clause-in_range : goal.neighbours_at-requires-clause-in_range
neighbours_at-requires-clause-in_range c = pieces_in_range c.args.pieces.now c.requires
