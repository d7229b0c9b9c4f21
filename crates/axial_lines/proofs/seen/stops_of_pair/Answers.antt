use Rattle.std.proofs.Common.{sym, ◌∙◌}
use Rattle.extent_laws.proofs.Reaches.{same_back}
use Rattle.line_laws.proofs.Updated.{seen_differ}
use Rattle.axial_lines.proofs.seen.stops_of_pair.Goals as goal

pub stop_beyond-requires-clause-differ : goal.stop_beyond-requires-clause-differ
stop_beyond-requires-clause-differ c =
    same_back c.args.p c.args.q
    ∙ seen_differ c.args.scene.now ((0, c.args.p), (0, c.args.q)) (sym c.do_see.ensures ∙ c.if-do_see.true)

pub stop_beyond-requires-then-do_see-clause-differ : goal.stop_beyond-requires-then-do_see-clause-differ
stop_beyond-requires-then-do_see-clause-differ c =
    seen_differ c.args.scene.now ((0, c.args.p), (0, c.args.q)) (sym c.do_see.ensures ∙ c.if-do_see.true)
