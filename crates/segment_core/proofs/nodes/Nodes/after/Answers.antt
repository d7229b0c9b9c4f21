use Rattle.std.proofs.Common.{◌<◌, ◌∙◌, [], length, arith}
use Rattle.std.proofs.lemmas.List.{get_or_default}
use Rattle.segment_core.proofs.Reversed.{row_is, reversed_below}
use Rattle.segment_core.proofs.nodes.Nodes.after.Goals as goal

pub returns : goal.returns
returns c =
    let n = c.requires.nodes in
    let tails = c.args.self.now.tails.items in
    let leaving = c.args.self.now.leaving.items in
    let is = c.head-head.ensures in
    let there : c.head-head.result < length leaving = omega (
      arith,
      is,
      n.below _ (reversed_below c.args.step
          (length c.args.pieces.now) c.requires.step),
    ) in
    c.steps.ensures ∙ c.index.ensures ∙ get_or_default leaving c.head-head.result c.index.result.now [] there
    ∙ row_is c.args.pieces.now tails leaving c.args.step c.head-head.result n c.requires.step is
