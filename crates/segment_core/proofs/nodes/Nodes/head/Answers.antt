use Rattle.std.proofs.Common.{◌<◌, ◌∙◌, ℕ, length, get_or, refl, ap, arith}
use Rattle.std.proofs.lemmas.List.{get_or_read_under}
use Rattle.segment_core.proofs.Reversed.{reversed_below}
use Rattle.segment_core.proofs.nodes.Nodes.head.Goals as goal

pub index-requires : goal.index-requires
index-requires c =
    omega (
      arith,
      c.reversed_step.ensures,
      reversed_below c.args.step
          (length c.args.pieces.now) c.requires.step,
      c.requires.nodes.tails.one_each,
      c.args.self.now.tails.ok.0,
    )

pub returns : goal.returns
returns c =
    let tails = c.args.self.now.tails.items in
    let back : c.reversed_step.result < length tails = omega (
      arith,
      c.reversed_step.ensures,
      reversed_below c.args.step
          (length c.args.pieces.now) c.requires.step,
      c.requires.nodes.tails.one_each,
    ) in
    get_or_read_under tails c.reversed_step.result (length tails) c.index.result.now 0 c.index.ensures back refl
    ∙ ap (λ (i : ℕ). get_or tails i 0) c.reversed_step.ensures
