use Rattle.std.proofs.Common.{◌+◌, ◌*◌, length, refl, arith}
use Rattle.std.proofs.lemmas.List.{get_or_read_under}
use Rattle.segment_core.proofs.Counting.{neighbours_are}
use Rattle.segment_core.proofs.sharing.neighbours_at.Goals as goal

pub returns : goal.returns
returns c =
    let tails = c.args.nodes.now.tails.items in
    let k = c.args.k in
    let are = c.requires.nodes.tails in
    let from = get_or_read_under tails (2 * k + 1) (length tails) c.index.result.now 0 c.index.ensures (omega
    (arith, c.requires.piece, are.one_each)) refl in
    let to = get_or_read_under tails (2 * k) (length tails) c.index-2.result.now 0 c.index-2.ensures (omega
    (arith, c.requires.piece, are.one_each)) refl in
    let all = neighbours_are c.args.pieces.now tails k c.index.result.now c.index-2.result.now are c.requires.piece
    from to in
    omega (arith, c.count_first.ensures.value, c.count_second.ensures.value, all)
