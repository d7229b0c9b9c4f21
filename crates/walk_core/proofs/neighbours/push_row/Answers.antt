use Rattle.std.proofs.Common.{◌≡◌, ◌++◌, ◌∙◌, length, ap, arith}
use Rattle.walk_core.proofs.Bits.{row_goes, first_words}
use Rattle.walk_core.proofs.neighbours.push_row.Goals as goal

pub loop-k-preserved : goal.loop-k-preserved
loop-k-preserved c = row_goes c.args.row.now c.args.near.now.items c.loop-k.near.items c.push_word.new.near.items c.loop-k.k c.loop-k.invariant c.in_ok-push_word.ensures

pub returns : goal.returns
returns c =
    let e : c.loop-k.k ≡ length c.args.row.now = omega (arith, c.loop-k.auto.k-end, c.loop-k-test.false) in
    c.loop-k.invariant ∙ ap (λ k. c.args.near.now.items ++ first_words c.args.row.now k) e
