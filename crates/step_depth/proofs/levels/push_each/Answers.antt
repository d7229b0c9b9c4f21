use Rattle.std.proofs.Common.{◌≡◌, ◌+◌, ◌*◌, ◌/◌, ◌%◌, ◌∙◌, true, get_or, arith}
use Rattle.vga_grid.specs.Rows.{bit_of, is_joined}
use Rattle.step_depth.specs.Levels.{IsWordPushed}
use Rattle.step_depth.proofs.Fronts.{front_skips, front_more}
use Rattle.step_depth.proofs.levels.push_each.Goals as goal

pub push_word-requires-clause-nodes : goal.push_word-requires-clause-nodes
push_word-requires-clause-nodes c = λ b hb e.
    let q : (64 * c.loop-k.k + b) / 64 ≡ c.loop-k.k = omega arith in
    let r : (64 * c.loop-k.k + b) % 64 ≡ b = omega arith in
    let here : bit_of c.args.front.now (64 * c.loop-k.k + b) ≡ true = rw (q, r) e in
    c.requires.front_nodes (64 * c.loop-k.k + b) here

pub loop-k-preserved : goal.loop-k-preserved
loop-k-preserved c =
    let pushed : IsWordPushed (is_joined c.args.graph.now) c.loop-k.k (get_or c.args.front.now c.loop-k.k 0) (bit_of c.loop-k.missing) (bit_of c.push_word.new.missing) = c.push_word.ensures in (
      c.push_word.auto.missing ∙ c.loop-k.invariant.0,
      c.next_word-k-in-loop-k.ensures.high,
      front_skips (is_joined c.args.graph.now) c.args.front.now (bit_of c.args.missing.now) (c.loop-k.k + 1) c.next_word-k-in-loop-k.result (bit_of c.push_word.new.missing)
          c.next_word-k-in-loop-k.ensures.low c.next_word-k-in-loop-k.ensures.skipped
          (front_more (is_joined c.args.graph.now) c.args.front.now (bit_of c.args.missing.now) c.loop-k.k (bit_of c.loop-k.missing) (bit_of c.push_word.new.missing) pushed c.loop-k.invariant.2),
    )
