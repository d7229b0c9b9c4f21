use Rattle.std.proofs.Common.{◌≡◌, ◌+◌, ◌*◌, ◌/◌, ◌%◌, ◌<◌, ◌∙◌, true, length, arith}
use Rattle.std.proofs.lemmas.List.{length-set}
use Rattle.vga_grid.specs.Rows.{bit_of, is_joined}
use Rattle.vga_grid.proofs.Changes.{past}
use Rattle.step_depth.proofs.Pulling.{empty_pulled, word_pulled, all_pulled}
use Rattle.step_depth.proofs.levels.pull.Goals.{then-word-ne0, else-word-ne0}
use Rattle.step_depth.proofs.levels.pull.Goals as goal

pub pull_word-requires-clause-nodes : goal.pull_word-requires-clause-nodes
pull_word-requires-clause-nodes c = λ b hb e.
    let k = c.loop-k.k in
    let q : (64 * c.loop-k.k + b) / 64 ≡ c.loop-k.k = omega arith in
    let r : (64 * c.loop-k.k + b) % 64 ≡ b = omega arith in
    let here : bit_of c.loop-k.missing (64 * c.loop-k.k + b) ≡ true = rw (q, r) e in
    c.requires.nodes (64 * c.loop-k.k + b) (c.loop-k.invariant.1.fewer (64 * c.loop-k.k + b) here)

pub loop-k-preserved : goal.loop-k-preserved
loop-k-preserved c = elim c.if-word-ne0.branch [
  | then-word-ne0 w ↦
      let lt : c.loop-k.k < length c.loop-k.missing = omega (arith, c.loop-k.invariant.0, c.loop-k-test.true) in
      rw w.missing-is (
        length-set c.loop-k.missing c.loop-k.k w.pull_word.result ∙ c.loop-k.invariant.0,
        word_pulled (is_joined c.args.graph.now) (bit_of c.args.front.now) (bit_of c.args.missing.now) c.loop-k.k c.loop-k.missing c.loop-k.invariant.1 w.pull_word.result
            lt w.pull_word.ensures.fewer w.pull_word.ensures.found w.pull_word.ensures.none,
      )
  | else-word-ne0 w ↦
      rw w.missing-is (c.loop-k.invariant.0, empty_pulled (is_joined c.args.graph.now) (bit_of c.args.front.now) (bit_of c.args.missing.now) c.loop-k.k c.loop-k.missing c.loop-k.invariant.1 w.if-word-ne0.false)
]

pub returns : goal.returns
returns c = all_pulled (is_joined c.args.graph.now) (bit_of c.args.front.now) (bit_of c.args.missing.now) c.loop-k.k c.loop-k.missing c.len-n.ensures.simple.symmetric
    (λ v h. past c.loop-k.missing v (omega (arith, h, c.loop-k.invariant.0, c.loop-k-test.false))) c.loop-k.invariant.1
