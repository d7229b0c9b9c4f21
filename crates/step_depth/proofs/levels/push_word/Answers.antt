use Rattle.std.proofs.Common.{◌∙◌, ap, ◌&&◌}
use Rattle.std.specs.Prelude.{not}
use Rattle.vga_grid.specs.Rows.{bit_of, is_joined}
use Rattle.step_depth.proofs.Fronts.{word_more}
use Rattle.step_depth.proofs.levels.push_word.Goals as goal

pub loop-rest-preserved : goal.loop-rest-preserved
loop-rest-preserved c = (
  c.take_out.auto.set ∙ c.loop-rest.invariant.0,
  word_more (is_joined c.args.graph.now) c.args.k c.args.word (bit_of c.args.missing.now) (bit_of c.loop-rest.missing) (bit_of c.take_out.new.set) c.loop-rest.rest c.lowest-b.result c.cleared-rest.result
      c.lowest-b.ensures.small c.lowest-b.ensures.here c.cleared-rest.ensures.bits
      (λ v. c.take_out.ensures v ∙ ap (λ x. bit_of c.loop-rest.missing v && not x) (c.row.ensures.bits v)) c.loop-rest.invariant.1,
)
