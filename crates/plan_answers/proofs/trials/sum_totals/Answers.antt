use Rattle.std.proofs.Common.{◌<◌, arith, length}
use Rattle.plan_answers.proofs.TrialSums.{one_more}
use Rattle.plan_answers.proofs.trials.sum_totals.Goals as goal

pub points-preserved : goal.points-preserved
points-preserved c =
    let below : c.points.point-index < length c.args.points.now = omega arith in record {
      sum = one_more c.args.measures.now c.args.points.now c.points.point-index c.points.sum c.total_at-sum.result _ below
          c.points.invariant.sum c.total_at-sum.ensures.total;
      small = omega (arith, c.points.invariant.small, c.total_at-sum.ensures.small);
    }
