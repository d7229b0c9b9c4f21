use Rattle.std.proofs.Common.{◌%◌, refl, subst, sym}
use Rattle.std.proofs.lemmas.List.Elements.{All-set}
use Rattle.step_depth.specs.Measured.{IsMeasured}
use Rattle.step_depth.proofs.measuring.measure_by.Goals as goal

-- src/measuring.rt:127:1
pub returns-clause-remembered : goal.returns-clause-remembered
returns-clause-remembered c =
    let e = c.measure_of-measure.ensures in
    λ all. All-set IsMeasured c.args.remembered.now (c.args.reach.total % 256) c.measure_of-measure.result (subst (λ m. IsMeasured m) (sym e) refl) all
