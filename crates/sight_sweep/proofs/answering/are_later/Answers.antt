use Rattle.std.proofs.Common.{◌≡◌, ◌∙◌, arith, sym, ap, subst, get_or}
use Rattle.std.specs.Prelude.{true, pos}
use Rattle.plane_spec.specs.Vectors.{point, is_upper}
use Rattle.sight_spec.specs.declared.target.Target.TheVariants as targets
use Rattle.front_laws.proofs.Tests.{by_lt}
use Rattle.sight_sweep.specs.Answers.{way_of}
use Rattle.sight_sweep.proofs.Tables.{default}
use Rattle.sight_sweep.proofs.answering.are_later.Goals as goal

pub loop-k-preserved : goal.loop-k-preserved
loop-k-preserved c j d lt = by_lt j c.loop-k.k
    (λ low. c.loop-k.invariant j d low)
    (λ high. let same : j ≡ c.loop-k.k = omega (arith, lt, high) in
    subst (λ t. is_upper (way_of c.args.p t) ≡ true)
    (sym (ap (λ n. get_or c.args.targets.now n d) same
    ∙ default c.args.targets.now c.loop-k.k d (targets.Point (point (pos 0) (pos 0))) c.loop-k-test.true))
    (subst (λ v. is_upper v ≡ true) c.way_to.ensures.way (sym c.is_upper.ensures ∙ c.if-not-is_upper.false)))
