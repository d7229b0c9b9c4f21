use Rattle.std.proofs.Common.{◌≡◌, ◌+◌, ◌++◌, ◌∷◌, [], All, map, take, ap, sym, subst, ◌∙◌}
use Rattle.std.proofs.lemmas.List.{take_at, map-append, take_more}
use Rattle.step_depth.specs.Measured.{IsMeasured, measured}
use Rattle.step_depth.proofs.measuring.measure_each.Goals as goal

pub loop-reach-preserved : goal.loop-reach-preserved
loop-reach-preserved c =
    let all = subst (λ ms. All IsMeasured ms) (sym c.deref_mut.ensures.value) c.loop-reach.invariant.1 in
    let items : c.push.new.self.items ≡ map measured (take (c.loop-reach.reach-index + 1) c.args.reaches.now) =
    c.in_ok-push.ensures.items
    ∙ ap (λ ms. ms ++ c.measure_by-measure.result ∷ []) c.loop-reach.invariant.0
    ∙ ap (λ m. map measured (take c.loop-reach.reach-index c.args.reaches.now) ++ m ∷ []) (c.measure_by-measure.ensures.value all)
    ∙ sym (ap (map measured) (take_more c.args.reaches.now c.loop-reach.reach-index (record { connectivity = 0; reached = 0; total = 0 }) c.loop-reach-test.true)
    ∙ map-append measured (take c.loop-reach.reach-index c.args.reaches.now) _) in
    rw (take_at c.measure_by-measure.new.remembered _ c.loop-reach.remembered.len
    (c.measure_by-measure.auto.remembered ∙ c.deref_mut.ensures.len)) (items, c.measure_by-measure.ensures.remembered all)
