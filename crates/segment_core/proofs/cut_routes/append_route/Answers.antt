use Rattle.std.proofs.Common.{◌∙◌, List, sym, subst}
use Rattle.std.specs.Prelude.{All}
use Rattle.plane_spec.specs.Fractions.{Fraction}
use Rattle.route_laws.specs.Bounds.{IsCut}
use Rattle.route_laws.proofs.Cuts.{cuts_are}
use Rattle.segment_core.proofs.cut_routes.append_route.Goals as goal

pub point_of-to-requires-clause-cut : goal.point_of-to-requires-clause-cut
point_of-to-requires-clause-cut c =
    let is = c.deref-cut-items.ensures.value ∙ c.in_ok-cuts.ensures in
    let all = subst (λ (ts : List Fraction). All IsCut ts) (sym is)
    (cuts_are c.args.routes.now c.args.route.now c.requires.route c.requires.routes) in
    subst IsCut (sym c.cut-item.is) (all c.loop-cut.cut-index c.cut-item.result c.loop-cut-test.true)
