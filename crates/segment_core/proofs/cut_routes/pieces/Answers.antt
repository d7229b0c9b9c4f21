use Rattle.std.proofs.Common.{◌≡◌, ◌∙◌, List, [], ◌++◌, length, drop, sym, ap, subst, arith}
use Rattle.std.specs.Prelude.{All}
use Rattle.std.specs.List.{flat_map, enumerate_from}
use Rattle.std.proofs.lemmas.List.{append-nil, drop_all}
use Rattle.plan_spec.specs.declared.item.Route.{Route}
use Rattle.plan_spec.specs.Ranges.{IsProperSegmentInRange}
use Rattle.plan_laws.proofs.Ranges.{sound_limits, sound_routes}
use Rattle.route_spec.specs.Routes.{pieces_of, pieces_of_route}
use Rattle.segment_core.proofs.cut_routes.pieces.Goals as goal

pub overflow_cast-number : goal.overflow_cast-number
overflow_cast-number c =
    let all = ap (λ (rs : List Route). length rs) (c.deref-route-items.ensures.value ∙ c.in_ok-routes.ensures.value) in
    omega (arith, c.loop-number-test.true, all, (sound_limits c.args.plan.now c.in_ok-routes.ensures.sound).routes)

pub append_route-requires-clause-routes : goal.append_route-requires-clause-routes
append_route-requires-clause-routes c =
    subst (λ (rs : List Route). All (λ q. IsProperSegmentInRange q.from q.to) rs) (sym (c.deref.ensures.value
    ∙ c.in_ok-routes.ensures.value))
    (sound_routes c.args.plan.now c.in_ok-routes.ensures.sound)

pub append_route-requires-clause-route : goal.append_route-requires-clause-route
append_route-requires-clause-route c =
    let all = subst (λ (rs : List Route). All (λ q. IsProperSegmentInRange q.from q.to) rs) (sym
    (c.deref-route-items.ensures.value ∙ c.in_ok-routes.ensures.value))
    (sound_routes c.args.plan.now c.in_ok-routes.ensures.sound) in
    subst (λ (q : Route). IsProperSegmentInRange q.from q.to) (sym c.route-item.is)
    (all c.loop-number.number c.route-item.result c.loop-number-test.true)

pub returns-clause-value : goal.returns-clause-value
unfolding pieces_of
returns-clause-value c =
    let routes = c.deref-route-items.result.now in
    let n = c.loop-number.number in
    let rest : drop n routes ≡ [] = drop_all n routes c.loop-number-test.false in
    let ended = ap (λ (rs : List Route). c.loop-number.pieces.items ++ flat_map (pieces_of_route routes)
    (enumerate_from n rs)) rest in
    sym (append-nil c.loop-number.pieces.items) ∙ sym ended ∙ c.loop-number.invariant
    ∙ ap (λ (rs : List Route). flat_map (pieces_of_route rs) (enumerate_from 0 rs))
    (c.deref-route-items.ensures.value ∙ c.in_ok-routes.ensures.value)

pub returns-clause-of_plan : goal.returns-clause-of_plan
returns-clause-of_plan c = record {
  plan = c.args.plan.now;
  sound = c.in_ok-routes.ensures.sound;
  all =
      returns-clause-value c;
}
