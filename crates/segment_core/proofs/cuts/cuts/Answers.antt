use Rattle.std.proofs.Common.{◌≡◌, ◌+◌, ◌∙◌, [], drop, sym, ap, subst}
use Rattle.std.specs.Prelude.{Option, Some}
use Rattle.std.specs.List.{filter_map, cons_option}
use Rattle.std.proofs.lemmas.List.{drop_all}
use Rattle.plane_spec.specs.Fractions.{Fraction}
use Rattle.plan_spec.specs.declared.item.Route.{Route}
use Rattle.plan_spec.specs.Ranges.{IsProperSegmentInRange}
use Rattle.route_spec.specs.Routes.{cut_of, cuts_of}
use Rattle.route_laws.specs.Bounds.{IsCut}
use Rattle.route_laws.proofs.Cuts.{cut_is, IsRouteInRange}
use Rattle.route_laws.proofs.Lists.{found_hold}
use Rattle.segment_core.proofs.Places.{dropped}
use Rattle.segment_core.proofs.Cutting.{Cutting, cutting_more, cutting_ends}
use Rattle.segment_core.proofs.cuts.cuts.Goals.{in-Some+in_ok-insert, in_default}
use Rattle.segment_core.proofs.cuts.cuts.Goals as goal

pub insert-requires-clause-cut : goal.insert-requires-clause-cut
insert-requires-clause-cut c =
    let q_in = subst (λ (q : Route). IsProperSegmentInRange q.from q.to) (sym c.q-item.is)
    (c.requires.routes_in c.loop-q.q-index c.q-item.result c.loop-q-test.true) in
    cut_is c.args.r.now c.q-item.result c.requires.r_in q_in c.in-Some.cut (sym c.cut_of.ensures ∙ c.in-Some.is)

pub loop-q-preserved : goal.loop-q-preserved
loop-q-preserved c =
    let r = c.args.r.now in
    let routes = c.args.routes.now in
    let n = c.loop-q.q-index in
    let q = c.q-item.result in
    let q_in = subst (λ (q : Route). IsProperSegmentInRange q.from q.to) (sym c.q-item.is)
    (c.requires.routes_in n q c.loop-q-test.true) in
    let next : filter_map (cut_of r) (drop n routes)
    ≡ cons_option (cut_of r q) (filter_map (cut_of r) (drop (n + 1) routes)) =
    ap (filter_map (cut_of r)) (dropped routes n q c.loop-q-test.true)
    ∙ ap (λ (p : Route). cons_option (cut_of r p) (filter_map (cut_of r) (drop (n + 1) routes))) (sym c.q-item.is) in
    let all = filter_map (cut_of r) routes in
    let rest = filter_map (cut_of r) (drop (n + 1) routes) in
    let now = c.loop-q.cuts.items in
    elim c.match-cut_of.branch [
      | in-Some+in_ok-insert w ↦
          let found : cut_of r q ≡ Some w.in-Some.cut = sym c.cut_of.ensures ∙ w.in-Some.is in
          let here = next ∙ ap (λ (f : Option Fraction). cons_option f rest) found in
          rw w.cuts-is
          (cutting_more now rest all _ w.in-Some.cut (cut_is r q c.requires.r_in q_in w.in-Some.cut found)
          (subst (λ ts. Cutting now ts all) here c.loop-q.invariant) w.in_ok-insert.ensures)
      | in_default w ↦
          let none = next ∙ ap (λ (f : Option Fraction). cons_option f rest) (sym c.cut_of.ensures ∙ w.in_default.is) in
          rw w.cuts-is (subst (λ ts. Cutting now ts all) none c.loop-q.invariant)
    ]

pub returns : goal.returns
unfolding cuts_of
returns c =
    let r = c.args.r.now in
    let routes = c.args.routes.now in
    let ended : filter_map (cut_of r) (drop c.loop-q.q-index routes)
    ≡ [] = ap (filter_map (cut_of r)) (drop_all c.loop-q.q-index routes c.loop-q-test.false) in
    let all = filter_map (cut_of r) routes in
    cutting_ends c.loop-q.cuts.items all
    (found_hold IsRouteInRange IsCut (cut_of r) (λ q q_in. cut_is r q c.requires.r_in q_in) routes c.requires.routes_in)
    (subst (λ ts. Cutting c.loop-q.cuts.items ts all) ended c.loop-q.invariant)
