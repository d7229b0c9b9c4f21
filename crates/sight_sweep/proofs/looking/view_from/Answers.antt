use Rattle.std.proofs.Common.{◌∙◌, [], sym, ap, subst}
use Rattle.std.specs.Option.{option_map}
use Rattle.plane_spec.specs.Vectors.{IsDirection, IsDirected}
use Rattle.front_laws.specs.Seen.{spans}
use Rattle.sight_sweep.specs.Actives.{IsActive, first_of, front}
use Rattle.sight_sweep.specs.Arcs.{start_place}
use Rattle.sight_sweep.specs.Events.{AreEvents}
use Rattle.sight_sweep.specs.LeftOut.{is_set, AreLeftOut}
use Rattle.sight_sweep.specs.Rounds.{IsUnderway}
use Rattle.sight_sweep.proofs.Stations.{station_of, ground_tells}
use Rattle.sight_sweep.proofs.Beginnings.{underway_at_start, view_at_end}
use Rattle.sight_sweep.proofs.looking.view_from.Goals as goal

pub spanned_by-requires-clause-station : goal.spanned_by-requires-clause-station
spanned_by-requires-clause-station c = station_of c.args.table.now c.args.p c.in_ok-events.ensures.of_plan
    c.requires.p_in

pub go_round-requires-clause-station : goal.go_round-requires-clause-station
go_round-requires-clause-station c = station_of c.args.table.now c.args.p c.in_ok-events.ensures.of_plan c.requires.p_in

pub go_round-requires-clause-within : goal.go_round-requires-clause-within
go_round-requires-clause-within c k d lt =
    ((subst (AreEvents c.args.table.now.corners c.args.p c.args.arc (is_set c.deref.result.now))
    (sym c.deref-5.ensures.value) c.in_ok-events.ensures.listed).each k d lt).within

pub returns : goal.returns
returns c =
    let scene = c.args.table.now in
    let p = c.args.p in
    let arc = c.args.arc in
    let of = c.in_ok-events.ensures.of_plan in
    let kept = c.in_ok-left.left.kept.items in
    let shown = c.in_ok-left.left.shown.items in
    let left = c.in_ok-left.ensures.left in
    let events = subst (AreEvents scene.corners p arc (is_set shown)) (sym c.deref-5.ensures.value)
    (subst (λ xs. AreEvents scene.corners p arc (is_set xs) c.in_ok-events.events.items) c.deref.ensures.value
    c.in_ok-events.ensures.listed) in
    let start = c.start_of-start.ensures in
    let held = subst (λ d. IsActive scene p (is_set kept) (λ n s. spans d s) c.in_ok-active.active.items) start.value
    (subst (λ xs. IsActive scene p (is_set xs) (λ n s. spans c.start_of-start.result s) c.in_ok-active.active.items)
    c.deref-2.ensures.value c.in_ok-active.ensures) in
    let first = c.first_of-before.ensures ∙ ap (λ xs. option_map front (first_of xs)) c.deref-3.ensures.value in
    let begun = underway_at_start scene p arc (is_set kept) c.first_of-before.result c.in_ok-active.active.items
    (station_of scene p of c.requires.p_in).walls c.requires.arc
    (subst IsDirection start.value start.direction) (subst IsDirected start.value start.directed) held first in
    let went = is_set c.deref-4.result.now in
    let ended = c.in_ok-go_round.ensures.round arc (is_set shown) c.first_of-before.result c.requires.arc
    (subst (λ xs. AreLeftOut scene p arc (is_set xs) (is_set shown)) (sym c.deref-4.ensures.value) left) events
    (subst (λ ss. IsUnderway scene p arc went (start_place arc) c.first_of-before.result ss
    (start_place arc) c.in_ok-active.active.items) (sym c.in_ok-sectors.ensures)
    (subst (λ xs. IsUnderway scene p arc (is_set xs) (start_place arc) c.first_of-before.result []
    (start_place arc) c.in_ok-active.active.items) (sym c.deref-4.ensures.value) begun)) in
    record {
      view = view_at_end scene p arc went
          (record {
            ground = c.ground_of-under.result;
            before = c.first_of-before.result;
            sectors =
                c.go_round.new.sectors;
          }) c.go_round.new.active.items c.requires.arc ended
          (λ d d_in d_some. ground_tells scene p d c.ground_of-under.result of c.ground_of-under.ensures);
      under = c.ground_of-under.ensures;
      corners = ended.to_corners;
    }
