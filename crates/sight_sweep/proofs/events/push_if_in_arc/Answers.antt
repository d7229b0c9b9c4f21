use Rattle.std.proofs.Common.{◌≡◌, ◌∙◌, ◌+◌, ◌*◌, ap, sym, subst}
use Rattle.std.specs.Prelude.{true, false, ◌++◌, ◌∷◌, []}
use Rattle.std.proofs.lemmas.Result.{on_ok_weaker}
use Rattle.plane_spec.specs.Vectors.{IsDirected}
use Rattle.turn_laws.specs.Places.{place_of}
use Rattle.view_laws.specs.Views.{is_in_arc}
use Rattle.sight_sweep.specs.Events.{AreFirstEvents}
use Rattle.front_laws.proofs.Tests.{clash}
use Rattle.sight_sweep.specs.LeftOut.{is_set}
use Rattle.sight_sweep.proofs.Listing.{next_not, next_one}
use Rattle.sight_sweep.proofs.events.push_if_in_arc.Goals as goal

pub returns-then-not-is_set : goal.returns-then-not-is_set
returns-then-not-is_set c first =
    next_not c.args.table.now.corners c.args.p c.args.arc (is_set c.args.shown.now) c.args.number
    c.args.events.now.items
    (λ own some. absurd (clash (is_set c.args.shown.now c.args.number) own
    (sym c.is_set.ensures ∙ c.if-not-is_set.true)))
    first

pub returns-then-not-is_way_in : goal.returns-then-not-is_way_in
returns-then-not-is_way_in c first =
    next_not c.args.table.now.corners c.args.p c.args.arc (is_set c.args.shown.now) c.args.number
    c.args.events.now.items
    (λ own some. subst (λ v. is_in_arc c.args.arc v ≡ false) c.way-way.ensures.way
    (c.is_way_in.ensures.otherwise c.if-not-is_way_in.true (subst IsDirected (sym c.way-way.ensures.way) some)))
    first

pub returns : goal.returns
returns c first =
    let corners = c.args.table.now.corners in
    let number = c.args.number in
    let yes = c.if-not-is_way_in.false in
    let event_is = c.event.ensures
    ∙ ap (λ n. n * 2048 + number) (c.place_of.ensures.value ∙ ap place_of c.way-way.ensures.way) in
    on_ok_weaker c.push.result
    (λ pushed. subst (AreFirstEvents corners c.args.p c.args.arc (is_set c.args.shown.now) (number + 1))
    (sym (pushed ∙ ap (λ e. c.args.events.now.items ++ e ∷ []) event_is))
    (next_one corners c.args.p c.args.arc (is_set c.args.shown.now) number c.args.events.now.items c.requires.few
    c.requires.within
    (subst IsDirected c.way-way.ensures.way (c.is_way_in.ensures.directed yes))
    (subst (λ v. is_in_arc c.args.arc v ≡ true) c.way-way.ensures.way (c.is_way_in.ensures.in_arc yes)) first))
    c.push.ensures.pushed
