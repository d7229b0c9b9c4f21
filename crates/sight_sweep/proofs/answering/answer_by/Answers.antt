use Rattle.std.proofs.Common.{◌≡◌, ◌∙◌, sym, ap, subst}
use Rattle.std.specs.Prelude.{true}
use Rattle.view_laws.specs.Views.{is_in_arc, radial_by}
use Rattle.sight_sweep.proofs.Telling.{ground_in}
use Rattle.sight_sweep.proofs.Replies.{told_small, point_given, ray_given}
use Rattle.sight_sweep.proofs.answering.answer_by.Goals as goal

pub is_led_into-begins-requires-clause-in_range : goal.is_led_into-begins-requires-clause-in_range
is_led_into-begins-requires-clause-in_range c = ground_in c.args.table.now c.args.p c.args.view.now.ground
    c.requires.of_plan c.requires.view.ground

pub is_seen_by-requires-clause-told_in : goal.is_seen_by-requires-clause-told_in
is_seen_by-requires-clause-told_in c =
    told_small c.args.table.now c.args.p c.way_to-d.result c.args.arc c.args.view.now c.place_of.result
    c.told_at-told.result c.requires.of_plan c.requires.p_in c.requires.view.is_view
    c.way_to-d.ensures.direction c.way_to-d.ensures.directed
    (subst (λ v. is_in_arc c.args.arc v ≡ true) (sym c.way_to-d.ensures.way) c.requires.in_arc)
    c.place_of.ensures.value c.told_at-told.ensures

pub stop_by-requires-clause-told_in : goal.stop_by-requires-clause-told_in
stop_by-requires-clause-told_in c =
    told_small c.args.table.now c.args.p c.way_to-d.result c.args.arc c.args.view.now c.place_of.result
    c.told_at-told.result c.requires.of_plan c.requires.p_in c.requires.view.is_view
    c.way_to-d.ensures.direction c.way_to-d.ensures.directed
    (subst (λ v. is_in_arc c.args.arc v ≡ true) (sym c.way_to-d.ensures.way) c.requires.in_arc)
    c.place_of.ensures.value c.told_at-told.ensures

pub returns-in-Point : goal.returns-in-Point
returns-in-Point c =
    point_given c.args.table.now c.args.p c.in-Point._q c.way_to-d.result c.args.target.now c.args.arc c.args.view.now
    c.is_led_into-begins.result c.told_at-told.result c.is_seen_by.result
    c.requires.view.is_view c.requires.askable c.in-Point.is c.way_to-d.ensures.way
    (record {
      direction = c.way_to-d.ensures.direction;
      directed = c.way_to-d.ensures.directed;
      in_arc = subst (λ v. is_in_arc c.args.arc v ≡ true) (sym c.way_to-d.ensures.way) c.requires.in_arc;
      begins_is = c.is_led_into-begins.ensures;
      told_is = c.told_at-told.ensures
          ∙ ap (radial_by c.args.view.now.before c.args.view.now.sectors.items) c.place_of.ensures.value;
    })
    c.is_seen_by.ensures

pub returns-in-Ray : goal.returns-in-Ray
returns-in-Ray c =
    ray_given c.args.table.now c.args.p c.in-Ray._d c.way_to-d.result c.args.target.now c.args.arc c.args.view.now
    c.is_led_into-begins.result c.told_at-told.result c.stop_by.result c.number_by.result
    c.requires.view.is_view c.in-Ray.is c.way_to-d.ensures.way
    (record {
      direction = c.way_to-d.ensures.direction;
      directed = c.way_to-d.ensures.directed;
      in_arc = subst (λ v. is_in_arc c.args.arc v ≡ true) (sym c.way_to-d.ensures.way) c.requires.in_arc;
      begins_is = c.is_led_into-begins.ensures;
      told_is = c.told_at-told.ensures
          ∙ ap (radial_by c.args.view.now.before c.args.view.now.sectors.items) c.place_of.ensures.value;
    })
    c.stop_by.ensures c.number_by.ensures
