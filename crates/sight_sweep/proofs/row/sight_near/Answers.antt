use Rattle.std.proofs.Common.{◌≡◌, ◌∙◌, sym, ap, subst}
use Rattle.std.specs.Prelude.{Bool, true, ℕ}
use Rattle.plane_spec.specs.declared.Point.{Point}
use Rattle.plane_spec.specs.Vectors.{IsDirected, IsDirection, vector}
use Rattle.sight_spec.specs.Sight.{are_in_sight}
use Rattle.sight_spec.specs.Scene.{Scene}
use Rattle.turn_laws.specs.Places.{place_of}
use Rattle.view_laws.specs.declared.view.Arc.{Arc}
use Rattle.view_laws.specs.declared.view.View.{View}
use Rattle.view_laws.specs.Views.{AreInOrder, is_in_arc, is_led_into, is_seen_by, radial_of, radial_by, IsViewOf}
use Rattle.view_laws.proofs.Cursor.{sight_by_view}
use Rattle.sight_sweep.specs.Answers.{IsOther}
use Rattle.sight_sweep.specs.Told.{IsCount}
use Rattle.sight_sweep.proofs.Telling.{ground_in}
use Rattle.sight_sweep.proofs.Replies.{told_small}
use Rattle.sight_sweep.proofs.row.sight_near.Goals as goal

pub is_led_into-begins-requires-clause-in_range : goal.is_led_into-begins-requires-clause-in_range
is_led_into-begins-requires-clause-in_range c = ground_in c.args.table.now c.args.p c.args.view.now.ground
    c.requires.of_plan c.requires.view.ground

-- what the view tells of the point's direction is whether it is in sight
answered : (scene : Scene) (p q d : Point) (arc : Arc) (view : View) (place : ℕ) (begins seen : Bool)
    → IsViewOf scene p arc view → IsOther p q → is_in_arc arc (vector p q) ≡ true
    → d ≡ vector p q → IsDirection d → IsDirected d → place ≡ place_of d → begins ≡ is_led_into view.ground d
    → seen ≡ is_seen_by begins (radial_by view.before view.sectors.items place) d → seen ≡ are_in_sight scene p q
answered scene p q d arc view place begins seen v other within way direction directed place_is begins_is is =
    is
    ∙ ap (λ b. is_seen_by b (radial_by view.before view.sectors.items place) d) begins_is
    ∙ ap (λ n. is_seen_by (is_led_into view.ground d) (radial_by view.before view.sectors.items n) d) place_is
    ∙ ap (λ v. is_seen_by (is_led_into view.ground v) (radial_of view v) v) way
    ∙ sym (sight_by_view scene p q arc view v other.other (subst (λ v. IsDirection v) way direction)
    (subst (λ v. IsDirected v) way directed) within)

pub is_seen_in-requires-clause-told_in : goal.is_seen_in-requires-clause-told_in
is_seen_in-requires-clause-told_in c told is =
    told_small c.args.table.now c.args.p c.way_between-d.result c.args.arc c.args.view.now c.place_by-place.result
    told c.requires.of_plan c.requires.p_in c.requires.view.is_view
    c.way_between-d.ensures.direction c.way_between-d.ensures.directed
    (subst (λ v. is_in_arc c.args.arc v ≡ true) (sym c.way_between-d.ensures.way) c.requires.in_arc)
    c.place_by-place.ensures is

pub is_seen_after-requires-clause-told_in : goal.is_seen_after-requires-clause-told_in
is_seen_after-requires-clause-told_in c told is =
    told_small c.args.table.now c.args.p c.way_between-d.result c.args.arc c.args.view.now c.place_by-place.result
    told c.requires.of_plan c.requires.p_in c.requires.view.is_view
    c.way_between-d.ensures.direction c.way_between-d.ensures.directed
    (subst (λ v. is_in_arc c.args.arc v ≡ true) (sym c.way_between-d.ensures.way) c.requires.in_arc)
    c.place_by-place.ensures is

pub count_near-count-requires : goal.count_near-count-requires
count_near-count-requires c = record {
  order = subst AreInOrder (sym c.deref.ensures.value) c.requires.view.is_view.order;
}

pub is_seen_after-requires-clause-count : goal.is_seen_after-requires-clause-count
is_seen_after-requires-clause-count c = subst (λ xs. IsCount xs c.place_by-place.result c.count_near-count.result)
    c.deref.ensures.value c.count_near-count.ensures

pub returns-then-is_in-clause-seen : goal.returns-then-is_in-clause-seen
returns-then-is_in-clause-seen c =
    answered c.args.table.now c.args.p c.args.q c.way_between-d.result c.args.arc c.args.view.now c.place_by-place.result
    c.is_led_into-begins.result c.is_seen_in.result c.requires.view.is_view c.requires.other c.requires.in_arc
    c.way_between-d.ensures.way c.way_between-d.ensures.direction c.way_between-d.ensures.directed
    c.place_by-place.ensures c.is_led_into-begins.ensures c.is_seen_in.ensures

pub returns-clause-seen : goal.returns-clause-seen
returns-clause-seen c =
    answered c.args.table.now c.args.p c.args.q c.way_between-d.result c.args.arc c.args.view.now c.place_by-place.result
    c.is_led_into-begins.result c.is_seen_after.result c.requires.view.is_view c.requires.other c.requires.in_arc
    c.way_between-d.ensures.way c.way_between-d.ensures.direction c.way_between-d.ensures.directed
    c.place_by-place.ensures c.is_led_into-begins.ensures c.is_seen_after.ensures
