use Rattle.std.proofs.Common.{◌≡◌, ◌∙◌, sym, ap, subst}
use Rattle.std.specs.Prelude.{true}
use Rattle.plane_spec.specs.Vectors.{IsDirected, IsDirection}
use Rattle.turn_laws.specs.Places.{place_of}
use Rattle.view_laws.specs.Views.{AreInOrder, is_in_arc, is_led_into, is_seen_by, radial_of, radial_by}
use Rattle.view_laws.proofs.Cursor.{sight_by_view}
use Rattle.sight_sweep.specs.Told.{IsCount}
use Rattle.sight_sweep.proofs.Telling.{ground_in}
use Rattle.sight_sweep.proofs.Replies.{told_small}
use Rattle.sight_sweep.proofs.row.sight_by.Goals as goal

pub count_near-count-requires : goal.count_near-count-requires
count_near-count-requires c = record {
  order = subst AreInOrder (sym c.deref.ensures.value) c.requires.view.is_view.order;
}

pub is_led_into-begins-requires-clause-in_range : goal.is_led_into-begins-requires-clause-in_range
is_led_into-begins-requires-clause-in_range c = ground_in c.args.table.now c.args.p c.args.view.now.ground
    c.requires.of_plan c.requires.view.ground

pub is_seen_after-requires-clause-count : goal.is_seen_after-requires-clause-count
is_seen_after-requires-clause-count c = subst (λ xs. IsCount xs c.place_by-place.result c.count_near-count.result)
    c.deref.ensures.value c.count_near-count.ensures

pub is_seen_after-requires-clause-told_in : goal.is_seen_after-requires-clause-told_in
is_seen_after-requires-clause-told_in c told is =
    told_small c.args.table.now c.args.p c.way_between-d.result c.args.arc c.args.view.now c.place_by-place.result
    told c.requires.of_plan c.requires.p_in c.requires.view.is_view
    c.way_between-d.ensures.direction c.way_between-d.ensures.directed
    (subst (λ v. is_in_arc c.args.arc v ≡ true) (sym c.way_between-d.ensures.way) c.requires.in_arc)
    c.place_by-place.ensures is

pub returns-clause-near : goal.returns-clause-near
returns-clause-near c =
    subst (λ n. IsCount c.args.view.now.sectors.items n c.count_near-count.result)
    (c.place_by-place.ensures ∙ ap place_of c.way_between-d.ensures.way)
    (subst (λ xs. IsCount xs c.place_by-place.result c.count_near-count.result) c.deref.ensures.value
    c.count_near-count.ensures)

pub returns-clause-seen : goal.returns-clause-seen
returns-clause-seen c =
    let p = c.args.p in let view = c.args.view.now in
    let way = c.way_between-d.ensures.way in
    let d = c.way_between-d.result in
    c.is_seen_after.ensures
    ∙ ap (λ b. is_seen_by b (radial_by view.before view.sectors.items c.place_by-place.result) d)
    c.is_led_into-begins.ensures
    ∙ ap (λ n. is_seen_by (is_led_into view.ground d) (radial_by view.before view.sectors.items n) d)
    c.place_by-place.ensures
    ∙ ap (λ v. is_seen_by (is_led_into view.ground v) (radial_of view v) v) way
    ∙ sym (sight_by_view c.args.table.now p c.args.q c.args.arc view c.requires.view.is_view c.requires.other.other
    (subst (λ v. IsDirection v) way c.way_between-d.ensures.direction)
    (subst (λ v. IsDirected v) way c.way_between-d.ensures.directed) c.requires.in_arc)
