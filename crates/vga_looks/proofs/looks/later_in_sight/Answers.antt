use Rattle.std.specs.Prelude.{◌≡◌, ◌+◌, ◌<◌, ◌≤◌, ◌++◌, ◌∷◌, [], length}
use Rattle.std.proofs.Common.{arith, sym, ap, subst, ◌∙◌}
use Rattle.std.proofs.lemmas.List.FromFn.{map-range_with_len_more}
use Rattle.plan_spec.specs.Grid.{grid_points}
use Rattle.station_laws.specs.Grounds.{IsGroundOf}
use Rattle.view_laws.specs.Views.{IsViewOf, is_in_arc}
use Rattle.view_laws.specs.declared.view.Arc.TheVariants as arcs
use Rattle.vga_looks.specs.Tables.{IsLaterIn, is_seen_later, seen_later}
use Rattle.vga_looks.proofs.Later.{later_is_upper}
use Rattle.vga_looks.proofs.Rows.{earlier_is_none}
use Rattle.vga_looks.proofs.looks.later_in_sight.Goals as goal

pub loop-earlier-preserved : goal.loop-earlier-preserved
loop-earlier-preserved c =
    let plan = c.args.plan.now in
    let i = c.args.i in
    let k = c.loop-earlier._earlier in
    let early : k ≤ i = omega (arith, c.loop-earlier-test.true) in
    let more = map-range_with_len_more (is_seen_later plan i) 0 k k (omega arith) in
    rw (c.in_ok-push.ensures.items, c.loop-earlier.invariant)
    (ap (λ b. seen_later plan i k ++ b ∷ []) (sym (earlier_is_none plan i k early)) ∙ sym more)

pub first_gap-gap-requires : goal.first_gap-gap-requires
first_gap-gap-requires c = record { order = c.in_ok-view.ensures.view.order }

pub loop-j-init : goal.loop-j-init
loop-j-init c =
    let end : c.loop-earlier._earlier ≡ c.args.i + 1 = omega (arith, c.loop-earlier-test.false, c.loop-earlier.auto._earlier-end) in
    (c.loop-earlier.invariant ∙ ap (seen_later c.args.plan.now c.args.i) end, c.first_gap-gap.ensures)

later_here : (c : goal.After-gap-1) → IsLaterIn c.args.plan.now c.args.i c.loop-j.j
later_here c =
    let count = rw c.of.ensures.grid at c.count-count.ensures.count in
    let rises : c.args.i < c.loop-j.j = omega (arith, c.loop-j.auto.j) in
    let below : c.loop-j.j < length (grid_points c.args.plan.now.grid) = omega (arith, c.loop-j-test.true, count) in
    (rises, below)

pub sees_later-is_seen-requires-clause-later : goal.sees_later-is_seen-requires-clause-later
sees_later-is_seen-requires-clause-later c = later_here c

pub sees_later-is_seen-requires-clause-in_arc : goal.sees_later-is_seen-requires-clause-in_arc
unfolding is_in_arc
sees_later-is_seen-requires-clause-in_arc c =
    let later = later_here c in
    later_is_upper c.args.plan.now c.args.i c.loop-j.j c.of.ensures.sound later.0 later.1

pub sees_later-is_seen-requires-clause-view : goal.sees_later-is_seen-requires-clause-view
sees_later-is_seen-requires-clause-view c = record {
  is_view = subst (λ p. IsViewOf c.args.table.now p arcs.Later c.in_ok-view.view) c.point.ensures.point c.in_ok-view.ensures.view;
  ground = subst (λ p. IsGroundOf c.args.table.now p c.in_ok-view.view.ground) c.point.ensures.point c.in_ok-view.ensures.under;
}

pub loop-j-preserved : goal.loop-j-preserved
loop-j-preserved c =
    let more = map-range_with_len_more (is_seen_later c.args.plan.now c.args.i) 0 c.loop-j.j c.loop-j.j (omega arith) in (
      rw (c.in_ok-push-2.ensures.items, c.loop-j.invariant.0, c.sees_later-is_seen.ensures.seen) (sym more),
      c.sees_later-is_seen.ensures.gap,
    )
