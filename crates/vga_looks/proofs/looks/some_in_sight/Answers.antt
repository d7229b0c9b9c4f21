use Rattle.std.specs.Prelude.{◌≡◌, ◌+◌, ◌<◌, ◌≤◌, ◌++◌, ◌∷◌, [], map, length, true}
use Rattle.std.proofs.Common.{arith, sym, ap, subst, ◌∙◌, get_or, take}
use Rattle.std.proofs.lemmas.List.{map-append, take_more, take_all}
use Rattle.station_laws.specs.Grounds.{IsGroundOf}
use Rattle.view_laws.specs.Views.{IsViewOf, is_in_arc}
use Rattle.vga_looks.specs.Tables.{is_seen_later, way_between}
use Rattle.vga_looks.proofs.looks.some_in_sight.Goals as goal

pub first_gap-gap-requires : goal.first_gap-gap-requires
first_gap-gap-requires c = record { order = c.in_ok-view.ensures.view.order }

pub sees_later-is_seen-requires-clause-later : goal.sees_later-is_seen-requires-clause-later
sees_later-is_seen-requires-clause-later c = c.requires.later c.loop-k.k 0 c.loop-k-test.true

pub sees_later-is_seen-requires-clause-in_arc : goal.sees_later-is_seen-requires-clause-in_arc
sees_later-is_seen-requires-clause-in_arc c = c.arc_to-arc.ensures.all c.loop-k.k 0 c.loop-k-test.true

pub sees_later-is_seen-requires-clause-view : goal.sees_later-is_seen-requires-clause-view
sees_later-is_seen-requires-clause-view c = record {
  is_view = subst (λ p. IsViewOf c.args.table.now p c.arc_to-arc.result c.in_ok-view.view) c.point.ensures.point c.in_ok-view.ensures.view;
  ground = subst (λ p. IsGroundOf c.args.table.now p c.in_ok-view.view.ground) c.point.ensures.point c.in_ok-view.ensures.under;
}

pub loop-k-preserved : goal.loop-k-preserved
loop-k-preserved c =
    let f = is_seen_later c.args.plan.now c.args.i in
    let k = c.loop-k.k in
    let numbers = c.args.numbers.now in
    let more = ap (map f) (take_more numbers k 0 c.loop-k-test.true)
    ∙ map-append f (take k numbers) (get_or numbers k 0 ∷ []) in (
      rw (c.in_ok-push.ensures.items, c.loop-k.invariant.0, c.sees_later-is_seen.ensures.seen) (sym more),
      c.sees_later-is_seen.ensures.gap,
    )

pub returns-clause-seen : goal.returns-clause-seen
returns-clause-seen c =
    c.loop-k.invariant.0
    ∙ ap (map (is_seen_later c.args.plan.now c.args.i)) (take_all c.loop-k.k c.args.numbers.now c.loop-k-test.false)
