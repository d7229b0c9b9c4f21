use Rattle.std.proofs.Common.{◌∙◌, ◌++◌, map, sym, ap, subst, length}
use Rattle.std.specs.Prelude.{All, ◌%◌}
use Rattle.plane_spec.specs.Segments.{IsSegmentInRange}
use Rattle.sight_core.specs.Scenes.{IsOfSoundPlan}
use Rattle.sight_sweep.specs.Tables.{AreEnds, AreRanges}
use Rattle.sight_sweep.proofs.Ends.{table_is, same_scene}
use Rattle.sight_sweep.proofs.Telling.{lines_in}
use Rattle.sight_sweep.proofs.table.table_of.Goals as goal

pub ends_of-requires-clause-lines_in : goal.ends_of-requires-clause-lines_in
ends_of-requires-clause-lines_in c =
    subst (All IsSegmentInRange)
    (sym (c.deref-3.ensures.value ∙ c.in_ok-lines.ensures
    ∙ ap (λ t. t ++ c.deref-2.result.now) (c.deref.ensures.value ∙ c.in_ok-walls.ensures ∙ c.walls.ensures.walls)
    ∙ ap (λ t. c.args.scene.now.walls ++ t)
    (c.deref-2.ensures.value ∙ c.in_ok-screens.ensures ∙ c.screens.ensures.screens)))
    (lines_in c.args.scene.now c.walls.ensures.of_plan)

pub invariant_of-result : goal.invariant_of-result
invariant_of-result c =
    let walls = c.in_ok-walls.walls.items in
    let screens = c.in_ok-screens.screens.items in
    let corners = c.in_ok-corners.corners.items in
    let of = subst IsOfSoundPlan (same_scene c.args.scene.now walls screens corners
    (c.in_ok-walls.ensures ∙ c.walls.ensures.walls)
    (c.in_ok-screens.ensures ∙ c.screens.ensures.screens) (c.in_ok-corners.ensures ∙ c.corners.ensures.corners))
    c.walls.ensures.of_plan in
    table_is (record { walls = walls; screens = screens; corners = corners }) c.in_ok-lines.lines.items
    c.in_ok-ends.ends.items c.in_ok-ranges.ranges.items c.in_ok-numbers.numbers.items of
    (c.in_ok-lines.ensures ∙ ap (λ t. t ++ c.deref-2.result.now) c.deref.ensures.value
    ∙ ap (λ t. walls ++ t) c.deref-2.ensures.value)
    (subst (λ xs. AreEnds xs c.in_ok-ends.ends.items) c.deref-3.ensures.value c.in_ok-ends.ensures)
    (subst (λ xs. AreRanges xs corners (length corners) c.in_ok-ranges.ranges.items) c.deref-5.ensures.value
    (subst (λ xs. AreRanges c.deref-5.result.now xs (length xs) c.in_ok-ranges.ranges.items) c.deref-4.ensures.value
    c.in_ok-ranges.ensures))
    (c.in_ok-numbers.ensures ∙ ap (map (λ e. e % 2048)) c.deref-6.ensures.value)
