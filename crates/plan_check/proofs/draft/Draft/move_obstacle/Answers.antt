use Rattle.std.specs.Prelude.{◌≡◌, map, All}
use Rattle.std.proofs.Common.{FitsSigned, w64, refl, sym, ap, subst, ◌∙◌}
use Rattle.std.proofs.lemmas.Int.{to_z-of_z}
use Rattle.plane_spec.specs.Vectors.{InRange}
use Rattle.plan_spec.specs.Plan.{is_obstacle_named}
use Rattle.plan_spec.specs.Edits.{shifted_point, shifted_obstacle}
use Rattle.plan_laws.proofs.Ranges.{obstacles_in_range}
use Rattle.plan_check.specs.Kept.{obstacle_of_entry}
use Rattle.plan_check.proofs.Tables.{none_changed}
use Rattle.plan_check.proofs.Moved.{found_in_all, moved_is}
use Rattle.plan_check.proofs.draft.Draft.move_obstacle.Goals as goal

pub returns-in_default-clause-ok : goal.returns-in_default-clause-ok
returns-in_default-clause-ok c =
    let same = none_changed obstacle_of_entry (is_obstacle_named c.args.name.now) c.args.name.now (λ e. refl) (shifted_obstacle c.args.dx c.args.dy) c.self.inside.obstacles.entries (sym c.in_default.ensures.value) in
    rw (← c.self.view_is, same) refl

pub shifted_points-requires-clause-points_in : goal.shifted_points-requires-clause-points_in
shifted_points-requires-clause-points_in c =
    let all = obstacles_in_range c.args.self.now c.requires.sound in
    subst (All InRange) (sym c.as_slice.ensures)
    (found_in_all (All InRange) c.args.name.now c.self.inside.obstacles.entries c.in-Some.points.now (rw (← c.self.view_is) at all) (sym c.in-Some.ensures.value))

pub returns-in-Ok-clause-ok : goal.returns-in-Ok-clause-ok
returns-in-Ok-clause-ok c =
    let fits_x : FitsSigned w64 c.args.dx = c.ranges.dx in
    let fits_y : FitsSigned w64 c.args.dy = c.ranges.dy in
    let shifted : c.in_ok-moved.moved ≡ map (shifted_point c.args.dx c.args.dy) c.as_slice.result.now = simp to_z-of_z at c.in_ok-moved.ensures in
    let moved = moved_is c.self.inside.obstacles c.args.name.now c.copy.result c.in-Some.points.now _ c.insert.new.self.entries c.args.dx c.args.dy
    (sym c.in-Some.ensures.value) c.copy.ensures (shifted ∙ ap (map (shifted_point c.args.dx c.args.dy)) c.as_slice.ensures) c.in-Ok.ensures.entries c.insert.ensures.unique in
    rw (← c.self.view_is, moved) refl
