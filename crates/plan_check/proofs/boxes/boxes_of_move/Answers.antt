use Rattle.std.specs.Prelude.{◌≡◌, IfSome, List, Some}
use Rattle.std.specs.List.{All}
use Rattle.std.proofs.Common.{FitsSigned, w64, refl, subst, sym, ◌∙◌}
use Rattle.std.proofs.lemmas.Int.{to_z-of_z}
use Rattle.plane_spec.specs.declared.Point.{Point}
use Rattle.plane_spec.specs.declared.PlanBox.{PlanBox}
use Rattle.plane_spec.specs.Vectors.{InRange}
use Rattle.plane_spec.specs.Boxes.{box_of_points}
use Rattle.plan_spec.specs.Edits.{changed_boxes, points_named}
use Rattle.plan_spec.specs.Edits.{shifted_box}
use Rattle.plan_spec.specs.Ranges.{IsBoxInRange}
use Rattle.plan_laws.proofs.Boxes.{box_in_range, named_points_in}
use Rattle.plan_check.proofs.MovedBox.{box_shifted}
use Rattle.plan_check.proofs.boxes.boxes_of_move.Goals as goal

-- the box that is found is in range
found_in_range : (points : List Point) (area : PlanBox) → All InRange points → box_of_points points ≡ Some area → IsBoxInRange area
found_in_range points area all e = subst (λ o. IfSome o IsBoxInRange) e (box_in_range points all)

pub shifted_box-requires-clause-low_in : goal.shifted_box-requires-clause-low_in
shifted_box-requires-clause-low_in c =
    (found_in_range (points_named c.args.name.now c.args.draft.now.obstacles) c.in-Some.area (named_points_in c.args.draft.now c.args.name.now c.requires.sound)
    (sym c.obstacle_box-first.ensures ∙ c.in-Some.is)).low

pub shifted_box-requires-clause-high_in : goal.shifted_box-requires-clause-high_in
shifted_box-requires-clause-high_in c =
    (found_in_range (points_named c.args.name.now c.args.draft.now.obstacles) c.in-Some.area (named_points_in c.args.draft.now c.args.name.now c.requires.sound)
    (sym c.obstacle_box-first.ensures ∙ c.in-Some.is)).high

pub returns-in-Some : goal.returns-in-Some
unfolding changed_boxes
returns-in-Some c =
    let points = points_named c.args.name.now c.args.draft.now.obstacles in
    let fits_x : FitsSigned w64 c.args.dx = c.ranges.dx in
    let fits_y : FitsSigned w64 c.args.dy = c.ranges.dy in
    let area : box_of_points points ≡ Some c.in-Some.area = sym c.obstacle_box-first.ensures ∙ c.in-Some.is in
    let moved : c.shifted_box.result ≡ shifted_box c.args.dx c.args.dy c.in-Some.area = simp to_z-of_z at c.shifted_box.ensures in
    rw (moved, box_shifted c.args.dx c.args.dy points, area) refl

pub returns-in-None : goal.returns-in-None
unfolding changed_boxes
returns-in-None c =
    let none = sym c.obstacle_box-first.ensures ∙ c.in-None.is in
    rw (c.in-None.is, box_shifted c.args.dx c.args.dy (points_named c.args.name.now c.args.draft.now.obstacles), none) refl
