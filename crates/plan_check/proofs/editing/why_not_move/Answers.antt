use Rattle.std.specs.Prelude.{◌≡◌, ℕ, ℤ, All, Bool, true, false, not, List, [], ◌∷◌, map, Option, Some, None}
use Rattle.std.specs.List.{list_any}
use Rattle.std.proofs.Common.{refl, subst, sym, ap, ap₂, ◌∙◌}
use Rattle.std.proofs.lemmas.Int.{to_z-of_z}
use Rattle.plane_spec.specs.declared.Point.{Point}
use Rattle.plane_spec.specs.Vectors.{InRange}
use Rattle.plan_spec.specs.declared.edit.Edit.TheVariants.{Move}
use Rattle.plan_spec.specs.declared.why.Why.{Why}
use Rattle.plan_spec.specs.declared.why.Why.TheVariants.{Missing}
use Rattle.plan_spec.specs.Plan.{Plan, with_obstacles, is_obstacle_named}
use Rattle.plan_spec.specs.Refusals.{when, first_cause}
use Rattle.plan_spec.specs.Edits.{shifted_point, points_named, without_obstacle, why_not_moved, why_not_edit}
use Rattle.plan_laws.proofs.Boxes.{named_points_in}
use Rattle.plan_laws.proofs.Edits.Removing.{sound_with_fewer_obstacles}
use Rattle.plan_check.proofs.editing.why_not_move.Goals as goal

-- the cause for the moved polygon beside the others is that of the move
cause_of_move : (plan : Plan) (name : List ℕ) (dx dy : ℤ) (others : Plan) (points : List Point) (cause : Option Why)
    → list_any (is_obstacle_named name) plan.obstacles ≡ true
    → others ≡ with_obstacles plan (without_obstacle name plan.obstacles)
    → points ≡ map (shifted_point dx dy) (points_named name plan.obstacles)
    → cause ≡ why_not_moved others points
    → cause ≡ why_not_edit plan (Move name dx dy)
unfolding why_not_edit
cause_of_move plan name dx dy others points cause there others_are points_are is =
    is
    ∙ ap₂ why_not_moved others_are points_are
    ∙ alone (list_any (is_obstacle_named name) plan.obstacles) _ there
  where
    alone : (there : Bool) (cause : Option Why)
        → there ≡ true → cause ≡ first_cause (when (not there) Missing ∷ cause ∷ [])
    alone true None e = refl
    alone true (Some why) e = refl
    alone false cause e = cc

pub shifted_points-requires-clause-points_in : goal.shifted_points-requires-clause-points_in
shifted_points-requires-clause-points_in c =
    subst (All InRange) (sym c.in-Some.ensures.points) (named_points_in c.args.draft.now c.args.name.now c.requires.sound)

pub why_not_moved-requires : goal.why_not_moved-requires
why_not_moved-requires c =
    rw (c.remove_obstacle.ensures, c.in_ok-others.ensures)
    (sound_with_fewer_obstacles c.args.draft.now (λ o. not (is_obstacle_named c.args.name.now o)) c.requires.sound)

pub returns : goal.returns
returns c =
    let moved = simp (to_z-of_z, c.ranges.dx, c.ranges.dy) at c.in_ok-moved.ensures in
    cause_of_move c.args.draft.now c.args.name.now c.args.dx c.args.dy
    c.remove_obstacle.new.self c.as_slice.result.now _
    (sym c.in-Some.ensures.found)
    (rw (c.remove_obstacle.ensures, c.in_ok-others.ensures) refl)
    (c.as_slice.ensures ∙ moved ∙ ap (map (shifted_point c.args.dx c.args.dy)) c.in-Some.ensures.points)
    c.why_not_moved.ensures
