-- Scenes before and after an edit.
use Rattle.std.specs.Prelude.{◌≡◌, true, List, ◌++◌, map, Some, None}
use Rattle.std.specs.List.{list_all}
use Rattle.plane_spec.specs.declared.Point.{Point}
use Rattle.plane_spec.specs.declared.PlanBox.{PlanBox}
use Rattle.plane_spec.specs.Boxes.{does_meet_box}
use Rattle.plan_spec.specs.declared.edit.Changed.{Changed}
use Rattle.plan_spec.specs.declared.edit.Edit.{Edit}
use Rattle.plan_spec.specs.Plan.{Plan}
use Rattle.plan_spec.specs.Accepted.{is_sound}
use Rattle.plan_spec.specs.Edits.{changed, changed_boxes, plan_after_edit, why_not_edit}
use Rattle.sight_spec.specs.Scene.{Scene, scene_of}
use Rattle.sight_spec.specs.Axial.{here_of}
use Rattle.list_laws.specs.Dropped.{Dropped}
use Rattle.box_laws.specs.Boxes.{IsIn, OfEnds, OfCorner}

-- ---- edits between scenes

-- the boxes of an edit that only takes something away
abbrev pub removal_of : PlanBox → Changed
removal_of box = changed (Some box) None

-- the scenes are those of a sound plan and of the plan after an edit that nothing refuses, and these are its boxes
pub record IsEdited (before after : Scene) (boxes : Changed) : Type 0 where
  pub plan : Plan
  pub edit : Edit
  pub sound : is_sound plan ≡ true
  pub accepted : why_not_edit plan edit ≡ None
  pub before_is : before ≡ scene_of plan
  pub after_is : after ≡ scene_of (plan_after_edit plan edit)
  pub boxes_are : boxes ≡ changed_boxes plan edit

-- the scenes are those of any plan and of the plan after any edit that has this box before it and none after it
pub record IsRemoved (box : PlanBox) (before after : Scene) : Type 0 where
  pub plan : Plan
  pub edit : Edit
  pub before_is : before ≡ scene_of plan
  pub after_is : after ≡ scene_of (plan_after_edit plan edit)
  pub boxes_are : changed_boxes plan edit ≡ removal_of box

-- ---- what a removal takes away

-- the new scene is the old one without some walls, screens and corners, which lie in the box
pub record IsWithout (box : PlanBox) (old new : Scene) : Type 0 where
  pub walls : Dropped (OfEnds (IsIn box)) old.walls new.walls
  pub screens : Dropped (OfEnds (IsIn box)) old.screens new.screens
  pub corners : Dropped (OfCorner (IsIn box)) old.corners new.corners

-- the corners of the new scene are those of the old one without a part that stands together and lies in the box
pub record ClosesUp (box : PlanBox) (old new : Scene) : Type 0 where
  pub front : List Point
  pub gone : List Point
  pub back : List Point
  pub old_is : map here_of old.corners ≡ front ++ (gone ++ back)
  pub new_is : map here_of new.corners ≡ front ++ back
  pub gone_in : list_all (λ p. does_meet_box p p box) gone ≡ true
