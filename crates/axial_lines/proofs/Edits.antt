-- Scenes before and after an edit, as `Plan::with`, `Plan::changed` and `scene_of` give them.
use Rattle.std.proofs.Common.{◌≡◌, ◌∙◌, ap}
use Rattle.std.specs.Prelude.{IsTrue, None}
use Rattle.plan_spec.specs.declared.edit.Changed.{Changed}
use Rattle.plan_spec.specs.declared.edit.Edit.{Edit}
use Rattle.plan_spec.specs.Plan.{Plan}
use Rattle.plan_spec.specs.Accepted.{is_sound}
use Rattle.plan_spec.specs.Edits.{changed_boxes, plan_after_edit, why_not_edit}
use Rattle.sight_spec.specs.Scene.{Scene, scene_of}
use Rattle.dirty_laws.specs.Scenes.{IsEdited}

-- the scenes of a plan and of that plan after an edit that it accepts, and the boxes of the edit
pub edited_plan : (plan after : Plan) (edit : Edit) (old new : Scene) (boxes : Changed) → IsTrue (is_sound plan)
    → why_not_edit plan edit ≡ None → after ≡ plan_after_edit plan edit → boxes ≡ changed_boxes plan edit
    → old ≡ scene_of plan → new ≡ scene_of after → IsEdited old new boxes
edited_plan plan after edit old new boxes sound accepted is b o n =
    record {
      plan = plan;
      edit = edit;
      sound = sound;
      accepted = accepted;
      before_is = o;
      after_is = n ∙ ap scene_of is;
      boxes_are = b;
    }
