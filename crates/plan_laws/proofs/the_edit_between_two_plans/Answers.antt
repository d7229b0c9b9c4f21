use Rattle.std.proofs.Common.{ap, subst, sym, ◌∙◌}
use Rattle.plan_spec.specs.Accepted.{is_sound}
use Rattle.plan_spec.specs.Ranges.{AreBoxesInRange}
use Rattle.plan_laws.proofs.Boxes.{edit_boxes_in_range}
use Rattle.plan_laws.proofs.Edits.Refused.{edited_is_sound}
use Rattle.plan_laws.proofs.the_edit_between_two_plans.Goals as goal

pub returns-clause-sound : goal.returns-clause-sound
returns-clause-sound c = λ before after boxes between.
    ap is_sound between.makes ∙ edited_is_sound before between.edit between.sound between.valid

pub returns-clause-boxes : goal.returns-clause-boxes
returns-clause-boxes c = λ before after boxes between.
    subst AreBoxesInRange (sym between.has) (edit_boxes_in_range before between.edit between.sound between.valid)
