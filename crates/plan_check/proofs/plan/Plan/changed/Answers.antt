use Rattle.plan_laws.proofs.Boxes.{edit_boxes_in_range}
use Rattle.plan_check.proofs.plan.Plan.changed.Goals as goal

pub returns-clause-in_range : goal.returns-clause-in_range
returns-clause-in_range c = rw (c.changed_boxes.ensures, ← c.self.view_is) (edit_boxes_in_range c.self.inside.draft c.args.edit.now c.self.invariant)
