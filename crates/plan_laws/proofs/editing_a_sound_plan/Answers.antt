use Rattle.plan_laws.proofs.Edits.Refused.{sound_where_edited, edited_is_sound}
use Rattle.plan_laws.proofs.editing_a_sound_plan.Goals as goal

pub returns-clause-refused : goal.returns-clause-refused
returns-clause-refused c = sound_where_edited

pub returns-clause-sound : goal.returns-clause-sound
returns-clause-sound c = edited_is_sound
