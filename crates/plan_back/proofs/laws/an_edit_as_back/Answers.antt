use Rattle.plan_back.proofs.Backs.{back_has_place, back_is_like, like_named, back_makes}
use Rattle.plan_back.proofs.laws.an_edit_as_back.Goals as goal

pub returns-clause-place : goal.returns-clause-place
returns-clause-place c = back_has_place

pub returns-clause-like : goal.returns-clause-like
returns-clause-like c = back_is_like

pub returns-clause-plan : goal.returns-clause-plan
returns-clause-plan c = back_makes

pub returns-clause-name : goal.returns-clause-name
returns-clause-name c = like_named
