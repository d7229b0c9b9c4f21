use Rattle.std.specs.Prelude.{[], ◌∷◌}
use Rattle.std.specs.List.{flat_map}
use Rattle.std.proofs.Common.{sym, ap}
use Rattle.plane_spec.specs.Boxes.{box_of_points}
use Rattle.plan_spec.specs.declared.item.Screen.{Screen}
use Rattle.plan_spec.specs.Plan.{is_screen_named}
use Rattle.list_laws.proofs.Tests.{filter_none}
use Rattle.plan_check.proofs.boxes.screen_box.Goals as goal

pub returns-in-None : goal.returns-in-None
returns-in-None c =
    sym (ap (λ ss. box_of_points (flat_map (λ (s : Screen). s.from ∷ s.to ∷ []) ss)) (filter_none (is_screen_named c.args.name.now) c.args.draft.now.screens (sym c.in-None.ensures.found)))
