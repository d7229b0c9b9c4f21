use Rattle.std.specs.Prelude.{is_some, [], ◌∷◌}
use Rattle.std.specs.List.{flat_map}
use Rattle.std.proofs.Common.{refl, sym, ap, ◌∙◌}
use Rattle.plan_spec.specs.declared.item.Screen.{Screen}
use Rattle.plan_spec.specs.Plan.{is_screen_named}
use Rattle.plan_check.specs.Kept.{screen_of_entry}
use Rattle.plan_check.proofs.Kept.{named_is}
use Rattle.plan_check.proofs.Tables.{found_at, one_named}
use Rattle.plan_check.proofs.draft.Draft.line_named.Goals as goal

pub returns-in_default-clause-found : goal.returns-in_default-clause-found
returns-in_default-clause-found c =
    rw (← c.self.view_is) (ap is_some (sym c.in_default.is) ∙ c.get_index_of.ensures.found
    ∙ sym (named_is screen_of_entry (is_screen_named c.args.name.now) c.args.name.now (λ e. refl) c.self.inside.screens.entries))

pub returns-clause-found : goal.returns-clause-found
returns-clause-found c =
    rw (← c.self.view_is) (ap is_some (sym c.in-Some.is) ∙ c.get_index_of.ensures.found
    ∙ sym (named_is screen_of_entry (is_screen_named c.args.name.now) c.args.name.now (λ e. refl) c.self.inside.screens.entries))

pub returns-clause-ends : goal.returns-clause-ends
returns-clause-ends c =
    let es = c.self.inside.screens.entries in
    let name = c.args.name.now in
    let line = c.in-Some-get_index.line.now in
    let found = found_at name c.in-Some-get_index.field-0-0.now line es c.in-Some.k c.in-Some.ensures.value (sym c.in-Some-get_index.ensures.entry) in
    let one = one_named screen_of_entry (is_screen_named name) name (λ e. refl) es line c.get_index_of.ensures.unique found in
    rw (← c.self.view_is) (sym (ap (flat_map (λ (s : Screen). s.from ∷ s.to ∷ [])) one))
