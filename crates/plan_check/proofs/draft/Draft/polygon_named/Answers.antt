use Rattle.std.specs.Prelude.{is_some}
use Rattle.std.specs.List.{flat_map}
use Rattle.std.proofs.Common.{refl, sym, ap, ◌∙◌}
use Rattle.std.proofs.lemmas.List.{append-nil}
use Rattle.plan_spec.specs.Plan.{Obstacle, is_obstacle_named}
use Rattle.plan_check.specs.Kept.{obstacle_of_entry}
use Rattle.plan_check.proofs.Kept.{named_is}
use Rattle.plan_check.proofs.Tables.{found_at, one_named}
use Rattle.plan_check.proofs.draft.Draft.polygon_named.Goals as goal

pub returns-in_default-clause-found : goal.returns-in_default-clause-found
returns-in_default-clause-found c =
    rw (← c.self.view_is) (ap is_some (sym c.in_default.is) ∙ c.get_index_of.ensures.found
    ∙ sym (named_is obstacle_of_entry (is_obstacle_named c.args.name.now) c.args.name.now (λ e. refl) c.self.inside.obstacles.entries))

pub returns-clause-found : goal.returns-clause-found
returns-clause-found c =
    rw (← c.self.view_is) (ap is_some (sym c.in-Some.is) ∙ c.get_index_of.ensures.found
    ∙ sym (named_is obstacle_of_entry (is_obstacle_named c.args.name.now) c.args.name.now (λ e. refl) c.self.inside.obstacles.entries))

pub returns-clause-points : goal.returns-clause-points
returns-clause-points c =
    let es = c.self.inside.obstacles.entries in
    let name = c.args.name.now in
    let points = c.in-Some-get_index.points.now in
    let found = found_at name c.in-Some-get_index.field-0-0.now points es c.in-Some.k c.in-Some.ensures.value (sym c.in-Some-get_index.ensures.entry) in
    let one = one_named obstacle_of_entry (is_obstacle_named name) name (λ e. refl) es points c.get_index_of.ensures.unique found in
    rw (← c.self.view_is) (c.as_slice.ensures ∙ sym (append-nil points) ∙ sym (ap (flat_map (λ (o : Obstacle). o.points)) one))
