use Rattle.std.proofs.Common.{refl, sym, ap, subst, ◌≡◌, ◌∙◌, length, true, false}
use Rattle.std.proofs.lemmas.Result.{IfOk-weaker}
use Rattle.plan_spec.specs.Grid.{grid_points}
use Rattle.sight_spec.specs.Scene.{scene_of}
use Rattle.vga_looks.specs.Tables.{grid_table_of}
use Rattle.vga_grid.specs.Openness.{is_number_open}
use Rattle.vga_grid.proofs.Covered.{flag_count}
use Rattle.vga_fill.specs.Sights.{IsLook}
use Rattle.vga_fill.proofs.Asked.{open_flags, flag_is, closed_look, seen_look}
use Rattle.vga_fill.proofs.looks.look_from.Goals as goal

pub is_open-requires : goal.is_open-requires
is_open-requires c =
    let plan = c.args.plan.now in
    rw (open_flags plan c.args.sights.now.points c.args.sights.now.plan.value c.requires.same c.args.sights.now.points_are, flag_count plan (length (grid_points plan.grid)))
    c.requires.within

pub later_in_sight-requires-clause-scene : goal.later_in_sight-requires-clause-scene
later_in_sight-requires-clause-scene c = c.args.sights.now.table_is ∙ ap scene_of (sym c.requires.same)

pub later_in_sight-requires-clause-grid : goal.later_in_sight-requires-clause-grid
later_in_sight-requires-clause-grid c = c.args.sights.now.points_are ∙ ap grid_table_of (sym c.requires.same)

pub returns-then-not-is_open-clause-look : goal.returns-then-not-is_open-clause-look
returns-then-not-is_open-clause-look c =
    let sights = c.args.sights.now in
    let plan = c.args.plan.now in
    let shut = sym c.is_open.ensures ∙ c.if-not-is_open.true in
    subst (IsLook plan c.args.row) (sym c.new.ensures.items)
    (closed_look plan sights.points.are_open (open_flags plan c.args.sights.now.points c.args.sights.now.plan.value c.requires.same sights.points_are) c.args.row shut)

pub returns-then-not-is_open-clause-counted : goal.returns-then-not-is_open-clause-counted
returns-then-not-is_open-clause-counted c =
    let sights = c.args.sights.now in
    let plan = c.args.plan.now in
    let flag = flag_is plan sights.points.are_open (open_flags plan c.args.sights.now.points c.args.sights.now.plan.value c.requires.same sights.points_are) c.args.row c.requires.within in
    let shut : is_number_open plan c.args.row ≡ false = sym flag ∙ (sym c.is_open.ensures ∙ c.if-not-is_open.true) in
    rw shut refl

pub returns-clause-look : goal.returns-clause-look
returns-clause-look c =
    let plan = c.args.plan.now in
    IfOk-weaker c.later_in_sight.result _ _ (λ seen is. seen_look plan c.args.row seen.items is) c.later_in_sight.ensures.row

pub returns-clause-counted : goal.returns-clause-counted
returns-clause-counted c =
    let sights = c.args.sights.now in
    let plan = c.args.plan.now in
    let flag = flag_is plan sights.points.are_open (open_flags plan c.args.sights.now.points c.args.sights.now.plan.value c.requires.same sights.points_are) c.args.row c.requires.within in
    let opened : is_number_open plan c.args.row ≡ true = sym flag ∙ (sym c.is_open.ensures ∙ c.if-not-is_open.false) in
    rw opened c.later_in_sight.ensures.counted
