use Rattle.std.specs.Prelude.{◌≡◌, length, true, false}
use Rattle.std.proofs.Common.{refl, sym, ap, ◌∙◌, get_or}
use Rattle.plan_spec.specs.Grid.{grid_points}
use Rattle.vga_grid.specs.Openness.{openness_of}
use Rattle.vga_grid.proofs.Covered.{flag_count, visible_is}
use Rattle.vga_looks.proofs.Later.{later_is_upper}
use Rattle.vga_looks.proofs.Rows.{later_is_joined, upper_other}
use Rattle.vga_looks.proofs.looks.sees_later.Goals as goal

pub is_open-requires : goal.is_open-requires
is_open-requires c = rw (c.requires.grid, flag_count c.args.plan.now (length (grid_points c.args.plan.now.grid))) c.requires.later.1

pub sight_near-requires-clause-other : goal.sight_near-requires-clause-other
sight_near-requires-clause-other c = record {
  in_range = c.point-there.ensures.in_range;
  other = upper_other c.point-here.result c.point-there.result (rw (c.point-here.ensures.point, c.point-there.ensures.point, c.requires.grid)
      (later_is_upper c.args.plan.now c.args.i c.args.j c.requires.sound c.requires.later.0 c.requires.later.1));
}

pub sight_near-requires-clause-in_arc : goal.sight_near-requires-clause-in_arc
sight_near-requires-clause-in_arc c = rw (c.point-here.ensures.point, c.point-there.ensures.point, c.requires.grid) c.requires.in_arc

pub returns-then-not-is_open-clause-seen : goal.returns-then-not-is_open-clause-seen
returns-then-not-is_open-clause-seen c =
    let plan = c.args.plan.now in
    let tested : c.args.grid.now.are_open ≡ openness_of plan (length (grid_points plan.grid)) = ap (λ g. g.are_open) c.requires.grid in
    let shut : get_or c.args.grid.now.are_open c.args.j false ≡ false = sym c.is_open.ensures ∙ c.if-not-is_open.true in
    visible_is plan c.args.grid.now.are_open c.args.i c.args.j false tested c.requires.later.0 c.requires.later.1
    (rw (c.requires.looker_open, shut) refl)
    ∙ sym (later_is_joined plan c.args.i c.args.j c.requires.later.0)

pub returns-clause-seen : goal.returns-clause-seen
returns-clause-seen c =
    let plan = c.args.plan.now in
    let tested : c.args.grid.now.are_open ≡ openness_of plan (length (grid_points plan.grid)) = ap (λ g. g.are_open) c.requires.grid in
    let there_open : get_or c.args.grid.now.are_open c.args.j false ≡ true = sym c.is_open.ensures ∙ c.if-not-is_open.false in
    let seen = rw (c.requires.scene, c.point-here.ensures.point, c.point-there.ensures.point, c.requires.grid) at c.sight_near.ensures.seen in
    visible_is plan c.args.grid.now.are_open c.args.i c.args.j c.sight_near.result tested c.requires.later.0 c.requires.later.1
    (rw (c.requires.looker_open, there_open) seen)
    ∙ sym (later_is_joined plan c.args.i c.args.j c.requires.later.0)
