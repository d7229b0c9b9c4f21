use Rattle.std.specs.Prelude.{◌≡◌, ◌&&◌, ◌||◌, false, int_le, true}
use Rattle.std.proofs.Common.{sym, ap, ◌∙◌}
use Rattle.vga_fill.specs.Runs.{is_beside_along, is_outside}
use Rattle.vga_fill.proofs.runs.is_beside.Goals as goal

pub returns-then-is_level : goal.returns-then-is_level
returns-then-is_level c =
    let p = c.args.p in
    let first = c.args.first in
    let last = c.args.last in
    let area = c.args.area in
    let across = is_outside p.x first.x last.x area.low.x area.high.x in
    let along : is_beside_along p last area ≡ false = sym c.is_beside_along.ensures ∙ c.if-is_beside_along.false in
    let line : int_le last.y first.y ≡ true = sym c.is_level.ensures ∙ c.if-is_level.true in
    c.is_beside_across.ensures ∙ sym (ap (λ t. t || (int_le last.y first.y && across)) along ∙ ap (λ t. t && across) line)
