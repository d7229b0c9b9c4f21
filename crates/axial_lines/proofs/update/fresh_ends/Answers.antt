use Rattle.std.proofs.Common.{◌∙◌, sym, subst, All}
use Rattle.std.proofs.lemmas.List.Elements.{All-filter}
use Rattle.dirty_laws.specs.Scenes.{removal_of}
use Rattle.sight_spec.specs.Dirty.{is_dirty_line}
use Rattle.axial_lines.specs.Removal.{IsKnownLine}
use Rattle.axial_lines.proofs.Updating.{dirty_corners_are}
use Rattle.axial_lines.proofs.update.fresh_ends.Goals as goal

pub dirty_corners-requires-clause-lines_of : goal.dirty_corners-requires-clause-lines_of
dirty_corners-requires-clause-lines_of c =
    subst (All (IsKnownLine c.args.before.now)) (sym (c.deref.ensures.value ∙ c.in_ok-dirty.ensures.lines))
    (All-filter (is_dirty_line (removal_of c.args.area) c.args.before.now)
    (IsKnownLine c.args.before.now) c.args.old.now c.requires.known)

pub returns-clause-corners : goal.returns-clause-corners
returns-clause-corners c =
    c.in_ok-found.ensures.corners
    ∙ dirty_corners_are c.args.area c.args.before.now c.args.old.now c.deref.result.now c.args.after.now
    c.deref-2.result.now (c.deref.ensures.value ∙ c.in_ok-dirty.ensures.lines)
    (c.deref-2.ensures.value ∙ c.in_ok-ends.ensures.corners)
