use Rattle.std.proofs.Common.{◌∙◌, ℕ, Bool, sym, subst, All}
use Rattle.std.proofs.lemmas.List.Elements.{All-filter}
use Rattle.plane_spec.specs.declared.Point.{Point}
use Rattle.axial_lines.specs.Found.{IsEndInRange}
use Rattle.axial_lines.specs.Removal.{is_dirty_by}
use Rattle.axial_lines.proofs.Filters.{none_passes}
use Rattle.axial_lines.proofs.dirty.dirty_corners.Goals as goal

pub returns-clause-in_range : goal.returns-clause-in_range
returns-clause-in_range c =
    let is_dirty : ℕ × Point → Bool =
    λ e. is_dirty_by c.args.area c.args.old.now c.args.dirty.now c.args.new.now e.1 in
    subst (All IsEndInRange)
    (sym (sym (none_passes is_dirty c.args.ends.now c.loop-k.found.items c.loop-k.k c.loop-k-test.false)
    ∙ c.loop-k.invariant))
    (All-filter is_dirty IsEndInRange c.args.ends.now c.requires.ends_in)
