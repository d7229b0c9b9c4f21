use Rattle.std.specs.Prelude.{◌<◌, length}
use Rattle.std.proofs.Common.{sym, ap, subst, ◌∙◌, get_or}
use Rattle.vga_looks.specs.Tables.{nowhere}
use Rattle.vga_fill.proofs.dirty.place.Goals as goal

pub point-requires : goal.point-requires
point-requires c = subst (λ g. c.args.i < length g.points) (sym c.args.sights.now.points_are) c.requires

pub returns-clause-place : goal.returns-clause-place
returns-clause-place c = c.point.ensures.point ∙ ap (λ g. get_or g.points c.args.i nowhere) c.args.sights.now.points_are
