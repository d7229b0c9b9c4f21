use Rattle.std.proofs.Common.{ap, ◌∙◌, rules}
use Rattle.std.specs.Prelude.{FitsSigned}
use Rattle.std.proofs.lemmas.Int.{to_z-of_z}
use mir.Syntax.{w128}
use Rattle.plane_spec.specs.Fractions.{ceil_of}
use Rattle.isovist_core.proofs.Rounded.{ceil_value, ceil_within}
use Rattle.isovist_core.proofs.sums.ceil_of_run.Goals as goal

pub returns : goal.returns
returns c =
    let fits : FitsSigned w128 c.ceil.result = search rules in
    let is = c.ceil.ensures ∙ ap ceil_of c.area_of_run.ensures.value in
    rw (to_z-of_z w128 c.ceil.result fits)
    (record {
      value =
          ceil_value c.args.scene.now c.args.p c.args.run.now c.requires.spanned c.requires.p_in
          c.area_of_run.ensures.wall_in c.ceil.result is;
      bounded =
          ceil_within c.args.scene.now c.args.p c.args.run.now c.requires.spanned c.requires.p_in
          c.area_of_run.ensures.wall_in c.ceil.result is;
    })
