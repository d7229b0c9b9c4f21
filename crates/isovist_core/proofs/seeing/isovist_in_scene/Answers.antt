use Rattle.std.proofs.Common.{◌≡◌, map, subst, rules}
use Rattle.std.specs.Prelude.{FitsSigned}
use Rattle.std.proofs.lemmas.Int.{to_z-of_z}
use mir.Syntax.{w128}
use Rattle.isovist_core.specs.Sums.{triangle_of_run, AreSums}
use Rattle.isovist_core.proofs.Rounded.{all_spanned, whole}
use Rattle.isovist_core.proofs.seeing.isovist_in_scene.Goals as goal

pub triangles_of-requires : goal.triangles_of-requires
triangles_of-requires c = record {
  p_in = c.requires.p_in;
  spanned =
      rw c.deref.ensures.value
      (all_spanned c.args.scene.now c.args.p c.in_ok-runs.runs.items c.requires.of_plan c.in_ok-runs.ensures);
}

pub sums_of-sums-requires : goal.sums_of-sums-requires
sums_of-sums-requires c = record {
  p_in = c.requires.p_in;
  spanned =
      rw c.deref-2.ensures.value
      (all_spanned c.args.scene.now c.args.p c.in_ok-runs.runs.items c.requires.of_plan c.in_ok-runs.ensures);
}

pub returns : goal.returns
returns c =
    let runs = c.in_ok-runs.runs.items in
    let sums = c.sums_of-sums.result in
    let seen = triangle_of_run c.args.scene.now c.args.p in
    let floor_fits : FitsSigned w128 c.sums_of-sums.result.floor = search rules in
    let ceil_fits : FitsSigned w128 c.sums_of-sums.result.ceil = search rules in
    let these : c.in_ok-triangles.triangles.items ≡ map seen runs =
    rw (← c.deref.ensures.value) c.in_ok-triangles.ensures in
    let sums_are : AreSums (map seen runs) sums =
    subst (λ rs. AreSums (map seen rs) sums) c.deref-2.ensures.value c.sums_of-sums.ensures in
    rw (c.of.ensures, to_z-of_z w128 c.sums_of-sums.result.floor floor_fits, to_z-of_z w128 c.sums_of-sums.result.ceil ceil_fits)
    (whole c.args.scene.now c.args.p runs c.in_ok-triangles.triangles.items sums c.in_ok-runs.ensures these sums_are)
