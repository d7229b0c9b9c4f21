use Rattle.std.proofs.Common.{map, subst}
use Rattle.isovist_core.specs.Sums.{triangle_of_run, AreSums}
use Rattle.isovist_core.proofs.Rounded.{all_spanned, totals_are}
use Rattle.isovist_core.proofs.seeing.isovist_totals_by.Goals as goal

pub sums_of-totals-requires : goal.sums_of-totals-requires
sums_of-totals-requires c = record {
  p_in = c.requires.p_in;
  spanned =
      rw c.deref.ensures.value
      (all_spanned c.args.scene.now c.args.p c.in_ok-runs.runs.items c.requires.of_plan c.in_ok-runs.ensures);
}

pub returns : goal.returns
returns c =
    let seen = triangle_of_run c.args.scene.now c.args.p in
    totals_are c.args.scene.now c.args.p c.in_ok-runs.runs.items c.sums_of-totals.result c.in_ok-runs.ensures
    (subst (λ rs. AreSums (map seen rs) c.sums_of-totals.result) c.deref.ensures.value c.sums_of-totals.ensures)
