use Rattle.std.proofs.Common.{◌≡◌, true, rules}
use Rattle.sight_spec.specs.Sight.{is_open}
use Rattle.isovist_core.proofs.Rounded.{opened_totals}
use Rattle.isovist_core.proofs.seeing.isovist_totals.Goals as goal

pub isovist_totals_by-requires : goal.isovist_totals_by-requires
isovist_totals_by-requires c = record {
  p_in = c.requires.p_in;
  of_plan = record { plan = c.args.plan.now; seen = c.requires.seen };
  tabled = c.in_ok-table.ensures;
}

pub returns : goal.returns
returns c =
    let open_is : is_open c.args.plan.now c.args.p ≡ true = search rules in
    record {
      value =
          opened_totals c.args.plan.now c.args.scene.now c.args.p c.in_ok-totals.totals open_is c.requires.seen
          c.in_ok-totals.ensures;
      closed = tt;
    }
