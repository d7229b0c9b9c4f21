use Rattle.std.proofs.Common.{◌≡◌, ◌+ℤ◌}
use Rattle.isovist_core.proofs.Rounded.{floors_from, ceils_from, IsSumOf}
use Rattle.isovist_core.proofs.sums.sums_of.Given as goal

abbrev pub invariant-loop-run : goal.invariant-loop-run
invariant-loop-run l = record {
  floor : (l.floor +ℤ floors_from l.scene l.p l.runs l.run-index) ≡ floors_from l.scene l.p l.runs 0;
  ceil : (l.ceil +ℤ ceils_from l.scene l.p l.runs l.run-index) ≡ ceils_from l.scene l.p l.runs 0;
  floor_small : IsSumOf l.run-index l.floor;
  ceil_small : IsSumOf l.run-index l.ceil;
}
