use Rattle.std.proofs.Common.{◌≡◌, ◌≤◌, take, count_by, is_some}
use Rattle.reports.proofs.turns.count_depths.Given as goal

abbrev pub invariant-depths : goal.invariant-depths
invariant-depths l = record {
  count : l.count ≡ count_by is_some (take l.depth-index l.depths);
  few : l.count ≤ l.depth-index;
}
