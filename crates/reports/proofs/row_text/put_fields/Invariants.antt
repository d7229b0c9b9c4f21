use Rattle.std.proofs.Common.{◌≡◌, ◌++◌, drop}
use Rattle.std.specs.List.{join_with_byte}
use Rattle.reports.proofs.JoinedFields.{spaced}
use Rattle.reports.proofs.row_text.put_fields.Given as goal

abbrev pub invariant-loop-k : goal.invariant-loop-k
invariant-loop-k l = l.text.items ++ spaced (drop l.k l.row) ≡ l.fn.text.items ++ join_with_byte 32 l.row
