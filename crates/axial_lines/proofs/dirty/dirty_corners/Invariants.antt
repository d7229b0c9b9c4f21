use Rattle.std.proofs.Common.{◌≡◌, ◌++◌, filter, drop}
use Rattle.axial_lines.specs.Removal.{is_dirty_by}
use Rattle.axial_lines.proofs.dirty.dirty_corners.Given as goal

abbrev pub invariant-loop-k : goal.invariant-loop-k
invariant-loop-k l =
    l.found.items ++ filter (λ c. is_dirty_by l.area l.old l.dirty l.new c.1) (drop l.k l.ends)
    ≡ filter (λ c. is_dirty_by l.area l.old l.dirty l.new c.1) l.ends
