use Rattle.std.specs.Prelude.{◌≡◌, ◌++◌, take}
use Rattle.plan_back.proofs.copies.push_copies.Given as goal

abbrev pub invariant-loop-item : goal.invariant-loop-item
invariant-loop-item l = l.list ≡ l.initial.list ++ take l.item-index l.items
