use Rattle.std.proofs.Common.{◌∙◌, ap, sym, length, map, to_z-of_z}
use Rattle.desk_spec.specs.Desks.{watcher_at}
use Rattle.desk_core.proofs.Followed.{has_gone, map_without}
use Rattle.desk_core.proofs.watchers.let_go.Goals as goal

pub returns-in-Some-clause-does : goal.returns-in-Some-clause-does
returns-in-Some-clause-does g c =
    let there = ap (watcher_at (length (map g.W.Watch.list c.args.watchers.now.items))) (sym (to_z-of_z c.ranges.k))
    ∙ sym c.in-Some.ensures.place in
    λ history number. has_gone history _ _ number _ _ _ c.in-Some.place there
    (map_without g.W.Watch.room c.in-Some.place c.args.watchers.now.items c.take_out.new.watchers.items c.take_out.ensures)
    (map_without g.W.Watch.list c.in-Some.place c.args.watchers.now.items c.take_out.new.watchers.items c.take_out.ensures)
