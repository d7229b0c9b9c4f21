use Rattle.std.proofs.Common.{refl, subst, get_or}
use Rattle.std.specs.Prelude.{◌&&◌, not, ◌==◌}
use Rattle.plane_spec.specs.Vectors.{same_point}
use Rattle.sweep_laws.specs.Groups.{no_corner}
use Rattle.sight_sweep.specs.Actives.{IsActive}
use Rattle.sight_sweep.specs.Events.{way_at}
use Rattle.sight_sweep.proofs.Groups.{ended_none, ended_more, ended_all, ended_so_far}
use Rattle.sight_sweep.proofs.round.take_ended.Goals as goal

pub loop-k-init : goal.loop-k-init
loop-k-init c kept test a = ended_none c.args.table.now c.args.p
    (way_at c.args.p c.args.table.now.corners c.args.corner) kept test c.around-numbers.result.now
    c.args.active.now.items a

pub loop-k-preserved : goal.loop-k-preserved
loop-k-preserved c kept test a =
    let v = way_at c.args.p c.args.table.now.corners c.args.corner in
    let k = c.loop-k.k in
    let numbers = c.around-numbers.result.now in
    ended_more c.args.table.now c.args.p v kept test numbers c.take_if_ended.new.active.items k
    (get_or numbers k 0) c.loop-k-test.true refl
    (subst (λ w. IsActive c.args.table.now c.args.p kept
    (λ n s. ended_so_far v k numbers test n s && not ((get_or numbers k 0 == n) && same_point s.to w))
    c.take_if_ended.new.active.items) c.way-v.ensures.way
    (c.take_if_ended.ensures.taken kept (ended_so_far v k numbers test) (c.loop-k.invariant kept test a)))

pub returns : goal.returns
returns c = record {
  taken = λ kept test a.
      ended_all c.args.table.now c.args.p
      (get_or c.args.table.now.corners c.args.corner no_corner).here kept test c.around-numbers.result.now
      c.loop-k.active.items c.loop-k.k c.loop-k-test.false
      c.around-numbers.ensures.around (c.loop-k.invariant kept test a);
}
