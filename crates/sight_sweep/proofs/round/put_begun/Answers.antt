use Rattle.std.proofs.Common.{◌≡◌, refl, subst, get_or}
use Rattle.std.specs.Prelude.{◌||◌, ◌&&◌, ◌==◌, true}
use Rattle.plane_spec.specs.Vectors.{same_point}
use Rattle.sweep_laws.specs.Groups.{no_corner}
use Rattle.sight_sweep.specs.Actives.{IsActive}
use Rattle.sight_sweep.specs.Events.{way_at}
use Rattle.sight_sweep.specs.LeftOut.{is_set}
use Rattle.sight_sweep.proofs.Groups.{begun_none, begun_more, begun_all, begun_so_far, spans_begun}
use Rattle.sight_sweep.proofs.round.put_begun.Goals as goal

pub loop-k-init : goal.loop-k-init
loop-k-init c test way a old new = begun_none c.args.table.now c.args.p
    (way_at c.args.p c.args.table.now.corners c.args.corner) (is_set c.args.kept.now) test c.around-numbers.result.now
    c.args.active.now.items a

pub loop-k-preserved : goal.loop-k-preserved
loop-k-preserved c test way a old new =
    let kept = is_set c.args.kept.now in
    let v = way_at c.args.p c.args.table.now.corners c.args.corner in
    let k = c.loop-k.k in
    let numbers = c.around-numbers.result.now in
    let within = c.around-numbers.ensures.around.within k 0 c.loop-k-test.true in
    begun_more c.args.table.now c.args.p v kept test numbers c.put_if_begun.new.active.items k
    (get_or numbers k 0) c.loop-k-test.true refl
    (subst (λ w. IsActive c.args.table.now c.args.p kept
    (λ n s. begun_so_far v k numbers test n s || ((get_or numbers k 0 == n) && same_point s.from w))
    c.put_if_begun.new.active.items) c.way-v.ensures.way
    (c.in_ok-put_if_begun.ensures.put (begun_so_far v k numbers test) way
    (c.loop-k.invariant test way a old new)
    (spans_begun c.args.table.now c.args.p v way kept test numbers k old new)
    (λ s own is h. new (get_or numbers k 0) s within own is
    (subst (λ w. same_point s.from w ≡ true) c.way-v.ensures.way h))))

pub returns : goal.returns
returns c = record {
  put = λ test way a old new.
      begun_all c.args.table.now c.args.p
      (get_or c.args.table.now.corners c.args.corner no_corner).here (is_set c.args.kept.now) test
      c.around-numbers.result.now c.loop-k.active.items c.loop-k.k c.loop-k-test.false
      c.around-numbers.ensures.around (c.loop-k.invariant test way a old new);
}
