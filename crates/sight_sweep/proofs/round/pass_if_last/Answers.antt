use Rattle.std.proofs.Common.{◌≤◌, ◌<◌, ◌+◌, ℕ, arith, get_or, length}
use Rattle.sight_sweep.specs.Arcs.{start_place}
use Rattle.sight_sweep.specs.Events.{place_at}
use Rattle.sight_sweep.specs.LeftOut.{is_set}
use Rattle.sight_sweep.proofs.Going.{going_more, run_at, going_to, going_past, group_of, way_of, place_in, last_so}
use Rattle.sight_sweep.proofs.Going.{not_last_so, not_at_end}
use Rattle.sight_sweep.proofs.round.pass_if_last.Goals as goal

pub returns-then-not-is_last-clause-going : goal.returns-then-not-is_last-clause-going
returns-then-not-is_last-clause-going c arc shown before is_arc left events g =
    let es = c.args.events.now in let k = c.args.k in
    let more = not_at_end k (length es) c.is_last.result c.requires.inside c.if-not-is_last.true c.is_last.ensures.end
    in
    going_more c.args.table.now c.args.p arc (is_set c.args.kept.now) before c.args.sectors.now.items es c.args.from k
    c.args.active.now.items
    more
    (not_last_so (place_at (get_or es k 0)) (place_at (get_or es (k + 1) 0)) c.is_last.result c.if-not-is_last.true
    (c.is_last.ensures.on more)) g

pub returns : goal.returns
returns c = record {
  next = own (c.args.k + 1);
  going = λ arc shown before is_arc left events g.
      let scene = c.args.table.now in let p = c.args.p in let es = c.args.events.now in let from = c.args.from
      in let k = c.args.k in let kept = is_set c.args.kept.now in
      let sectors = c.args.sectors.now.items in let active = c.args.active.now.items in
      let w = way_of scene p arc kept shown es c.requires.station is_arc left events in
      let run = run_at scene p arc kept shown before sectors es from k active w c.requires.inside
      (λ more. last_so (place_at (get_or es k 0))
      (place_at (get_or es (k + 1) 0)) c.is_last.result c.if-not-is_last.false (c.is_last.ensures.on more)) g in
      let low = place_in scene p arc kept shown es from w (below from k (length es) c.requires.order
      c.requires.inside) in
      let place = place_at (get_or es from 0) in
      going_past scene p arc kept shown before c.pass.new.sectors.items es from k c.pass.new.active.items w
      c.requires.inside
      c.requires.order run
      (c.in_ok-pass.ensures.passed arc shown (start_place arc) before place left
      (group_of scene p arc kept shown es from (k + 1) place w run low.0 low.1)
      (going_to scene p arc kept shown before sectors es from k active w c.requires.inside run g));
}
  where
    own : (n : ℕ) → n ≤ n
    own n = omega arith

    below : (from k n : ℕ) → from ≤ k → k < n → from < n
    below from k n h j = omega (arith, h, j)
