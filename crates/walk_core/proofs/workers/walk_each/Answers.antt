use Rattle.std.proofs.Common.{◌≡◌, ℕ, ◌-◌, length, ◌∙◌, ap, arith}
use Rattle.std.proofs.lemmas.List.{take_at}
use Rattle.walk_core.specs.Lists.{listed}
use Rattle.walk_spec.specs.Walks.{visits_from}
use Rattle.walk_core.proofs.Parts.{counting_begins, counting_room, counting_goes, all_counted}
use Rattle.walk_core.proofs.workers.walk_each.Goals as goal

pub loop-walker-init : goal.loop-walker-init
loop-walker-init c = rw (c.in_ok-visits.ensures.items_if_clones_equal (λ y h. h)) (counting_begins c.args.lists.now c.args.starts.now c.args.spec.now c.args.first c.nodes.result c.nodes.ensures)

pub walk_one-requires-clause-room : goal.walk_one-requires-clause-room
walk_one-requires-clause-room c =
    rw c.deref_mut.ensures.value (counting_room c.args.lists.now c.args.starts.now c.args.spec.now c.args.first c.loop-walker.walker c.loop-walker.visits.items
    c.loop-walker.invariant (omega (arith, c.loop-walker-test.true, c.requires.walkers)) c.requires.may.steps)

pub loop-walker-preserved : goal.loop-walker-preserved
loop-walker-preserved c =
    let len : length c.walk_one.new.visits ≡ c.loop-walker.visits.len = c.walk_one.ensures.sized ∙ c.deref_mut.ensures.len in
    let sized = c.walk_one.ensures.sized ∙ ap length c.deref_mut.ensures.value in
    rw (take_at c.walk_one.new.visits _ c.loop-walker.visits.len len)
    (counting_goes c.args.lists.now c.args.starts.now c.args.spec.now c.args.first c.loop-walker.walker c.loop-walker.visits.items c.walk_one.new.visits c.loop-walker.invariant sized
    (rw c.deref_mut.ensures.value at c.walk_one.ensures.visits))

pub returns : goal.returns
returns c =
    let n : c.loop-walker.walker - c.args.first ≡ c.args.walkers = omega (arith, c.loop-walker.auto.walker-end (omega arith), c.loop-walker-test.false) in
    all_counted c.args.lists.now c.args.starts.now c.args.spec.now c.args.first c.args.walkers c.loop-walker.visits.items c.loop-walker.invariant.sized
    (λ node in_. c.loop-walker.invariant.counted node in_ ∙ ap (λ (x : ℕ). visits_from (listed c.args.lists.now) c.args.starts.now c.args.spec.now c.args.first x node) n)
