use Rattle.std.proofs.Common.{◌≡◌, ◌+◌, ◌∙◌, ℕ, get_or, ap, arith}
use Rattle.walk_spec.specs.Walks.{visits_by}
use Rattle.walk_core.specs.Lists.{listed}
use Rattle.walk_core.proofs.Walking.{start_below, walking_begins, walking_goes, has_room, visited}
use Rattle.walk_core.proofs.walkers.walk_one.Goals as goal

pub bounds-visits-first : goal.bounds-visits-first
bounds-visits-first c =
    let below = start_below c.args.lists.now.count c.start-first.result c.args.starts.now c.generator-generator.result c.start-first.new.generator c.requires.some c.requires.starts c.start-first.ensures in
    omega (arith, below, c.requires.sized)

pub bounds-visits-first-2 : goal.bounds-visits-first-2
bounds-visits-first-2 c =
    let below = start_below c.args.lists.now.count c.start-first.result c.args.starts.now c.generator-generator.result c.start-first.new.generator c.requires.some c.requires.starts c.start-first.ensures in
    omega (arith, below, c.requires.sized)

pub steps-init : goal.steps-init
steps-init c =
    let below = start_below c.args.lists.now.count c.start-first.result c.args.starts.now c.generator-generator.result c.start-first.new.generator c.requires.some c.requires.starts c.start-first.ensures in (
      below,
      walking_begins c.args.lists.now c.args.starts.now c.args.spec.now.seed c.args.walker c.args.visits.now c.start-first.result c.generator-generator.result c.start-first.new.generator
          c.generator-generator.ensures c.start-first.ensures c.requires.sized (omega (arith, below, c.requires.sized)),
    )

pub step-at-requires : goal.step-at-requires
step-at-requires c = c.steps.invariant.0

pub overflow_add-visits-in-steps : goal.overflow_add-visits-in-steps
overflow_add-visits-in-steps c =
    let room = has_room c.args.lists.now c.args.starts.now c.args.spec.now.seed c.args.walker c.args.visits.now c.steps.visits c.steps.counter c.steps.at c.step-at.result c.steps.generator
    c.steps.invariant.1 c.step-at.ensures.below (c.requires.room c.step-at.result c.step-at.ensures.below) (omega (arith, c.requires.steps, c.steps-test.true)) in
    omega (arith, room)

pub steps-preserved : goal.steps-preserved
steps-preserved c = (
  c.step-at.ensures.below,
  walking_goes c.args.lists.now c.args.starts.now c.args.spec.now.seed c.args.walker c.args.visits.now c.steps.visits c.steps.counter c.steps.at c.step-at.result c.steps.generator c.step-at.new.generator
      c.steps.invariant.1 c.step-at.ensures.walker (omega (arith, c.steps.invariant.1.sized, c.step-at.ensures.below)),
)

pub returns-clause-visits : goal.returns-clause-visits
unfolding visits_by
returns-clause-visits c = λ node in_.
    let e : c.steps.counter ≡ c.args.spec.now.steps = omega (arith, c.steps-test.false, c.steps.auto.counter-end) in
    c.steps.invariant.1.counted node in_
    ∙ ap (λ (k : ℕ). get_or c.args.visits.now node 0 + visited (listed c.args.lists.now) c.args.starts.now c.args.spec.now.seed c.args.walker node (k + 1)) e
