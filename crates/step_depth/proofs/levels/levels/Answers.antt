use Rattle.std.proofs.Common.{◌≡◌, ℕ, ◌+◌, ◌-◌, ◌*◌, ◌<◌, ◌∙◌, arith, Bool, List, subst, suc, refl, ◌&&◌}
use Rattle.std.specs.Prelude.{not}
use Rattle.vga_grid.specs.Rows.{bit_of, is_joined, graph_of}
use Rattle.vga_grid.specs.Sets.{size}
use Rattle.step_depth.specs.Levels.{IsLooked}
use Rattle.step_depth.proofs.Spreading.{finished, closed_after, left_empty, nothing, next_reached_small, next_total_small, spreading_next, spreading_first, front_nodes, left_nodes, found_count, reached_small}
use Rattle.step_depth.proofs.levels.levels.Goals as goal

-- a look that began with a copy
looked : (joins : ℕ → ℕ → Bool) (front : ℕ → Bool) (copy left : List ℕ) (missing : ℕ → Bool) → copy ≡ left → IsLooked joins front (bit_of copy) missing → IsLooked joins front (bit_of left) missing
looked joins front copy left missing same h = subst (λ ws. IsLooked joins front (bit_of ws) missing) same h

pub overflow_add-reached : goal.overflow_add-reached
overflow_add-reached c =
    let s = reached_small (graph_of c.args.graph.now) c.args.i c.len-n.ensures.simple c.requires.node (bit_of c.args.known.now) c.requires.closed c.requires.here 1 c.args.front.now c.args.left.now (1 + c.args.degree) c.args.degree (size c.args.left.now) (spreading_first (graph_of c.args.graph.now) c.args.i c.len-n.ensures.simple c.requires.node (bit_of c.args.known.now) c.requires.closed c.requires.here c.args.front.now c.args.left.now c.args.degree c.requires.front c.requires.level c.requires.degree c.requires.some) in
    omega (arith, s, c.len-n.ensures.at_most)

pub loop-todo-init : goal.loop-todo-init
loop-todo-init c =
    let deep : 1 < 1 + c.args.degree = omega (arith, c.requires.some) in
    rw (c.from-total.ensures, c.count-todo.ensures.value) (refl, refl, refl, refl, refl, (spreading_first (graph_of c.args.graph.now) c.args.i c.len-n.ensures.simple c.requires.node (bit_of c.args.known.now) c.requires.closed c.requires.here c.args.front.now c.args.left.now c.args.degree c.requires.front c.requires.level c.requires.degree c.requires.some), deep)

pub look-requires-clause-front_nodes : goal.look-requires-clause-front_nodes
look-requires-clause-front_nodes c = front_nodes (graph_of c.args.graph.now) c.args.i c.len-n.ensures.simple c.requires.node (bit_of c.args.known.now) c.requires.closed c.requires.here
    c.loop-todo.depth (bit_of c.loop-todo.front) (bit_of c.loop-todo.left) c.loop-todo.invariant.5.level

pub look-requires-clause-nodes : goal.look-requires-clause-nodes
look-requires-clause-nodes c = rw c.copy_from_slice.ensures.after (left_nodes (graph_of c.args.graph.now) c.args.i c.len-n.ensures.simple c.requires.node (bit_of c.args.known.now) c.requires.closed c.requires.here
    c.loop-todo.depth (bit_of c.loop-todo.front) (bit_of c.loop-todo.left) c.loop-todo.invariant.5.level)

pub overflow_sub-found : goal.overflow_sub-found
overflow_sub-found c = omega (arith, c.count-missing.ensures.value, found_count (graph_of c.args.graph.now) c.args.i c.len-n.ensures.simple c.requires.node (bit_of c.args.known.now) c.requires.closed c.requires.here c.loop-todo.depth c.loop-todo.front c.loop-todo.left c.loop-todo.reached c.loop-todo.total c.loop-todo.todo c.loop-todo.invariant.5 c.look.new.missing (c.loop-todo.invariant.1 ∙ c.requires.left) (c.look.auto.missing ∙ c.copy_from_slice.auto.self ∙ c.loop-todo.invariant.2 ∙ c.requires.next) (looked (is_joined c.args.graph.now) (bit_of c.loop-todo.front) c.copy_from_slice.new.self c.loop-todo.left (bit_of c.look.new.missing) c.copy_from_slice.ensures.after c.look.ensures))

pub returns-then-found-eq0-clause-reached : goal.returns-then-found-eq0-clause-reached
returns-then-found-eq0-clause-reached c = (finished (graph_of c.args.graph.now) c.args.i c.len-n.ensures.simple c.requires.node (bit_of c.args.known.now) c.requires.closed c.requires.here c.loop-todo.depth c.loop-todo.front c.loop-todo.left c.loop-todo.reached c.loop-todo.total c.loop-todo.todo c.loop-todo.invariant.5 (nothing (graph_of c.args.graph.now) c.args.i c.len-n.ensures.simple c.requires.node (bit_of c.args.known.now) c.requires.closed c.requires.here c.loop-todo.depth c.loop-todo.front c.loop-todo.left c.loop-todo.reached c.loop-todo.total c.loop-todo.todo c.loop-todo.invariant.5 c.look.new.missing (c.loop-todo.invariant.1 ∙ c.requires.left) (c.look.auto.missing ∙ c.copy_from_slice.auto.self ∙ c.loop-todo.invariant.2 ∙ c.requires.next) (looked (is_joined c.args.graph.now) (bit_of c.loop-todo.front) c.copy_from_slice.new.self c.loop-todo.left (bit_of c.look.new.missing) c.copy_from_slice.ensures.after c.look.ensures) (omega (arith, c.count-missing.ensures.value, c.if-found-eq0.true)))).0

pub returns-then-found-eq0-clause-total : goal.returns-then-found-eq0-clause-total
returns-then-found-eq0-clause-total c = (finished (graph_of c.args.graph.now) c.args.i c.len-n.ensures.simple c.requires.node (bit_of c.args.known.now) c.requires.closed c.requires.here c.loop-todo.depth c.loop-todo.front c.loop-todo.left c.loop-todo.reached c.loop-todo.total c.loop-todo.todo c.loop-todo.invariant.5 (nothing (graph_of c.args.graph.now) c.args.i c.len-n.ensures.simple c.requires.node (bit_of c.args.known.now) c.requires.closed c.requires.here c.loop-todo.depth c.loop-todo.front c.loop-todo.left c.loop-todo.reached c.loop-todo.total c.loop-todo.todo c.loop-todo.invariant.5 c.look.new.missing (c.loop-todo.invariant.1 ∙ c.requires.left) (c.look.auto.missing ∙ c.copy_from_slice.auto.self ∙ c.loop-todo.invariant.2 ∙ c.requires.next) (looked (is_joined c.args.graph.now) (bit_of c.loop-todo.front) c.copy_from_slice.new.self c.loop-todo.left (bit_of c.look.new.missing) c.copy_from_slice.ensures.after c.look.ensures) (omega (arith, c.count-missing.ensures.value, c.if-found-eq0.true)))).1

pub returns-then-found-eq0-clause-closed : goal.returns-then-found-eq0-clause-closed
returns-then-found-eq0-clause-closed c = closed_after (graph_of c.args.graph.now) c.args.i c.len-n.ensures.simple c.requires.node (bit_of c.args.known.now) c.requires.closed c.requires.here c.loop-todo.depth c.loop-todo.front c.loop-todo.left c.loop-todo.reached c.loop-todo.total c.loop-todo.todo c.loop-todo.invariant.5 (nothing (graph_of c.args.graph.now) c.args.i c.len-n.ensures.simple c.requires.node (bit_of c.args.known.now) c.requires.closed c.requires.here c.loop-todo.depth c.loop-todo.front c.loop-todo.left c.loop-todo.reached c.loop-todo.total c.loop-todo.todo c.loop-todo.invariant.5 c.look.new.missing (c.loop-todo.invariant.1 ∙ c.requires.left) (c.look.auto.missing ∙ c.copy_from_slice.auto.self ∙ c.loop-todo.invariant.2 ∙ c.requires.next) (looked (is_joined c.args.graph.now) (bit_of c.loop-todo.front) c.copy_from_slice.new.self c.loop-todo.left (bit_of c.look.new.missing) c.copy_from_slice.ensures.after c.look.ensures) (omega (arith, c.count-missing.ensures.value, c.if-found-eq0.true)))

pub overflow_add-reached-in-loop-todo : goal.overflow_add-reached-in-loop-todo
overflow_add-reached-in-loop-todo c =
    let s = next_reached_small (graph_of c.args.graph.now) c.args.i c.len-n.ensures.simple c.requires.node (bit_of c.args.known.now) c.requires.closed c.requires.here c.loop-todo.depth c.loop-todo.front c.loop-todo.left c.loop-todo.reached c.loop-todo.total c.loop-todo.todo c.loop-todo.invariant.5 c.look.new.missing (c.loop-todo.invariant.1 ∙ c.requires.left) (c.look.auto.missing ∙ c.copy_from_slice.auto.self ∙ c.loop-todo.invariant.2 ∙ c.requires.next) (looked (is_joined c.args.graph.now) (bit_of c.loop-todo.front) c.copy_from_slice.new.self c.loop-todo.left (bit_of c.look.new.missing) c.copy_from_slice.ensures.after c.look.ensures) in
    omega (arith, s, c.count-missing.ensures.value, c.len-n.ensures.at_most)

pub overflow_add-total : goal.overflow_add-total
overflow_add-total c =
    let r = reached_small (graph_of c.args.graph.now) c.args.i c.len-n.ensures.simple c.requires.node (bit_of c.args.known.now) c.requires.closed c.requires.here c.loop-todo.depth c.loop-todo.front c.loop-todo.left c.loop-todo.reached c.loop-todo.total c.loop-todo.todo c.loop-todo.invariant.5 in
    let s = next_total_small (graph_of c.args.graph.now) c.args.i c.len-n.ensures.simple c.requires.node (bit_of c.args.known.now) c.requires.closed c.requires.here c.loop-todo.depth c.loop-todo.front c.loop-todo.left c.loop-todo.reached c.loop-todo.total c.loop-todo.todo c.loop-todo.invariant.5 c.look.new.missing (c.loop-todo.invariant.1 ∙ c.requires.left) (c.look.auto.missing ∙ c.copy_from_slice.auto.self ∙ c.loop-todo.invariant.2 ∙ c.requires.next) (looked (is_joined c.args.graph.now) (bit_of c.loop-todo.front) c.copy_from_slice.new.self c.loop-todo.left (bit_of c.look.new.missing) c.copy_from_slice.ensures.after c.look.ensures) c.len-n.ensures.at_most (omega (arith, r, c.loop-todo.invariant.6, c.len-n.ensures.at_most)) in
    let e : c.loop-todo.total + c.from.result * c.from-in-loop-todo.result ≡ c.loop-todo.total + suc c.loop-todo.depth * (c.loop-todo.todo - size c.look.new.missing) = product c.loop-todo.total c.from.result c.from-in-loop-todo.result (suc c.loop-todo.depth) (c.loop-todo.todo - size c.look.new.missing) (omega (arith, c.from.ensures)) (omega (arith, c.from-in-loop-todo.ensures, c.count-missing.ensures.value)) in
    omega (arith, s, e)
  where
    product : (t a b x y : ℕ) → a ≡ x → b ≡ y → t + a * b ≡ t + x * y
    product t a b x y e f = rw (e, f) refl

pub loop-todo-preserved : goal.loop-todo-preserved
loop-todo-preserved c =
    let are : (v : ℕ) → bit_of c.assign_without.new.set v ≡ (bit_of c.loop-todo.left v && not (bit_of c.look.new.missing v)) = c.assign_without.ensures in
    let some : 0 < c.loop-todo.todo - size c.look.new.missing = omega (arith, c.count-missing.ensures.value, c.if-found-eq0.false) in
    let next = spreading_next (graph_of c.args.graph.now) c.args.i c.len-n.ensures.simple c.requires.node (bit_of c.args.known.now) c.requires.closed c.requires.here c.loop-todo.depth c.loop-todo.front c.loop-todo.left c.loop-todo.reached c.loop-todo.total c.loop-todo.todo c.loop-todo.invariant.5 c.look.new.missing (c.loop-todo.invariant.1 ∙ c.requires.left) (c.look.auto.missing ∙ c.copy_from_slice.auto.self ∙ c.loop-todo.invariant.2 ∙ c.requires.next) (looked (is_joined c.args.graph.now) (bit_of c.loop-todo.front) c.copy_from_slice.new.self c.loop-todo.left (bit_of c.look.new.missing) c.copy_from_slice.ensures.after c.look.ensures) c.assign_without.new.set are in
    let deep : c.loop-todo.depth + 1 < c.loop-todo.reached + (c.loop-todo.todo - size c.look.new.missing) = omega (arith, some, c.loop-todo.invariant.6) in (
      c.assign_without.auto.set ∙ c.loop-todo.invariant.0,
      c.copy_from_slice-in-loop-todo.auto.self ∙ c.loop-todo.invariant.1,
      c.look.auto.missing ∙ c.copy_from_slice.auto.self ∙ c.loop-todo.invariant.2,
      c.look.auto.rest ∙ c.loop-todo.invariant.3,
      c.look.auto.list ∙ c.loop-todo.invariant.4,
      rw (c.from.ensures, c.from-in-loop-todo.ensures, c.count-missing.ensures.value, c.copy_from_slice-in-loop-todo.ensures.after) next,
      omega (arith, deep, c.count-missing.ensures.value),
    )

pub returns-clause-reached : goal.returns-clause-reached
returns-clause-reached c = (finished (graph_of c.args.graph.now) c.args.i c.len-n.ensures.simple c.requires.node (bit_of c.args.known.now) c.requires.closed c.requires.here c.loop-todo.depth c.loop-todo.front c.loop-todo.left c.loop-todo.reached c.loop-todo.total c.loop-todo.todo c.loop-todo.invariant.5 (left_empty (graph_of c.args.graph.now) c.args.i c.len-n.ensures.simple c.requires.node (bit_of c.args.known.now) c.requires.closed c.requires.here c.loop-todo.depth c.loop-todo.front c.loop-todo.left c.loop-todo.reached c.loop-todo.total c.loop-todo.todo c.loop-todo.invariant.5 (omega (arith, c.loop-todo-test.false)))).0

pub returns-clause-total : goal.returns-clause-total
returns-clause-total c = (finished (graph_of c.args.graph.now) c.args.i c.len-n.ensures.simple c.requires.node (bit_of c.args.known.now) c.requires.closed c.requires.here c.loop-todo.depth c.loop-todo.front c.loop-todo.left c.loop-todo.reached c.loop-todo.total c.loop-todo.todo c.loop-todo.invariant.5 (left_empty (graph_of c.args.graph.now) c.args.i c.len-n.ensures.simple c.requires.node (bit_of c.args.known.now) c.requires.closed c.requires.here c.loop-todo.depth c.loop-todo.front c.loop-todo.left c.loop-todo.reached c.loop-todo.total c.loop-todo.todo c.loop-todo.invariant.5 (omega (arith, c.loop-todo-test.false)))).1

pub returns-clause-closed : goal.returns-clause-closed
returns-clause-closed c = closed_after (graph_of c.args.graph.now) c.args.i c.len-n.ensures.simple c.requires.node (bit_of c.args.known.now) c.requires.closed c.requires.here c.loop-todo.depth c.loop-todo.front c.loop-todo.left c.loop-todo.reached c.loop-todo.total c.loop-todo.todo c.loop-todo.invariant.5 (left_empty (graph_of c.args.graph.now) c.args.i c.len-n.ensures.simple c.requires.node (bit_of c.args.known.now) c.requires.closed c.requires.here c.loop-todo.depth c.loop-todo.front c.loop-todo.left c.loop-todo.reached c.loop-todo.total c.loop-todo.todo c.loop-todo.invariant.5 (omega (arith, c.loop-todo-test.false)))
