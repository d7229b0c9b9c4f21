use Rattle.std.specs.Prelude.{not}
use Rattle.std.proofs.Common.{◌≡◌, ℕ, ◌+◌, ◌∙◌, ◌&&◌, Bool, eqb, ap, length, refl, arith, List, subst}
use Rattle.std.proofs.lemmas.Bool.{lt-ltb}
use Rattle.vga_grid.specs.Rows.{width, bit_of, is_joined, graph_of}
use Rattle.vga_grid.specs.Sets.{size}
use Rattle.step_depth.specs.Levels.{IsLooked}
use Rattle.step_depth.proofs.Spreading.{reached_within, total_within, left_empty, nothing, spreading_next, front_nodes, left_nodes, found_count, level_one}
use Rattle.step_depth.proofs.Marks.{marks_first, marks_more, all_marked, spreading_again, all_closed}
use Rattle.step_depth.proofs.marking.mark_levels.Goals as goal

-- a look that began with a copy
looked : (joins : ℕ → ℕ → Bool) (front : ℕ → Bool) (copy left : List ℕ) (missing : ℕ → Bool) → copy ≡ left → IsLooked joins front (bit_of copy) missing → IsLooked joins front (bit_of left) missing
looked joins front copy left missing same h = subst (λ ws. IsLooked joins front (bit_of ws) missing) same h

pub loop-todo-init : goal.loop-todo-init
loop-todo-init c =
    let level = level_one (graph_of c.args.graph.now) c.args.i c.len-n.ensures.simple c.requires.node (bit_of c.args.known.now) (bit_of c.row-row.result.now) (bit_of c.remove.new.set)
    (all_closed (graph_of c.args.graph.now) (bit_of c.args.known.now) c.len-n.ensures.simple c.requires.all) (c.requires.all c.args.i ∙ lt-ltb c.args.i c.args.graph.now.count c.requires.node)
    c.row-row.ensures.bits (λ v. c.remove.ensures v ∙ ap (λ x. x && not (eqb v c.args.i)) (c.assign_without.ensures v)) in
    let first = marks_first (graph_of c.args.graph.now) c.args.i c.args.marks.now c.len-n.ensures.simple c.requires.node c.requires.source c.requires.none in
    let marks = rw c.copy_from_slice.ensures.after at c.mark.ensures in
    let few : length c.remove.new.set ≡ width c.args.graph.now.count = c.remove.auto.set ∙ c.assign_without.auto.set ∙ c.requires.left in (
      c.copy_from_slice.auto.self,
      c.remove.auto.set ∙ c.assign_without.auto.set,
      refl,
      refl,
      refl,
      record {
        spreading = record { level = rw c.copy_from_slice.ensures.after level; reached_is = refl; total_is = refl; todo_is = c.count-todo.ensures.value };
        one_each = c.mark.auto.marks ∙ c.requires.marks;
        marked = marks_more (graph_of c.args.graph.now) c.args.i 0 (bit_of c.row-row.result.now) c.args.marks.now c.mark.new.marks level.ahead marks first;
        short = omega (arith, c.count-todo.ensures.few, few, c.len-n.ensures.at_most);
      },
    )

pub look-requires-clause-front_nodes : goal.look-requires-clause-front_nodes
look-requires-clause-front_nodes c = front_nodes (graph_of c.args.graph.now) c.args.i c.len-n.ensures.simple c.requires.node (bit_of c.args.known.now) (all_closed (graph_of c.args.graph.now) (bit_of c.args.known.now) c.len-n.ensures.simple c.requires.all) (c.requires.all c.args.i ∙ lt-ltb c.args.i c.args.graph.now.count c.requires.node) c.loop-todo.depth (bit_of c.loop-todo.front) (bit_of c.loop-todo.left) c.loop-todo.invariant.5.spreading.level

pub look-requires-clause-nodes : goal.look-requires-clause-nodes
look-requires-clause-nodes c = rw c.copy_from_slice-in-loop-todo.ensures.after (left_nodes (graph_of c.args.graph.now) c.args.i c.len-n.ensures.simple c.requires.node (bit_of c.args.known.now) (all_closed (graph_of c.args.graph.now) (bit_of c.args.known.now) c.len-n.ensures.simple c.requires.all) (c.requires.all c.args.i ∙ lt-ltb c.args.i c.args.graph.now.count c.requires.node) c.loop-todo.depth (bit_of c.loop-todo.front) (bit_of c.loop-todo.left) c.loop-todo.invariant.5.spreading.level)

pub overflow_sub-todo : goal.overflow_sub-todo
overflow_sub-todo c = omega (arith, c.count-missing.ensures.value, found_count (graph_of c.args.graph.now) c.args.i c.len-n.ensures.simple c.requires.node (bit_of c.args.known.now) (all_closed (graph_of c.args.graph.now) (bit_of c.args.known.now) c.len-n.ensures.simple c.requires.all) (c.requires.all c.args.i ∙ lt-ltb c.args.i c.args.graph.now.count c.requires.node) c.loop-todo.depth c.loop-todo.front c.loop-todo.left (reached_within (graph_of c.args.graph.now) c.args.i c.loop-todo.depth) (total_within (graph_of c.args.graph.now) c.args.i c.loop-todo.depth) c.loop-todo.todo c.loop-todo.invariant.5.spreading c.look.new.missing (c.loop-todo.invariant.1 ∙ c.requires.left) (c.look.auto.missing ∙ c.copy_from_slice-in-loop-todo.auto.self ∙ c.loop-todo.invariant.2 ∙ c.requires.next) (looked (is_joined c.args.graph.now) (bit_of c.loop-todo.front) c.copy_from_slice-in-loop-todo.new.self c.loop-todo.left (bit_of c.look.new.missing) c.copy_from_slice-in-loop-todo.ensures.after c.look.ensures))

pub returns-then-todo-missing-eq0 : goal.returns-then-todo-missing-eq0
returns-then-todo-missing-eq0 c = all_marked (graph_of c.args.graph.now) c.args.i c.loop-todo.depth c.loop-todo.marks c.loop-todo.invariant.5.one_each c.loop-todo.invariant.5.marked (nothing (graph_of c.args.graph.now) c.args.i c.len-n.ensures.simple c.requires.node (bit_of c.args.known.now) (all_closed (graph_of c.args.graph.now) (bit_of c.args.known.now) c.len-n.ensures.simple c.requires.all) (c.requires.all c.args.i ∙ lt-ltb c.args.i c.args.graph.now.count c.requires.node) c.loop-todo.depth c.loop-todo.front c.loop-todo.left (reached_within (graph_of c.args.graph.now) c.args.i c.loop-todo.depth) (total_within (graph_of c.args.graph.now) c.args.i c.loop-todo.depth) c.loop-todo.todo c.loop-todo.invariant.5.spreading c.look.new.missing (c.loop-todo.invariant.1 ∙ c.requires.left) (c.look.auto.missing ∙ c.copy_from_slice-in-loop-todo.auto.self ∙ c.loop-todo.invariant.2 ∙ c.requires.next) (looked (is_joined c.args.graph.now) (bit_of c.loop-todo.front) c.copy_from_slice-in-loop-todo.new.self c.loop-todo.left (bit_of c.look.new.missing) c.copy_from_slice-in-loop-todo.ensures.after c.look.ensures) (omega (arith, c.count-missing.ensures.value, c.if-todo-missing-eq0.true)))

pub loop-todo-preserved : goal.loop-todo-preserved
loop-todo-preserved c =
    let are : (v : ℕ) → bit_of c.assign_without-in-loop-todo.new.set v ≡ (bit_of c.loop-todo.left v && not (bit_of c.look.new.missing v)) = c.assign_without-in-loop-todo.ensures in
    let next = spreading_next (graph_of c.args.graph.now) c.args.i c.len-n.ensures.simple c.requires.node (bit_of c.args.known.now) (all_closed (graph_of c.args.graph.now) (bit_of c.args.known.now) c.len-n.ensures.simple c.requires.all) (c.requires.all c.args.i ∙ lt-ltb c.args.i c.args.graph.now.count c.requires.node) c.loop-todo.depth c.loop-todo.front c.loop-todo.left (reached_within (graph_of c.args.graph.now) c.args.i c.loop-todo.depth) (total_within (graph_of c.args.graph.now) c.args.i c.loop-todo.depth) c.loop-todo.todo c.loop-todo.invariant.5.spreading c.look.new.missing (c.loop-todo.invariant.1 ∙ c.requires.left) (c.look.auto.missing ∙ c.copy_from_slice-in-loop-todo.auto.self ∙ c.loop-todo.invariant.2 ∙ c.requires.next) (looked (is_joined c.args.graph.now) (bit_of c.loop-todo.front) c.copy_from_slice-in-loop-todo.new.self c.loop-todo.left (bit_of c.look.new.missing) c.copy_from_slice-in-loop-todo.ensures.after c.look.ensures) c.assign_without-in-loop-todo.new.set are in
    let again = spreading_again (graph_of c.args.graph.now) c.args.i (bit_of c.args.known.now) (c.loop-todo.depth + 1) c.assign_without-in-loop-todo.new.set c.look.new.missing _ _ (size c.look.new.missing) next in (
      c.assign_without-in-loop-todo.auto.set ∙ c.loop-todo.invariant.0,
      c.copy_from_slice-in-loop-todo-2.auto.self ∙ c.loop-todo.invariant.1,
      c.look.auto.missing ∙ c.copy_from_slice-in-loop-todo.auto.self ∙ c.loop-todo.invariant.2,
      c.look.auto.rest ∙ c.loop-todo.invariant.3,
      c.look.auto.list ∙ c.loop-todo.invariant.4,
      record {
        spreading = rw (c.count-missing.ensures.value, c.copy_from_slice-in-loop-todo-2.ensures.after) again;
        one_each = c.mark-in-loop-todo.auto.marks ∙ c.loop-todo.invariant.5.one_each;
        marked = marks_more (graph_of c.args.graph.now) c.args.i c.loop-todo.depth (bit_of c.assign_without-in-loop-todo.new.set) c.loop-todo.marks c.mark-in-loop-todo.new.marks again.level.ahead c.mark-in-loop-todo.ensures c.loop-todo.invariant.5.marked;
        short = omega (arith, c.loop-todo.invariant.5.short, c.if-todo-missing-eq0.false);
      },
    )

pub returns : goal.returns
returns c = all_marked (graph_of c.args.graph.now) c.args.i c.loop-todo.depth c.loop-todo.marks c.loop-todo.invariant.5.one_each c.loop-todo.invariant.5.marked (left_empty (graph_of c.args.graph.now) c.args.i c.len-n.ensures.simple c.requires.node (bit_of c.args.known.now) (all_closed (graph_of c.args.graph.now) (bit_of c.args.known.now) c.len-n.ensures.simple c.requires.all) (c.requires.all c.args.i ∙ lt-ltb c.args.i c.args.graph.now.count c.requires.node) c.loop-todo.depth c.loop-todo.front c.loop-todo.left (reached_within (graph_of c.args.graph.now) c.args.i c.loop-todo.depth) (total_within (graph_of c.args.graph.now) c.args.i c.loop-todo.depth) c.loop-todo.todo c.loop-todo.invariant.5.spreading (omega (arith, c.loop-todo-test.false)))
