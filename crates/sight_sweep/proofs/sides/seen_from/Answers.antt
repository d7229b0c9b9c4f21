use Rattle.std.proofs.Common.{rules, arith, ◌≡◌, ◌∙◌, ap, sym, pos}
use Rattle.std.specs.Prelude.{true, false, int_lt, Some}
use Rattle.std.proofs.lemmas.Int.{ints}
use Rattle.plane_spec.specs.Vectors.{cross_of, vector}
use Rattle.sight_sweep.proofs.Seeing.{edge_between, turned_up, seen_left, seen_right, unseen, not_both}
use Rattle.sight_sweep.proofs.sides.seen_from.Goals as goal

pub blocker-requires-clause-edge_is : goal.blocker-requires-clause-edge_is
blocker-requires-clause-edge_is c =
    c.vector.ensures.value ∙ edge_between c.args.p c.args.line.now.a c.args.line.now.b
    ∙ ap (λ x. vector x (vector c.args.p c.args.line.now.b)) (sym c.vector-a.ensures.value)
    ∙ ap (vector c.vector-a.result) (sym c.vector-b.ensures.value)

pub blocker-requires-then-is_negative-clause-edge_is : goal.blocker-requires-then-is_negative-clause-edge_is
blocker-requires-then-is_negative-clause-edge_is c =
    c.vector-then-is_negative.ensures.value ∙ edge_between c.args.p c.args.line.now.b c.args.line.now.a
    ∙ ap (λ x. vector x (vector c.args.p c.args.line.now.a)) (sym c.vector-b.ensures.value)
    ∙ ap (vector c.vector-b.result) (sym c.vector-a.ensures.value)

pub blocker-requires-then-is_negative-clause-up : goal.blocker-requires-then-is_negative-clause-up
blocker-requires-then-is_negative-clause-up c =
    let spread : int_lt (cross_of c.vector-a.result c.vector-b.result) (pos 0) ≡ true = search rules in
    turned_up c.vector-a.result c.vector-b.result (omega (arith, ints, spread))

pub returns-then-is_positive-clause-seen : goal.returns-then-is_positive-clause-seen
returns-then-is_positive-clause-seen c =
    let test : int_lt (pos 0) (cross_of (vector c.args.p c.args.line.now.a) (vector c.args.p c.args.line.now.b))
    ≡ true = search rules in
    ap Some (c.blocker.ensures.seen ∙ ap (λ x. record { from = x; to = c.vector-b.result }) c.vector-a.ensures.value
    ∙ ap (λ x. record { from = vector c.args.p c.args.line.now.a; to = x }) c.vector-b.ensures.value)
    ∙ seen_left c.args.p c.args.line.now test

pub returns-then-is_negative-clause-seen : goal.returns-then-is_negative-clause-seen
returns-then-is_negative-clause-seen c =
    let test : int_lt (pos 0) (cross_of (vector c.args.p c.args.line.now.a) (vector c.args.p c.args.line.now.b))
    ≡ false = search rules in
    let other : int_lt (cross_of (vector c.args.p c.args.line.now.a) (vector c.args.p c.args.line.now.b)) (pos 0)
    ≡ true = search rules in
    ap Some (c.blocker-then-is_negative.ensures.seen
    ∙ ap (λ x. record { from = x; to = c.vector-a.result }) c.vector-b.ensures.value
    ∙ ap (λ x. record { from = vector c.args.p c.args.line.now.b; to = x }) c.vector-a.ensures.value)
    ∙ seen_right c.args.p c.args.line.now test other

pub returns-then-is_negative-clause-hides : goal.returns-then-is_negative-clause-hides
returns-then-is_negative-clause-hides c =
    let test : int_lt (pos 0) (cross_of (vector c.args.p c.args.line.now.a) (vector c.args.p c.args.line.now.b))
    ≡ false = search rules in
    c.blocker-then-is_negative.ensures.hides
    ∙ sym (not_both c.args.is_wall
    (int_lt (pos 0) (cross_of (vector c.args.p c.args.line.now.a) (vector c.args.p c.args.line.now.b))) test)

pub returns-else-is_negative-clause-seen : goal.returns-else-is_negative-clause-seen
returns-else-is_negative-clause-seen c =
    let test : int_lt (pos 0) (cross_of (vector c.args.p c.args.line.now.a) (vector c.args.p c.args.line.now.b))
    ≡ false = search rules in
    let other : int_lt (cross_of (vector c.args.p c.args.line.now.a) (vector c.args.p c.args.line.now.b)) (pos 0)
    ≡ false = search rules in
    unseen c.args.p c.args.line.now test other
