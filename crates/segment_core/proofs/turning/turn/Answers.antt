use Rattle.std.proofs.Common.{◌≡◌, cond, sym, ap, ◌∙◌}
use Rattle.route_spec.specs.Routes.{is_straight_back}
use Rattle.segment_core.proofs.Table.{turn_is}
use Rattle.segment_core.proofs.turning.turn.Goals.{then-is_straight_back, else-is_straight_back}
use Rattle.segment_core.proofs.turning.turn.Goals as goal

pub returns-clause-value : goal.returns-clause-value
returns-clause-value c =
    let back : c.if-is_straight_back.back ≡ cond
    (is_straight_back c.relative_direction-r.result) 1 0 = elim c.if-is_straight_back.branch [
      | then-is_straight_back w ↦ w.back-is ∙ ap (λ b. cond b 1 0) (sym (sym c.is_straight_back.ensures
          ∙ w.if-is_straight_back.true))
      | else-is_straight_back w ↦ w.back-is ∙ ap (λ b. cond b 1 0) (sym (sym c.is_straight_back.ensures
          ∙ w.if-is_straight_back.false))
    ] in
    turn_is c.args.d c.args.e c.relative_direction-r.result c.if-is_straight_back.back _ _ _ _ _ _ _ _ _ _ _ _ _ _ _
    c.relative_direction-r.ensures.value
    c.passed.ensures.value c.passed-2.ensures.value c.passed-3.ensures.value c.passed-4.ensures.value
    c.passed-5.ensures.value c.passed-6.ensures.value c.passed-7.ensures.value c.passed-8.ensures.value
    c.passed-9.ensures.value c.passed-10.ensures.value c.passed-11.ensures.value c.passed-12.ensures.value
    c.passed-13.ensures.value c.passed-14.ensures.value c.passed-15.ensures.value back
