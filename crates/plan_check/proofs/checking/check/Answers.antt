use Rattle.std.specs.Prelude.{◌≡◌, length}
use Rattle.std.proofs.Common.{sym, arith, ◌∙◌}
use Rattle.std.proofs.lemmas.List.{drop_more}
use Rattle.plan_check.proofs.Counts.{few_parts}
use Rattle.plan_check.proofs.Drafts.{begun_is_sound}
use Rattle.plan_check.proofs.Underway.{underway_on, underway_stops, underway_ends, underway_fails, accepted, not_accepted}
use Rattle.plan_check.proofs.checking.check.Goals as goal

pub overflow_cast-result : goal.overflow_cast-result
overflow_cast-result c = omega (arith, few_parts c.loop-number.draft c.loop-number.invariant.is_draft)

pub overflow_cast-result-then-not-has_outer : goal.overflow_cast-result-then-not-has_outer
overflow_cast-result-then-not-has_outer c = omega (arith, few_parts c.loop-number.draft c.loop-number.invariant.is_draft)

pub returns-in-Some-clause-bad : goal.returns-in-Some-clause-bad
returns-in-Some-clause-bad c =
    let items = c.as_slice-items.result.now in
    let next = rw (← c.index-items-number.is) at (drop_more items c.loop-number.number c.index-items-number.result c.loop-number-test.true) in
    rw (← c.as_slice-items.ensures)
    (underway_stops items c.loop-number.number c.loop-number.draft c.index-items-number.result c.in-Some.why c.loop-number.invariant next (sym c.why_not_item.ensures ∙ c.in-Some.is))

pub returns-in-Some-clause-not_accepted : goal.returns-in-Some-clause-not_accepted
returns-in-Some-clause-not_accepted c =
    not_accepted c.args.given.now.items (c.loop-number.number, c.in-Some.why) (returns-in-Some-clause-bad c)

pub loop-number-preserved : goal.loop-number-preserved
loop-number-preserved c =
    let items = c.as_slice-items.result.now in
    let next = rw (← c.index-items-number.is) at (drop_more items c.loop-number.number c.index-items-number.result c.loop-number-test.true) in
    underway_on items c.loop-number.number c.loop-number.draft c.add_item.new.draft c.index-items-number.result c.loop-number.invariant next (sym c.why_not_item.ensures ∙ c.in_default.is) c.in_ok-add_item.ensures.ok

pub returns-then-not-has_outer-clause-bad : goal.returns-then-not-has_outer-clause-bad
returns-then-not-has_outer-clause-bad c =
    let number : c.loop-number.number ≡ length c.as_slice-items.result.now = omega arith in
    rw (← c.as_slice-items.ensures, ← number)
    (underway_fails c.as_slice-items.result.now c.loop-number.number c.loop-number.draft c.loop-number.invariant c.loop-number-test.false (sym c.has_outer.ensures ∙ c.if-not-has_outer.true))

pub returns-then-not-has_outer-clause-not_accepted :
    goal.returns-then-not-has_outer-clause-not_accepted
returns-then-not-has_outer-clause-not_accepted c =
    not_accepted c.args.given.now.items _ (returns-then-not-has_outer-clause-bad c)

pub of_sound-requires : goal.of_sound-requires
of_sound-requires c = begun_is_sound c.loop-number.draft c.loop-number.invariant.is_draft (sym c.has_outer.ensures ∙ c.if-not-has_outer.false)

pub returns-clause-plan : goal.returns-clause-plan
returns-clause-plan c =
    rw (← c.as_slice-items.ensures, c.of_sound.ensures)
    (underway_ends c.as_slice-items.result.now c.loop-number.number c.loop-number.draft c.loop-number.invariant c.loop-number-test.false (sym c.has_outer.ensures ∙ c.if-not-has_outer.false))

pub returns-clause-accepted : goal.returns-clause-accepted
returns-clause-accepted c = accepted c.args.given.now.items c.of_sound.result (returns-clause-plan c)
