use Rattle.std.specs.Prelude.{◌≡◌, [], ◌∷◌, ◌++◌}
use Rattle.std.proofs.Common.{sym}
use Rattle.plan_back.specs.Backs.{name_of, plan_after_back}
use Rattle.plan_undo.specs.Ways.{IsWayBack}
use Rattle.plan_undo.specs.History.{without_last}
use Rattle.plan_undo.proofs.Ends.{last_splits, no_last}
use Rattle.plan_undo.proofs.Leads.{last_way, cant_be_refused, one_more_kept}
use Rattle.plan_undo.proofs.stepping.step.Goals as goal

pub returns-in_default-clause-nothing : goal.returns-in_default-clause-nothing
returns-in_default-clause-nothing g c = λ _. no_last c.args.from.now.items (sym c.in_default.ensures)

pub way_back-requires : goal.way_back-requires
way_back-requires g c =
    record { shift = (last_way (g.E.Editor.plan c.args.editor.now) c.args.from.now.items c.in-Some.back.now c.requires.ways (sym c.in-Some.ensures)).shift }

pub apply_back-requires-clause-place : goal.apply_back-requires-clause-place
apply_back-requires-clause-place g c =
    (last_way (g.E.Editor.plan c.args.editor.now) c.args.from.now.items c.in-Some.back.now c.requires.ways (sym c.in-Some.ensures)).place

pub apply_back-requires-clause-shift : goal.apply_back-requires-clause-shift
apply_back-requires-clause-shift g c =
    (last_way (g.E.Editor.plan c.args.editor.now) c.args.from.now.items c.in-Some.back.now c.requires.ways (sym c.in-Some.ensures)).shift

pub unreachable-requires : goal.unreachable-requires
unreachable-requires g c =
    let way = last_way (g.E.Editor.plan c.args.editor.now) c.args.from.now.items c.in-Some.back.now c.requires.ways (sym c.in-Some.ensures) in
    cant_be_refused (g.E.Editor.plan c.args.editor.now) c.in-Some.back.now c.in-Err-Refused.field-0-0 way
    (rw c.in-Err-Refused.field-0-is at c.in-Err-Refused.ensures.refused)

pub returns-clause-step : goal.returns-clause-step
returns-clause-step g c =
    let p = g.E.Editor.plan c.args.editor.now in
    let from = c.args.from.now.items in
    let back = c.in-Some.back.now in
    let way = last_way p from back c.requires.ways (sym c.in-Some.ensures) in
    let splits : from ≡ without_last from ++ back ∷ [] = last_splits from back (sym c.in-Some.ensures) in
    let after : g.E.Editor.plan c.apply_back.new.self ≡ plan_after_back p back = c.in-Ok.ensures.plan in
    let other : IsWayBack p (plan_after_back p back) (name_of back) c.in_ok-other.other = (rw c.plan_now.ensures at c.in_ok-other.ensures) way.valid in
    record {
      back = back;
      other = c.in_ok-other.other;
      from_is = rw c.pop_back.ensures.items splits;
      to_is = rw c.push_back.ensures.items (one_more_kept from back c.args.to.now c.in_ok-other.other splits c.requires.room);
      after_is = after;
      name_is = c.name-name.ensures;
      way_back = rw (after, c.name-name.ensures) other;
    }
