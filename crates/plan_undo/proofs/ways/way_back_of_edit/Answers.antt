use Rattle.std.specs.Prelude.{◌≡◌}
use Rattle.std.proofs.Common.{sym, ap, ◌∙◌}
use Rattle.plan_spec.specs.Edits.{why_not_edit, plan_after_edit}
use Rattle.plan_back.specs.Backs.{edit_name, name_of, plan_after_back}
use Rattle.plan_back.proofs.Backs.{back_makes, like_named}
use Rattle.plan_undo.proofs.ways.way_back_of_edit.Goals as goal

pub way_back-requires : goal.way_back-requires
way_back-requires c = record { shift = rw c.in_ok-back.ensures.like c.requires.shift }

pub returns : goal.returns
returns c =
    let p = c.args.plan.now in
    let e = c.args.edit.now in
    let makes : plan_after_back p c.in_ok-back.back ≡ plan_after_edit p e = ap (plan_after_back p) c.in_ok-back.ensures.back ∙ back_makes p e in
    let named : name_of c.in_ok-back.back ≡ edit_name e = sym (like_named c.in_ok-back.back) ∙ ap edit_name c.in_ok-back.ensures.like in
    λ none. rw (makes, named) at (c.way_back.ensures (ap (why_not_edit p) c.in_ok-back.ensures.like ∙ none))
