-- Where nothing refuses.
use Rattle.std.specs.Prelude.{◌≡◌, Bool, true, false, ◌&&◌, Option, Some, None, is_none}
use Rattle.std.proofs.Common.{refl, sym, ap, ◌∙◌, arith}
use Rattle.plan_spec.specs.declared.edit.Edit.{Edit}
use Rattle.plan_spec.specs.declared.why.Why.{Why}
use Rattle.plan_spec.specs.Plan.{Plan}
use Rattle.plan_spec.specs.Accepted.{is_sound}
use Rattle.plan_spec.specs.Edits.{is_there, why_not_edit, plan_after_edit}
use Rattle.plan_laws.proofs.Edits.Refused.{sound_where_edited}

pub none_is : (o : Option Why) → is_none o ≡ true → o ≡ None
none_is None e = refl
none_is (Some why) e = cc

-- an edit of a sound plan isn't refused where what it names is there and the plan after it is sound
pub not_refused : (p : Plan) (e : Edit) → is_sound p ≡ true → is_there p e ≡ true → is_sound (plan_after_edit p e) ≡ true → why_not_edit p e ≡ None
not_refused p e sound there after =
    none_is (why_not_edit p e) (sound_where_edited p e sound ∙ both (is_there p e) (is_sound (plan_after_edit p e)) there after)
  where
    both : (a b : Bool) → a ≡ true → b ≡ true → (a && b) ≡ true
    both a b h k = grind arith

-- what isn't refused names what is there, and leaves a sound plan
pub there_and_sound : (p : Plan) (e : Edit) → is_sound p ≡ true → why_not_edit p e ≡ None → (is_there p e ≡ true) × (is_sound (plan_after_edit p e) ≡ true)
there_and_sound p e sound none =
    parts (is_there p e) (is_sound (plan_after_edit p e)) (sym (sound_where_edited p e sound) ∙ ap is_none none)
  where
    parts : (a b : Bool) → (a && b) ≡ true → (a ≡ true) × (b ≡ true)
    parts true true h = (refl, refl)
    parts true false h = cc
    parts false b h = cc
