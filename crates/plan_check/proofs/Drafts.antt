-- What is known of a plan while its items are added.
use Rattle.std.specs.Prelude.{◌≡◌, ◌≤◌, true, false, IsTrue}
use Rattle.std.proofs.Common.{inl, inr, arith, ap, sym, ◌∙◌}
use Rattle.plan_spec.specs.declared.limits.TheConstants.{MAX_CORNERS}
use Rattle.plan_spec.specs.Plan.{Plan, has_outer, corner_count}
use Rattle.plan_spec.specs.Accepted.{is_sound}
use Rattle.plan_laws.proofs.Ranges.{sound_limits}
use Rattle.plan_check.specs.Kept.{IsDraft}

-- as soon as the outer polygon is there the plan is sound
pub begun_is_sound : (plan : Plan) → IsDraft plan → has_outer plan ≡ true → IsTrue (is_sound plan)
begun_is_sound plan (inl empty) begun = by (sym (ap has_outer empty) ∙ begun)
  where
    by : false ≡ true → IsTrue (is_sound plan)
    by e = cc
begun_is_sound plan (inr sound) begun = sound

pub few_corners : (plan : Plan) → IsDraft plan → corner_count plan ≤ MAX_CORNERS
few_corners plan (inl empty) = omega (arith, ap corner_count empty)
few_corners plan (inr sound) = (sound_limits plan sound).corners
