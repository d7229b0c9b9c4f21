-- How many items were added so far: a sound plan has at most 770.
use Rattle.std.specs.Prelude.{ℕ, ◌+◌, ◌≤◌, Bool, true, false, length, is_some, if◌then◌else◌}
use Rattle.std.proofs.Common.{inl, inr, arith, ap}
use Rattle.plan_spec.specs.Plan.{Plan, has_outer}
use Rattle.plan_laws.proofs.Ranges.{sound_limits}
use Rattle.plan_check.specs.Kept.{IsDraft}

abbrev pub one_if : Bool → ℕ
one_if test = if test then 1 else 0

abbrev pub part_count : Plan → ℕ
part_count plan = one_if (has_outer plan) + one_if (is_some plan.grid) + length plan.obstacles + length plan.screens + length plan.routes

at_most_one : (test : Bool) → one_if test ≤ 1
at_most_one true = omega arith
at_most_one false = omega arith

pub few_parts : (plan : Plan) → IsDraft plan → part_count plan ≤ 770
few_parts plan (inl empty) = omega (arith, ap part_count empty)
few_parts plan (inr sound) =
    let limits = sound_limits plan sound in
    omega (arith, at_most_one (has_outer plan), at_most_one (is_some plan.grid))
