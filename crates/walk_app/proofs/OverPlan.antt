-- How the table of a plan's walkers ends a run.
use Rattle.std.proofs.Common.{◌≡◌, ◌⊎◌, inl, inr, ◌-◌, ◌^◌, ◌<◌, ℕ, Result, Ok, Err, refl, ap, subst, arith}
use Rattle.dm_io.specs.Streams.{Rose}
use Rattle.plan_spec.specs.Plan.{Plan}
use Rattle.plan_file.specs.Streams.{OnlyOutFailed, Streams}
use Rattle.plan_file.specs.declared.reading.PlanFault.{PlanFault}
use Rattle.plan_file.specs.declared.reading.PlanFault.TheVariants.{Unread}
use Rattle.walk_spec.specs.declared.WalkSpec.{WalkSpec}
use Rattle.walk_app.specs.Ends.{EndsOverPlan, counts_of}
use Rattle.walk_app.specs.declared.status.WalkStatus.{WalkStatus}
use Rattle.walk_app.specs.declared.status.WalkStatus.TheVariants.{BadPlan}

-- the output's count stays
pub same_counts : (files outs outs_after : ℕ) → outs_after ≡ outs → counts_of files outs_after ≡ counts_of files outs
same_counts files outs outs_after o = ap (λ f. counts_of files f) o

-- it rises, and below its type's end that is by one
pub out_failed : (files outs outs_after : ℕ) → Rose outs outs_after → outs < 2 ^ 64 - 1
    → OnlyOutFailed (counts_of files outs) (counts_of files outs_after)
out_failed files outs outs_after rose below = (refl, refl, omega (arith, rose, below))

-- a plan that was read is no fault, so the count of the files stays
pub read_stays : (plan : Plan) (before after : ℕ) → ◌≡◌ {A = Result Plan PlanFault} (Ok plan) (Err Unread) ⊎ (after ≡ before) → after ≡ before
read_stays plan before after (inl e) = absurd cc
read_stays plan before after (inr same) = same

-- once a plan is held it isn't refused
pub not_refused : (plan : Plan) (spec : WalkSpec) (old new : Streams) (status : WalkStatus) → EndsOverPlan plan spec old new status
    → status ≡ BadPlan → ⊥
not_refused plan spec old new status e bad = subst (EndsOverPlan plan spec old new) bad e
