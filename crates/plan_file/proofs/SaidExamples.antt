-- A line that was said, worked out.
use Rattle.std.proofs.Common.{◌≡◌, ℕ, codes, refl}
use Rattle.report_spec.specs.declared.reason.Reason.{Reason}
use Rattle.report_spec.specs.Messages.{plan_message, plan_message_by}

-- that of the program `depthmap`
pub message-of_depthmap : (line : ℕ) (reason : Reason) → plan_message_by (codes "depthmap") line reason ≡ plan_message line reason
message-of_depthmap line reason = refl
