use Rattle.line_laws.specs.Lines.{comes_before}
use Rattle.axial_lines.proofs.Merging.{more_merged}
use Rattle.axial_lines.proofs.update.kept_and_fresh.Goals as goal

pub returns-in-Err-clause-too_many : goal.returns-in-Err-clause-too_many
returns-in-Err-clause-too_many c = λ e. more_merged comes_before 16384 _ _ (c.in-Err.ensures.too_many e)
