use Rattle.plan_answers.proofs.Keeping.{keeps_same, keeps_with_lines}
use Rattle.plan_answers.proofs.found.find_lines.Goals as goal

pub returns-in-Ok-clause-keeps : goal.returns-in-Ok-clause-keeps
returns-in-Ok-clause-keeps c =
    keeps_with_lines _ _ c.in-Ok.ensures.made

pub returns-in-Err-TooManyLines-clause-keeps : goal.returns-in-Err-TooManyLines-clause-keeps
returns-in-Err-TooManyLines-clause-keeps c =
    keeps_same _ _ c.in-Err-TooManyLines.ensures.stays

pub returns-in-Err-NoMemory-clause-keeps : goal.returns-in-Err-NoMemory-clause-keeps
returns-in-Err-NoMemory-clause-keeps c =
    keeps_same _ _ c.in-Err-NoMemory.ensures.stays
