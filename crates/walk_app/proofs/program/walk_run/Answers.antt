use Rattle.walk_app.specs.Words.{options_given}
use Rattle.walk_app.proofs.Complete.{ends-complete}
use Rattle.walk_app.proofs.OnceAtMost.{once-at_most}
use Rattle.walk_app.proofs.WholeOutput.{ends-output}
use Rattle.walk_app.proofs.program.walk_run.Goals as goal

pub returns-clause-output : goal.returns-clause-output
returns-clause-output g c =
    ends-output (options_given c.args.words.now) (g.F.Files.holds c.args.files.now) _ _ c.answer-status.result
    c.answer-status.ensures.ends

pub returns-clause-complete : goal.returns-clause-complete
returns-clause-complete g c =
    ends-complete (options_given c.args.words.now) (g.F.Files.holds c.args.files.now) _ _ c.answer-status.result
    c.answer-status.ensures.ends

pub returns-clause-once : goal.returns-clause-once
returns-clause-once g c =
    once-at_most (options_given c.args.words.now) (g.F.Files.holds c.args.files.now) _ _ _ _ _ _ _ _ _ _ c.answer-status.result
    c.answer-status.ensures.ends c.answer-status.ensures.why c.answer-status.ensures.silent c.say.ensures.said
    c.say.ensures.silent
