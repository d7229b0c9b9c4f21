use Rattle.desk_core.proofs.lines.follow.Goals as goal

pub returns-in-ShowWatch-clause-there : goal.returns-in-ShowWatch-clause-there
returns-in-ShowWatch-clause-there g c = c.show_watch.ensures.there c.args.editor.now

pub returns-in-Unwatch-clause-there : goal.returns-in-Unwatch-clause-there
returns-in-Unwatch-clause-there g c = c.let_go.ensures.there c.args.editor.now
