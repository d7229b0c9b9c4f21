use Rattle.std.proofs.Common.{sym, subst}
use Rattle.std.specs.Prelude.{All}
use Rattle.std.proofs.lemmas.Result.{on_ok_weaker}
use Rattle.std.proofs.lemmas.List.Elements.{All-push}
use Rattle.sight_sweep.specs.Actives.{IsOf}
use Rattle.sight_sweep.proofs.covers.push_cover.Goals as goal

pub returns : goal.returns
returns c known = on_ok_weaker c.push.result
    (λ pushed. subst (All (IsOf c.args.table.now c.args.p)) (sym pushed)
    (All-push (IsOf c.args.table.now c.args.p) c.args.covers.now.items c.in-Some.blocker known c.in-Some.ensures.known))
    c.push.ensures.pushed
