use Rattle.plan_back.specs.Backs.{TakesBack, name_of, plan_after_back}
use Rattle.plan_back.proofs.Accepted.{if_ok}
use Rattle.plan_undo.specs.Ways.{IsWayBack}
use Rattle.plan_undo.proofs.ways.way_back.Goals as goal

pub returns : goal.returns
returns c =
    λ none. if_ok (TakesBack c.args.plan.now c.args.back.now) (IsWayBack c.args.plan.now (plan_after_back c.args.plan.now c.args.back.now) (name_of c.args.back.now))
    (λ other t. record { way = record { place = t.place; shift = t.shift; valid = t.valid }; gives = t.gives; named = t.named })
    c.inverse.result (c.inverse.ensures.takes_back none)
