use Rattle.std.specs.Prelude.{◌≡◌}
use Rattle.plan_back.specs.Backs.{inverse_of, TakesBack}
use Rattle.plan_back.proofs.Accepted.{if_ok}
use Rattle.plan_back.proofs.Backs.{inverse_takes_back}
use Rattle.plan_back.proofs.inverting.inverse.Goals as goal

pub returns-clause-takes_back : goal.returns-clause-takes_back
returns-clause-takes_back c =
    λ none. if_ok (λ other. other ≡ inverse_of c.args.plan.now c.args.back.now) (λ other. TakesBack c.args.plan.now c.args.back.now other)
    (λ other e. rw e (inverse_takes_back c.args.plan.now c.args.back.now c.plan_is_sound.ensures c.requires.shift none))
    c.other_way.result c.other_way.ensures
