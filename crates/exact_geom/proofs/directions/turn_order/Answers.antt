use Rattle.std.proofs.Common.{sym}
use Rattle.std.specs.Prelude.{true, false}
use Rattle.exact_geom.proofs.Turns.{order_within, order_down, order_up}
use Rattle.exact_geom.proofs.directions.turn_order.Goals as goal

pub returns-in-true-true : goal.returns-in-true-true
returns-in-true-true c = let e = order_within c.args.d c.args.e true (cc) (cc) in cc

pub returns-in-true-false : goal.returns-in-true-false
returns-in-true-false c = sym (order_down c.args.d c.args.e (cc) (cc))

pub returns-in-false-true : goal.returns-in-false-true
returns-in-false-true c = sym (order_up c.args.d c.args.e (cc) (cc))

pub returns-in-false-false : goal.returns-in-false-false
returns-in-false-false c = let e = order_within c.args.d c.args.e false (cc) (cc) in cc
